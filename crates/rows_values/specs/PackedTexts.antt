-- The steps that write the text of a decimal into a buffer from its packed bytes. Unpacked defines the text.
use Rattle.std.specs.Prelude.{◌≡◌, ◌≤◌, ◌+◌, ℕ, List, [], ◌∷◌, ◌++◌, take, length, Bool, false, nat_lt, Option, Some, None, if◌then◌else◌}
use Rattle.rows_values.specs.Digits.{top_flipped, signed, digits_in}
use Rattle.rows_values.specs.PrintedDecimals.{glyphs, significant, fraction_text, sign_text}

-- the last k digits of a number, as their characters
abbrev pub digits_text : ℕ → ℕ → List ℕ
digits_text k n = glyphs (digits_in k n)

-- packed bytes with the inversion undone: that of all bits if the decimal is negative, and that of the top bit if they are the first bytes
abbrev pub flipped_back : Bool → Bool → List ℕ → List ℕ
flipped_back negative top bytes = if top then top_flipped (signed negative bytes) else signed negative bytes

-- whether there is a digit that is not zero
abbrev pub is_shown : List ℕ → Bool
is_shown ds = nat_lt 0 (length (significant ds))

-- the text of the digits before the point so far: the sign and the digits without leading zeros; nothing if all are zeros
abbrev pub lead : Bool → List ℕ → List ℕ
lead negative ds = if is_shown ds then sign_text negative ++ glyphs (significant ds) else []

-- the text that the last k digits of one more number add to it; `shown`: a digit was written before
abbrev pub lead_piece : Bool → Bool → ℕ → ℕ → List ℕ
lead_piece negative shown k n = if shown then digits_text k n else lead negative (digits_in k n)

-- a zero if nothing else was written, after its sign
abbrev pub zero_piece : Bool → Bool → List ℕ
zero_piece shown minus = if shown then [] else sign_text minus ++ 48 ∷ []

-- the digits before the point that were written, up to `end`
pub record Leads (negative : Bool) (digits : Option (List ℕ)) (count at : ℕ) (old new : List ℕ) (end : ℕ) (shown : Bool) : Type 0 where
  pub ds : List ℕ
  pub are : digits ≡ Some ds
  pub shown_is : shown ≡ is_shown ds
  pub from : at ≤ end
  pub most : end ≤ at + (count + 1)
  pub none : shown ≡ false → end ≡ at
  pub text : take end new ≡ take at old ++ lead negative ds

-- they were written; or there are none, and the text before them is unchanged
abbrev pub LeadsOrNone : Bool → Option (List ℕ) → ℕ → ℕ → List ℕ → List ℕ → Option (ℕ × Bool) → Type 0
LeadsOrNone negative digits count at old new (Some r) = Leads negative digits count at old new r.0 r.1
LeadsOrNone negative digits count at old new None = (digits ≡ None) × (take at new ≡ take at old)

-- the digits that were written, up to `end`
pub record Follows (digits : Option (List ℕ)) (count at : ℕ) (old new : List ℕ) (end : ℕ) : Type 0 where
  pub ds : List ℕ
  pub are : digits ≡ Some ds
  pub size : length ds ≡ count
  pub end_is : end ≡ at + count
  pub text : take end new ≡ take at old ++ glyphs ds

abbrev pub FollowsOrNone : Option (List ℕ) → ℕ → ℕ → List ℕ → List ℕ → Option ℕ → Type 0
FollowsOrNone digits count at old new (Some end) = Follows digits count at old new end
FollowsOrNone digits count at old new None = (digits ≡ None) × (take at new ≡ take at old)

-- the point and the digits that were written, up to `end`
pub record Fraction (digits : Option (List ℕ)) (count at : ℕ) (old new : List ℕ) (end : ℕ) : Type 0 where
  pub ds : List ℕ
  pub are : digits ≡ Some ds
  pub size : length ds ≡ count
  pub from : at ≤ end
  pub most : end ≤ at + (count + 1)
  pub text : take end new ≡ take at old ++ fraction_text ds

abbrev pub FractionOrNone : Option (List ℕ) → ℕ → ℕ → List ℕ → List ℕ → Option ℕ → Type 0
FractionOrNone digits count at old new (Some end) = Fraction digits count at old new end
FractionOrNone digits count at old new None = (digits ≡ None) × (take at new ≡ take at old)

-- the text that was written, up to `end`
pub record Puts (piece : Option (List ℕ)) (most_long at : ℕ) (old new : List ℕ) (end : ℕ) : Type 0 where
  pub text : List ℕ
  pub is : piece ≡ Some text
  pub from : at ≤ end
  pub most : end ≤ at + most_long
  pub written : take end new ≡ take at old ++ text

-- it was written; or there is none, and the text before it is unchanged
abbrev pub PutsOrNone : Option (List ℕ) → ℕ → ℕ → List ℕ → List ℕ → Option ℕ → Type 0
PutsOrNone piece most_long at old new (Some end) = Puts piece most_long at old new end
PutsOrNone piece most_long at old new None = (piece ≡ None) × (take at new ≡ take at old)
