-- What a reader gives, and what is found in it.
use Rattle.std.proofs.Common.{◌≡◌, ◌<◌, ◌^◌, ◌⊎◌, inl, inr, ℕ, Bool, true, false, List, [], ◌∷◌, ◌++◌, length, Option, None, refl, sym, subst, ◌∙◌, arith, ap}
use Rattle.std.specs.Io.KnownBytes.{Consumes, IsAtEnd}
use Rattle.std.proofs.KnownBytes.{Consumes-nil, Consumes-trans}
use Rattle.std.proofs.lemmas.List.{length-append}
use Rattle.std.proofs.lemmas.Bool.{false≢true}
use Rattle.feed_resume.specs.Conditions.{onto}
use Rattle.feed_resume.specs.Kept.{lines}
use Rattle.changes_resume.specs.KeptJson.{is_last_line, kept_lines_back, kept_lines, kept_len, first_line}
use Rattle.changes_resume.specs.ResumePoints.{HasResumePoint}
use Rattle.changes_resume.specs.LineKeepers.{RepresentsLines}
use Rattle.changes_resume.specs.FoundJson.{IsKeptJson, HasNoPoint, ReadsAll, IsInputError, IsKeptJsonError}
use Rattle.changes_resume.specs.declared.line_keeper.LineKeeper.{LineKeeper}
use Rattle.changes_resume.specs.declared.reading.KeptJsonError.{KeptJsonError}
use Rattle.changes_resume.specs.declared.reading.KeptJsonError.TheVariants as errors

-- these bytes were read and taken
pub record TakesText (old new : Option (List ℕ)) (keeper : LineKeeper) : Type 0 where
  pub text : List ℕ
  pub consumed : Consumes old new text
  pub represents : length text < 2 ^ 64 → RepresentsLines keeper text

pub takes_none : (old : Option (List ℕ)) (keeper : LineKeeper) → RepresentsLines keeper [] → TakesText old old keeper
takes_none old keeper h = record { text = []; consumed = Consumes-nil old; represents = λ short. h }

pub takes_piece : (old mid new : Option (List ℕ)) (keeper next : LineKeeper) (piece : List ℕ) → TakesText old mid keeper → Consumes mid new piece
    → ((text : List ℕ) → RepresentsLines keeper text → length (text ++ piece) < 2 ^ 64 → RepresentsLines next (text ++ piece)) → TakesText old new next
takes_piece old mid new keeper next piece h c took = record {
  text = h.text ++ piece;
  consumed = Consumes-trans old mid new h.text piece h.consumed c;
  represents = λ short. took h.text (h.represents (omega (arith, short, length-append h.text piece))) short;
}

pub all_taken : (old new : Option (List ℕ)) (keeper : LineKeeper) → TakesText old new keeper → IsAtEnd new → ReadsAll old new (RepresentsLines keeper)
all_taken old new keeper h e = record { text = h.text; consumed = h.consumed; at_end = e; found = h.represents }

pub input_error : (old new : Option (List ℕ)) (failed : Bool) (e : KeptJsonError) → IsInputError failed e → IsKeptJsonError old new failed e
input_error old new failed errors.Memory h = h
input_error old new failed errors.Read h = h
input_error old new failed errors.Line h = absurd h

-- more holds of the bytes
pub reads_more : (old new : Option (List ℕ)) (P Q : List ℕ → Type 0) → ReadsAll old new P → ((text : List ℕ) → P text → Q text) → ReadsAll old new Q
reads_more old new P Q r f = record { text = r.text; consumed = r.consumed; at_end = r.at_end; found = λ short. f r.text (r.found short) }

-- the first kept line ends a transaction
record FirstEnds (kept : List (List ℕ)) : Type 0 where
  line : List ℕ
  earlier : List (List ℕ)
  is : kept ≡ line ∷ earlier
  ends : is_last_line line ≡ true

none_or_first : (l : List (List ℕ)) → (kept_lines_back l ≡ []) ⊎ FirstEnds (kept_lines_back l)
unfolding kept_lines_back
none_or_first [] = inl refl
none_or_first (line ∷ earlier) = by_end (is_last_line line) refl (none_or_first earlier) where
  by_end : (b : Bool) → is_last_line line ≡ b → (kept_lines_back earlier ≡ []) ⊎ FirstEnds (kept_lines_back earlier) → (kept_lines_back (line ∷ earlier) ≡ []) ⊎ FirstEnds (kept_lines_back (line ∷ earlier))
  by_end true e h = inr (record { line = line; earlier = earlier; is = rw (kept_lines_back, e) refl; ends = e })
  by_end false e h = let same : kept_lines_back (line ∷ earlier) ≡ kept_lines_back earlier = rw (kept_lines_back, e) refl in subst (λ (k : List (List ℕ)). (k ≡ []) ⊎ FirstEnds k) (sym same) h

some_end : (line : List ℕ) → is_last_line line ≡ true → 0 < length line
some_end [] e = absurd (false≢true e)
some_end (b ∷ line) e = omega arith

-- nothing is kept if the kept line is empty
pub none_kept : (text : List ℕ) → length (first_line (kept_lines text)) ≡ 0 → kept_lines text ≡ []
unfolding kept_lines
none_kept text h = elim (none_or_first (onto [] (lines text))) [
  | inl e ↦ e
  | inr f ↦ absurd (omega (arith, some_end f.line f.ends, h, ap (λ k. length (first_line k)) f.is))
]

-- some line is kept otherwise
pub first_kept : (text : List ℕ) → 0 < length (first_line (kept_lines text)) → (earlier : List (List ℕ)) × (kept_lines text ≡ first_line (kept_lines text) ∷ earlier)
unfolding kept_lines
first_kept text h = elim (none_or_first (onto [] (lines text))) [
  | inl e ↦ absurd (omega (arith, h, ap (λ k. length (first_line k)) e))
  | inr f ↦ (f.earlier, f.is ∙ ap (λ l. l ∷ f.earlier) (sym (ap first_line f.is)))
]

pub keeps_nothing : (text : List ℕ) (len : ℕ) → len ≡ kept_len text → length (first_line (kept_lines text)) ≡ 0 → IsKeptJson text (record { len = len; resume_point = None })
keeps_nothing text len e h = record { len_is = e; point_is = none_kept text h }

pub has_no_point : (text : List ℕ) → 0 < length (first_line (kept_lines text)) → ((file : List ℕ) (position : ℕ) → ¬ (HasResumePoint (first_line (kept_lines text)) file position)) → HasNoPoint text
has_no_point text h none = let f = first_kept text h in record { line = first_line (kept_lines text); earlier = f.0; kept_is = f.1; none = none }
