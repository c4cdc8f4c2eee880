-- Plain events are given as they are, and change nothing that is known of XA transactions.
use Rattle.std.proofs.Common.{◌≡◌, ◌⊎◌, inl, inr, true≢false, ℕ, ◌+◌, ◌-◌, ◌<◌, ◌≤◌, Bool, true, false, not, List, [], ◌∷◌, ◌++◌, length, take, drop, suc, refl, sym, ap, subst, ◌∙◌, arith, leb, ltb}
use Rattle.std.specs.Prelude.{◌==◌, ◌≢◌, ◌&&◌, nat_le, nat_lt, slice_index, if◌then◌else◌}
use Rattle.std.proofs.lemmas.Bool.{eq-eqb, leb-true, ltb-true, ltb-false}
use Rattle.std.proofs.lemmas.Bool.Decides.{eqb_tells}
use Rattle.std.proofs.lemmas.List.{append-nil, drop-append-le, length-drop, take-append-drop}
use Rattle.std.proofs.Math.ListN.{drop_of_length-le, get_or-append}
use Rattle.std.proofs.Math.Seq.{drop-cons}
use Rattle.byteorder.specs.Endian.{little_number}
use Rattle.byteorder.specs.Numbers.{little_from-append}
use Rattle.events_frames.specs.HeaderFields.{header_field}
use Rattle.events_frames.specs.Events.{has_event}
use Rattle.events_frames.specs.GivenEvents.{MayBe}
use Rattle.events_frames.proofs.SourceLemmas.{sizes}
use Rattle.events_replaced.specs.PlainEvents.{GivesPlain, has_plain_statement, is_plain, is_plain_byte, is_plain_type, statement_start}
use Rattle.events_replaced.specs.GivenXaEvents.{GivesXa}
use Rattle.events_replaced.specs.XaRoles.{is_indifferent, role_by, statement_of, statement_role}
use Rattle.events_replaced.specs.XaStates.{XaState, is_open}
use Rattle.events_replaced.specs.XaSteps.{before_sum, passed, passes, role_in}
use Rattle.events_replaced.specs.declared.xa_role.XaRole.TheVariants as roles
use Rattle.events_replaced.proofs.XaGivenLemmas.{to_own}
use Rattle.events_replaced.proofs.IndifferentLemmas.{parts, passes_at_once, type_before_sum}

and_two : (a b : Bool) → (a && b) ≡ true → (a ≡ true) × (b ≡ true)
and_two true true h = (refl, refl)
and_two true false h = absurd cc
and_two false b h = absurd cc

isnt : (a : Bool) → not a ≡ true → a ≡ false
isnt true h = absurd cc
isnt false h = refl

-- a text that begins with a plain byte
plain_text : (a : ℕ) (rest : List ℕ) → is_plain_byte a ≡ true → statement_role (a ∷ rest) ≡ roles.Part
plain_text a rest h =
    let t = and_two (not (a == 88)) (not (a == 82)) h in
    let x : (88 == a) ≡ false = turned 88 a (isnt (a == 88) t.0) in
    let r : (a == 82) ≡ false = isnt (a == 82) t.1 in
    rw (x, r) refl
  where
    turned : (n a : ℕ) → (a == n) ≡ false → (n == a) ≡ false
    turned n a k = by (eqb_tells n a)
      where
        by : ((n == a) ≡ true) × (n ≡ a) ⊎ ((n == a) ≡ false) × (n ≢ a) → (n == a) ≡ false
        by (inl t) = absurd (true≢false (sym (eq-eqb a n (sym t.1)) ∙ k))
        by (inr t) = t.0

module _ (p q : List ℕ) (long : 33 ≤ length p) where
  bytes_at : (k : ℕ) → k < length p → slice_index (p ++ q) k ≡ slice_index p k
  bytes_at k within = get_or-append p q 0 k within

  same_start : statement_start (p ++ q) ≡ statement_start p
  same_start =
      let status : little_number 2 (drop 30 (p ++ q)) ≡ little_number 2 (drop 30 p) = ap (little_number 2) (drop-append-le 30 p q (omega (arith, long))) ∙ little_from-append 2 (drop 30 p) q (omega (arith, long, length-drop 30 p)) in
      rw (status, bytes_at 27 (omega (arith, long))) refl

  pub part_of : is_plain_byte (slice_index (p ++ q) (statement_start (p ++ q))) ≡ true → statement_role (drop (statement_start p) p) ≡ roles.Part
  part_of plain = by (ltb (statement_start p) (length p)) refl
    where
      by : (b : Bool) → ltb (statement_start p) (length p) ≡ b → statement_role (drop (statement_start p) p) ≡ roles.Part
      by true h =
          let within : statement_start p < length p = ltb-true (statement_start p) (length p) h in
          let byte : is_plain_byte (slice_index p (statement_start p)) ≡ true = subst (λ (n : ℕ). is_plain_byte n ≡ true) (bytes_at (statement_start p) within) (subst (λ (k : ℕ). is_plain_byte (slice_index (p ++ q) k) ≡ true) same_start plain) in
          ap statement_role (drop-cons p (statement_start p) 0 within) ∙ plain_text (slice_index p (statement_start p)) (drop (suc (statement_start p)) p) byte
      by false h = ap statement_role (drop_of_length-le p (ltb-false (statement_start p) (length p) h))

cut_statement : (p q : List ℕ) → has_plain_statement (p ++ q) ≡ true → statement_role (statement_of p) ≡ roles.Part
cut_statement p q h = by (leb 33 (length p)) refl
  where
    plain : is_plain_byte (slice_index (p ++ q) (statement_start (p ++ q))) ≡ true
    plain = (and_two (ltb 33 (length (p ++ q)) && ltb (statement_start (p ++ q)) (length (p ++ q))) _ h).1

    by : (b : Bool) → leb 33 (length p) ≡ b → statement_role (statement_of p) ≡ roles.Part
    by true k = rw k (part_of p q (leb-true 33 (length p) k) plain)
    by false k = rw k refl

whole_statement : (e : List ℕ) → has_plain_statement e ≡ true → statement_role (statement_of e) ≡ roles.Part
whole_statement e h = cut_statement e [] (subst (λ (l : List ℕ). has_plain_statement l ≡ true) (sym (append-nil e)) h)

-- the statement of a plain event is a part of a transaction
plain_statement : (has_checksum : Bool) (e : List ℕ) → has_plain_statement e ≡ true → statement_role (statement_of (before_sum has_checksum e)) ≡ roles.Part
plain_statement false e h = whole_statement e h
plain_statement true e h = by (nat_le 23 (length e)) refl
  where
    by : (b : Bool) → nat_le 23 (length e) ≡ b → statement_role (statement_of (if b then take (length e - 4) e else e)) ≡ roles.Part
    by true k = cut_statement (take (length e - 4) e) (drop (length e - 4) e) (subst (λ (l : List ℕ). has_plain_statement l ≡ true) (sym (take-append-drop (length e - 4) e)) h)
    by false k = whole_statement e h

-- another plain event is no statement, and neither prepares a transaction nor describes a format
indifferent : (e : List ℕ) → (header_field 4 1 e == 2) ≡ false → is_plain_type (header_field 4 1 e) ≡ true → is_indifferent e ≡ true
indifferent e two h =
    let n : ℕ = header_field 4 1 e in
    let t = and_two (nat_lt n 40 && not (n == 15)) (not (n == 38)) h in
    let k = and_two (nat_lt n 40) (not (n == 15)) t.0 in
    rw (two, isnt (n == 15) k.1, isnt (n == 38) t.1) refl

-- a plain event is given as it is if no transaction is open, and changes nothing
pub passes_plain : (s : XaState) (e : List ℕ) → 19 ≤ length e → is_open s ≡ false → is_plain e ≡ true → (passes s (role_in s e) ≡ true) × (passed s (role_in s e) e ≡ s)
passes_plain s e long closed h = by (header_field 4 1 e == 2) refl
  where
    by : (b : Bool) → (header_field 4 1 e == 2) ≡ b → (passes s (role_in s e) ≡ true) × (passed s (role_in s e) e ≡ s)
    by true k =
        let statement : has_plain_statement e ≡ true = rw k at h in
        parts s e closed true (role_in s e)
        (ap (λ (m : ℕ). role_by m (before_sum s.has_checksum e)) (type_before_sum s.has_checksum e long) ∙ rw k (plain_statement s.has_checksum e statement))
    by false k = passes_at_once s e long closed (indifferent e k (rw k at h))

pub plain_given : (Old New : MayBe) (s : XaState) (log_pos : ℕ) (left event waiting : List ℕ) → has_event left ≡ false → is_open s ≡ false → GivesPlain Old New event waiting → GivesPlain (GivesXa Old s log_pos left) (GivesXa New s log_pos left) event []
plain_given Old New s log_pos left event waiting none closed h =
    let p = passes_plain s event (sizes event h.gives.whole.whole).0 closed h.plain in
    record { plain = h.plain; gives = to_own (GivesXa Old s log_pos left) Old New s log_pos left none (λ b given. given) event waiting h.gives s log_pos p.0 (sym p.1) left none }
