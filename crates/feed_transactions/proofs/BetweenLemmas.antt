-- From a position between transactions on, earlier events don't matter, except for the description in force.
use Rattle.std.proofs.Common.{◌≡◌, ℕ, Bool, true, false, not, List, [], ◌∷◌, ◌++◌, Option, Some, None, refl, sym, ap, ◌∙◌, subst}
use Rattle.std.specs.Prelude.{unwrap_or, is_some}
use Rattle.feed_checks.specs.declared.verdict.Verdict.{Verdict}
use Rattle.feed_checks.specs.declared.verdict.Verdict.TheVariants as verdicts
use Rattle.feed_checks.specs.PastLists.{first, when, newest, before_newest}
use Rattle.events_frames.specs.Descriptions.{Description}
use Rattle.feed_checks.specs.EventFields.{Event, log_pos_of, first_description, is_description, description_of, in_force}
use Rattle.feed_transactions.specs.MappedRows.{rows_result, fault_in}
use Rattle.feed_checks.specs.Kinds.{Gtid, Kind, Format, NextGtid, Begin, Commit, Rollback, Statement, Map, Rows, RealRotate, Ignored, Unshown, Unknown, BadBody, is_inside, is_begin, since_begin, newest_map, waiting, kinds, kind_of}
use Rattle.feed_transactions.specs.Checks.{outer_fault, inner_fault, fault_of}
use Rattle.feed_transactions.specs.Transactions.{Transaction, Stated, kind_shows, shown_by, lines_of}
use Rattle.feed_transactions.specs.Rules.{up_to_fault, fault_after, shown_after, rules}
use Rattle.feed_transactions.specs.ReportLaws.{IsBetween}

-- two pasts that no later event distinguishes
pub record AreAlike (K L : List Kind) : Type 0 where
  pub inside : is_inside K ≡ is_inside L
  pub waiting_is : waiting K ≡ waiting L
  pub since_is : is_inside K ≡ true → since_begin K ≡ since_begin L
  pub named : is_inside K ≡ true → waiting (before_newest is_begin K) ≡ waiting (before_newest is_begin L)

between-alike : (K L : List Kind) → IsBetween K → IsBetween L → AreAlike K L
between-alike K L k l = record {
  inside = k.outside ∙ sym l.outside;
  waiting_is = k.none_waits ∙ sym l.none_waits;
  since_is = λ h. absurd (no k.outside h);
  named = λ h. absurd (no k.outside h);
}
  where
    no : is_inside K ≡ false → is_inside K ≡ true → ⊥
    no a b = let c : false ≡ true = sym a ∙ b in absurd cc

-- one more kind that neither opens nor ends a transaction, nor concerns GTIDs
same : (k : Kind) (K L : List Kind) → ((P : List Kind) → is_inside (k ∷ P) ≡ is_inside P) → ((P : List Kind) → since_begin (k ∷ P) ≡ k ∷ since_begin P)
    → ((P : List Kind) → before_newest is_begin (k ∷ P) ≡ before_newest is_begin P) → waiting (k ∷ K) ≡ waiting (k ∷ L) → AreAlike K L → AreAlike (k ∷ K) (k ∷ L)
same k K L i s b w h = record {
  inside = i K ∙ h.inside ∙ sym (i L);
  waiting_is = w;
  since_is = λ t. s K ∙ ap (λ (P : List Kind). k ∷ P) (h.since_is (sym (i K) ∙ t)) ∙ sym (s L);
  named = λ t. ap waiting (b K) ∙ h.named (sym (i K) ∙ t) ∙ ap waiting (sym (b L));
}

longer : (k : Kind) (K L : List Kind) → AreAlike K L → AreAlike (k ∷ K) (k ∷ L)
unfolding is_inside waiting since_begin
longer Begin K L h = record { inside = refl; waiting_is = refl; since_is = λ t. refl; named = λ t. h.waiting_is }
longer Commit K L h = record { inside = refl; waiting_is = h.waiting_is; since_is = λ t. absurd cc; named = λ t. absurd cc }
longer Rollback K L h = record { inside = refl; waiting_is = h.waiting_is; since_is = λ t. absurd cc; named = λ t. absurd cc }
longer Format K L h = record { inside = refl; waiting_is = refl; since_is = λ t. absurd cc; named = λ t. absurd cc }
longer (NextGtid g) K L h = same (NextGtid g) K L (λ P. refl) (λ P. refl) (λ P. refl) refl h
longer (Statement q) K L h = same (Statement q) K L (λ P. refl) (λ P. refl) (λ P. refl) refl h
longer (Map m) K L h = same (Map m) K L (λ P. refl) (λ P. refl) (λ P. refl) h.waiting_is h
longer (Rows r) K L h = same (Rows r) K L (λ P. refl) (λ P. refl) (λ P. refl) h.waiting_is h
longer RealRotate K L h = same RealRotate K L (λ P. refl) (λ P. refl) (λ P. refl) h.waiting_is h
longer Ignored K L h = same Ignored K L (λ P. refl) (λ P. refl) (λ P. refl) h.waiting_is h
longer Unshown K L h = same Unshown K L (λ P. refl) (λ P. refl) (λ P. refl) h.waiting_is h
longer Unknown K L h = same Unknown K L (λ P. refl) (λ P. refl) (λ P. refl) h.waiting_is h
longer BadBody K L h = same BadBody K L (λ P. refl) (λ P. refl) (λ P. refl) h.waiting_is h

-- ---- the checks of a kind

either_position : (v : Verdict) (b c : Bool) (x y : Option Verdict) → b ≡ c → (b ≡ true → x ≡ y) → first (when (not b) v ∷ x ∷ []) ≡ first (when (not c) v ∷ y ∷ [])
either_position v true true x y e h = ap (λ (o : Option Verdict). first (o ∷ [])) (h refl)
either_position v false false x y e h = refl
either_position v true false x y e h = absurd cc
either_position v false true x y e h = absurd cc

names : Bool → Option Gtid → Option Verdict
names b w = first (first (when b verdicts.Inside ∷ when (is_some w) verdicts.Inside ∷ []) ∷ None ∷ [])

inner-alike : (k : Kind) (K L : List Kind) → AreAlike K L → inner_fault K k ≡ inner_fault L k
unfolding names
inner-alike Begin K L h = ap (λ (b : Bool). first (when b verdicts.Inside ∷ None ∷ [])) h.inside
inner-alike Commit K L h = ap (λ (b : Bool). first (when (not b) verdicts.Outside ∷ None ∷ [])) h.inside
inner-alike Rollback K L h = ap (λ (b : Bool). first (when (not b) verdicts.Outside ∷ None ∷ [])) h.inside
inner-alike Format K L h = refl
inner-alike (NextGtid g) K L h = ap (λ (b : Bool). names b (waiting K)) h.inside ∙ ap (λ (w : Option Gtid). names (is_inside L) w) h.waiting_is
inner-alike (Statement q) K L h = refl
inner-alike (Map m) K L h = refl
inner-alike (Rows r) K L h =
    either_position verdicts.Outside (is_inside K) (is_inside L) (fault_in (rows_result (newest_map (since_begin K) r.table_id) r)) (fault_in (rows_result (newest_map (since_begin L) r.table_id) r)) h.inside (λ t.
    ap (λ (P : List Kind). fault_in (rows_result (newest_map P r.table_id) r)) (h.since_is t))
inner-alike RealRotate K L h = ap (λ (b : Bool). names b (waiting K)) h.inside ∙ ap (λ (w : Option Gtid). names (is_inside L) w) h.waiting_is
inner-alike Ignored K L h = refl
inner-alike Unshown K L h = refl
inner-alike Unknown K L h = refl
inner-alike BadBody K L h = refl

inside_then : (b : Bool) → first (when (not b) verdicts.Outside ∷ None ∷ []) ≡ None → b ≡ true
inside_then true h = refl
inside_then false h = absurd cc

-- what a kind that passes its checks shows
shows-alike : (k : Kind) (position : ℕ) (K L : List Kind) → AreAlike K L → inner_fault K k ≡ None → kind_shows K k position ≡ kind_shows L k position
shows-alike Commit position K L h n =
    let t = inside_then (is_inside K) n in
    ap (λ (g : Option Gtid). record { gtid = g; lines = lines_of (since_begin K); position = position } ∷ []) (h.named t)
    ∙ ap (λ (P : List Kind). record { gtid = waiting (before_newest is_begin L); lines = lines_of P; position = position } ∷ []) (h.since_is t)
shows-alike (Statement q) position K L h n =
    ap (λ (b : Bool). elim b [ true ↦ [] | false ↦ record { gtid = waiting K; lines = Stated q ∷ []; position = position } ∷ [] ]) h.inside
    ∙ ap (λ (g : Option Gtid). elim (is_inside L) [ true ↦ [] | false ↦ record { gtid = g; lines = Stated q ∷ []; position = position } ∷ [] ]) h.waiting_is
shows-alike Begin position K L h n = refl
shows-alike Rollback position K L h n = refl
shows-alike Format position K L h n = refl
shows-alike (NextGtid g) position K L h n = refl
shows-alike (Map m) position K L h n = refl
shows-alike (Rows r) position K L h n = refl
shows-alike RealRotate position K L h n = refl
shows-alike Ignored position K L h n = refl
shows-alike Unshown position K L h n = refl
shows-alike Unknown position K L h n = refl
shows-alike BadBody position K L h n = refl

-- ---- events

-- two pasts of events that no later event distinguishes
pub record AreLike (p q : List Event) : Type 0 where
  pub force : in_force p ≡ in_force q
  pub kinds_are : AreAlike (kinds p) (kinds q)

one_more_in_force : (b : Bool) (d : Description) (n : Option Description) → unwrap_or (elim (when b d) [ Some y ↦ Some y | None ↦ n ]) first_description ≡ (elim b [ true ↦ d | false ↦ unwrap_or n first_description ])
one_more_in_force true d n = refl
one_more_in_force false d n = refl

pub in_force-cons : (e : Event) (p : List Event) → in_force (e ∷ p) ≡ (elim (is_description e) [ true ↦ description_of e | false ↦ in_force p ])
unfolding in_force
in_force-cons e p = one_more_in_force (is_description e) (description_of e) (newest (λ e. when (is_description e) (description_of e)) p)

kinds-alike : (e : Event) (d c : Description) (K L : List Kind) → d ≡ c → AreAlike K L → AreAlike (kind_of e d ∷ K) (kind_of e c ∷ L)
kinds-alike e d c K L h k = let P : Description → Type 0 = λ x. AreAlike (kind_of e d ∷ K) (kind_of e x ∷ L) in subst P h (longer (kind_of e d) K L k)

like-cons : (e : Event) (p q : List Event) → AreLike p q → AreLike (e ∷ p) (e ∷ q)
unfolding kinds
like-cons e p q h = record {
  force = in_force-cons e p ∙ ap (λ (d : Description). elim (is_description e) [ true ↦ description_of e | false ↦ d ]) h.force ∙ sym (in_force-cons e q);
  kinds_are = kinds-alike e (in_force p) (in_force q) (kinds p) (kinds q) h.force h.kinds_are;
}

abbrev or_else : Option Verdict → Option Verdict → Option Verdict
or_else o p = elim o [ Some v ↦ Some v | None ↦ p ]

passes : (o p : Option Verdict) → or_else o p ≡ None → p ≡ None
passes None p h = h
passes (Some v) p h = absurd cc

fault-like : (f : List ℕ → ℕ) (p q : List Event) (e : Event) → AreLike p q → fault_of f p e ≡ fault_of f q e
unfolding fault_of
fault-like f p q e h =
    ap (λ (o : Option Verdict). or_else (outer_fault f e (in_force p)) o) (inner-alike (kind_of e (in_force p)) (kinds p) (kinds q) h.kinds_are)
    ∙ ap (λ (d : Description). or_else (outer_fault f e d) (inner_fault (kinds q) (kind_of e d))) h.force

shown-like : (f : List ℕ → ℕ) (p q : List Event) (e : Event) → AreLike p q → fault_of f p e ≡ None → shown_by p e ≡ shown_by q e
unfolding fault_of shown_by
shown-like f p q e h n =
    shows-alike (kind_of e (in_force p)) (log_pos_of e) (kinds p) (kinds q) h.kinds_are (passes (outer_fault f e (in_force p)) (inner_fault (kinds p) (kind_of e (in_force p))) n)
    ∙ ap (λ (d : Description). kind_shows (kinds q) (kind_of e d) (log_pos_of e)) h.force

abbrev up_to : Event → List Event → Option Verdict → List Event
up_to e l o = elim o [ None ↦ e ∷ l | Some v ↦ [] ]

abbrev fault_or : Option Verdict → Option Verdict → Option Verdict
fault_or p o = elim o [ None ↦ p | Some v ↦ Some v ]

pub faults-like : (f : List ℕ → ℕ) (p q l : List Event) → AreLike p q → fault_after (fault_of f) p l ≡ fault_after (fault_of f) q l
unfolding fault_after
faults-like f p q [] h = refl
faults-like f p q (e ∷ l) h =
    ap (λ (o : Option Verdict). fault_or (fault_after (fault_of f) (e ∷ p) l) o) (fault-like f p q e h)
    ∙ ap (λ (x : Option Verdict). fault_or x (fault_of f q e)) (faults-like f (e ∷ p) (e ∷ q) l (like-cons e p q h))

pub goods-like : (f : List ℕ → ℕ) (p q l : List Event) → AreLike p q → up_to_fault (fault_of f) p l ≡ up_to_fault (fault_of f) q l
unfolding up_to_fault
goods-like f p q [] h = refl
goods-like f p q (e ∷ l) h =
    ap (λ (o : Option Verdict). up_to e (up_to_fault (fault_of f) (e ∷ p) l) o) (fault-like f p q e h)
    ∙ ap (λ (x : List Event). up_to e x (fault_of f q e)) (goods-like f (e ∷ p) (e ∷ q) l (like-cons e p q h))

either_shown : (f : List ℕ → ℕ) (p q : List Event) (e : Event) (x y : List Event) (o : Option Verdict) → (o ≡ None → shown_by p e ≡ shown_by q e)
    → shown_after (rules f) (e ∷ p) x ≡ shown_after (rules f) (e ∷ q) y → shown_after (rules f) p (up_to e x o) ≡ shown_after (rules f) q (up_to e y o)
unfolding shown_after
either_shown f p q e x y None h k =
    ap (λ (ts : List Transaction). ts ++ shown_after (rules f) (e ∷ p) x) (h refl) ∙ ap (λ (ts : List Transaction). shown_by q e ++ ts) k
either_shown f p q e x y (Some v) h k = refl

pub shows-like : (f : List ℕ → ℕ) (p q l : List Event) → AreLike p q
    → shown_after (rules f) p (up_to_fault (fault_of f) p l) ≡ shown_after (rules f) q (up_to_fault (fault_of f) q l)
unfolding up_to_fault shown_after
shows-like f p q [] h = refl
shows-like f p q (e ∷ l) h =
    either_shown f p q e (up_to_fault (fault_of f) (e ∷ p) l) (up_to_fault (fault_of f) (e ∷ q) l) (fault_of f p e) (shown-like f p q e h) (shows-like f (e ∷ p) (e ∷ q) l (like-cons e p q h))
    ∙ ap (λ (o : Option Verdict). shown_after (rules f) q (up_to e (up_to_fault (fault_of f) (e ∷ q) l) o)) (fault-like f p q e h)

-- from two positions between transactions with the same description in force, the same events have the same fault and show the same
pub between-like : (p q : List Event) → in_force p ≡ in_force q → IsBetween (kinds p) → IsBetween (kinds q) → AreLike p q
between-like p q h a b = record { force = h; kinds_are = between-alike (kinds p) (kinds q) a b }
