-- Facts about lists of events, for any rules.
use Rattle.std.proofs.Common.{◌≡◌, List, [], ◌∷◌, ◌++◌, Option, Some, None, refl, sym, ap, ◌∙◌, append_assoc}
use Rattle.feed_checks.specs.EventFields.{Event}
use Rattle.feed_checks.specs.declared.verdict.Verdict.{Verdict}
use Rattle.feed_transactions.specs.Transactions.{Transaction}
use Rattle.feed_transactions.specs.Rules.{Rules, Judge, up_to_fault, fault_after, shown_after, good, shown}
use Rattle.feed_checks.specs.PastLists.{onto}

either_good : (e : Event) (xs ys : List Event) (o : Option Verdict) → ((more : List Event) × (ys ≡ xs ++ more)) → (more : List Event) × ((elim o [ None ↦ e ∷ ys | Some v ↦ [] ]) ≡ (elim o [ None ↦ e ∷ xs | Some v ↦ [] ]) ++ more)
either_good e xs ys None h = (h.0, ap (λ (l : List Event). e ∷ l) h.1)
either_good e xs ys (Some v) h = ([], refl)

-- the good events of a prefix are a prefix of the good events
pub up_to_fault-append : (judge : Judge) (past a b : List Event) → (more : List Event) × (up_to_fault judge past (a ++ b) ≡ up_to_fault judge past a ++ more)
unfolding up_to_fault
up_to_fault-append judge past [] b = (up_to_fault judge past b, refl)
up_to_fault-append judge past (e ∷ a) b = either_good e (up_to_fault judge (e ∷ past) a) (up_to_fault judge (e ∷ past) (a ++ b)) (judge past e) (up_to_fault-append judge (e ∷ past) a b)

-- what a prefix shows is a prefix of what all show
pub shown_after-append : (r : Rules) (past a b : List Event) → (more : List Transaction) × (shown_after r past (a ++ b) ≡ shown_after r past a ++ more)
unfolding shown_after
shown_after-append r past [] b = (shown_after r past b, refl)
shown_after-append r past (e ∷ a) b =
    let h = shown_after-append r (e ∷ past) a b in
    (h.0, ap (λ (ts : List Transaction). r.shows past e ++ ts) h.1 ∙ sym (append_assoc (r.shows past e) (shown_after r (e ∷ past) a) h.0))

pub shown-append : (r : Rules) (a b : List Event) → (more : List Transaction) × (shown r (a ++ b) ≡ shown r a ++ more)
shown-append r a b =
    let g = up_to_fault-append r.fault [] a b in
    let s = shown_after-append r [] (good r a) g.0 in
    (s.0, ap (λ (l : List Event). shown_after r [] l) g.1 ∙ s.1)

-- ---- events that are no fault

-- none of these is a fault, given the events before it
abbrev pub AreGood : Judge → List Event → List Event → Type 0
AreGood judge past [] = Unit {0}
AreGood judge past (e ∷ l) = (judge past e ≡ None) × AreGood judge (e ∷ past) l

pub up_to_fault-seen : (judge : Judge) (past seen more : List Event) → AreGood judge past seen → up_to_fault judge past (seen ++ more) ≡ seen ++ up_to_fault judge (onto past seen) more
unfolding up_to_fault
up_to_fault-seen judge past [] more g = refl
up_to_fault-seen judge past (e ∷ l) more g = rw g.0 (ap (λ (x : List Event). e ∷ x) (up_to_fault-seen judge (e ∷ past) l more g.1))

pub fault_after-seen : (judge : Judge) (past seen more : List Event) → AreGood judge past seen → fault_after judge past (seen ++ more) ≡ fault_after judge (onto past seen) more
unfolding fault_after
fault_after-seen judge past [] more g = refl
fault_after-seen judge past (e ∷ l) more g = rw g.0 (fault_after-seen judge (e ∷ past) l more g.1)

pub shown_after-seen : (r : Rules) (past seen more : List Event) → shown_after r past (seen ++ more) ≡ shown_after r past seen ++ shown_after r (onto past seen) more
unfolding shown_after
shown_after-seen r past [] more = refl
shown_after-seen r past (e ∷ l) more =
    ap (λ (ts : List Transaction). r.shows past e ++ ts) (shown_after-seen r (e ∷ past) l more) ∙ sym (append_assoc (r.shows past e) (shown_after r (e ∷ past) l) (shown_after r (onto (e ∷ past) l) more))

pub onto-snoc : {A : Type 0} (past seen : List A) (e : A) → onto past (seen ++ e ∷ []) ≡ e ∷ onto past seen
onto-snoc past [] e = refl
onto-snoc past (x ∷ l) e = onto-snoc (x ∷ past) l e

pub AreGood-snoc : (judge : Judge) (past seen : List Event) (e : Event) → AreGood judge past seen → judge (onto past seen) e ≡ None → AreGood judge past (seen ++ e ∷ [])
AreGood-snoc judge past [] e g h = (h, tt)
AreGood-snoc judge past (x ∷ l) e g h = (g.0, AreGood-snoc judge (x ∷ past) l e g.1 h)

-- what events show whose first ones are good
pub shown-seen : (r : Rules) (seen more : List Event) → AreGood r.fault [] seen → shown r (seen ++ more) ≡ shown_after r [] seen ++ shown_after r (onto [] seen) (up_to_fault r.fault (onto [] seen) more)
shown-seen r seen more g =
    ap (λ (l : List Event). shown_after r [] l) (up_to_fault-seen r.fault [] seen more g) ∙ shown_after-seen r [] seen (up_to_fault r.fault (onto [] seen) more)

-- ---- the next event is a fault

pub up_to_fault-stop : (judge : Judge) (past : List Event) (e : Event) (l : List Event) (v : Verdict) → judge past e ≡ Some v → up_to_fault judge past (e ∷ l) ≡ []
unfolding up_to_fault
up_to_fault-stop judge past e l v h = rw (h, up_to_fault) refl

pub fault_after-stop : (judge : Judge) (past : List Event) (e : Event) (l : List Event) (v : Verdict) → judge past e ≡ Some v → fault_after judge past (e ∷ l) ≡ Some v
unfolding fault_after
fault_after-stop judge past e l v h = rw (h, fault_after) refl
