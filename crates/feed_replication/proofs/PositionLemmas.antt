-- Positions in a file, and when a server sends from one.
use Rattle.std.proofs.Common.{◌≡◌, ℕ, ◌+◌, ◌-◌, ◌<◌, ◌≤◌, Bool, true, false, not, ◌⊎◌, inl, inr, List, [], ◌∷◌, ◌++◌, length, drop, Option, Some, None, refl, sym, ap, ◌∙◌, length-append, arith}
use Rattle.std.specs.Prelude.{◌&&◌, nat_lt, nat_le, ◌==◌, option_map}
use Rattle.std.proofs.Math.Seq.{drop-append_seam}
use Rattle.feed_checks.specs.declared.verdict.Verdict.{Verdict}
use Rattle.feed_checks.specs.declared.verdict.Verdict.TheVariants as verdicts
use Rattle.feed_checks.specs.PastLists.{first, when, onto}
use Rattle.feed_checks.specs.EventFields.{Event}
use Rattle.feed_transactions.specs.ReportLaws.{Each}
use Rattle.feed_transactions.specs.Rules.{Rules, fault_after}
use Rattle.feed_transactions.proofs.RuleLemmas.{AreGood}
use Rattle.feed_checks.specs.LogFormat.{joined, has_magic_number}
use Rattle.feed_transactions.specs.Reports.{file_events}
use Rattle.feed_replication.specs.declared.served.Refusal.TheVariants as errors
use Rattle.feed_replication.specs.declared.served.Served.{Served}
use Rattle.feed_replication.specs.declared.served.Served.TheVariants.{Refused, Fault}
use Rattle.feed_replication.specs.Positions.{events_within, events_before, events_from, is_event_boundary, end_of_events}
use Rattle.feed_replication.specs.Serving.{damage_before, rejection_or_fault}
use Rattle.feed_replication.proofs.SeekLemmas.{events_within-zero}

-- ---- lists

-- of two prefixes of a list one is a prefix of the other
abbrev pub After : {A : Type 0} → List A → List A → List A → List A → Type 0
After {A = A} a b c d = (w : List A) × (a ≡ c ++ w) × (d ≡ w ++ b)

abbrev pub Shorter : {A : Type 0} → List A → List A → Type 0
Shorter {A = A} a c = (x : A) × (w : List A) × (c ≡ a ++ x ∷ w)

one-more : {A : Type 0} (x y : A) (a b c d : List A) → x ≡ y → After a b c d ⊎ Shorter a c → After (x ∷ a) b (y ∷ c) d ⊎ Shorter (x ∷ a) (y ∷ c)
one-more {A = A} x y a b c d e (inl h) = inl (h.0, (let k : x ∷ a ≡ y ∷ (c ++ h.0) = cc (h.1) in k), h.2)
one-more {A = A} x y a b c d e (inr h) = inr (h.0, h.1, (let k : y ∷ c ≡ x ∷ (a ++ h.0 ∷ h.1) = cc (h.2) in k))

pub prefixes : {A : Type 0} (a b c d : List A) → a ++ b ≡ c ++ d → After a b c d ⊎ Shorter a c
prefixes [] b [] d e = inl ([], refl, sym e)
prefixes [] b (x ∷ c) d e = inr (x, c, refl)
prefixes (x ∷ a) b [] d e = inl (x ∷ a, refl, sym e)
prefixes {A = A} (x ∷ a) b (y ∷ c) d e = let h : x ≡ y = cc in let t : a ++ b ≡ c ++ d = cc in one-more x y a b c d h (prefixes a b c d t)

pub Each-prefix : {A : Type 0} (P : A → Type 0) (xs ys : List A) → Each P (xs ++ ys) → Each P xs
Each-prefix P [] ys h = tt
Each-prefix P (x ∷ xs) ys h = (h.0, Each-prefix P xs ys h.1)

pub Each-back : {A : Type 0} (P : A → Type 0) (xs ys : List A) → Each P (xs ++ ys) → Each P ys
Each-back P [] ys h = h
Each-back P (x ∷ xs) ys h = Each-back P xs ys h.1

pub Each-append : {A : Type 0} (P : A → Type 0) (xs ys : List A) → Each P xs → Each P ys → Each P (xs ++ ys)
Each-append P [] ys h k = k
Each-append P (x ∷ xs) ys h k = (h.0, Each-append P xs ys h.1 k)

pub Each-onto : {A : Type 0} (P : A → Type 0) (past l : List A) → Each P past → Each P l → Each P (onto past l)
Each-onto P past [] h k = h
Each-onto P past (x ∷ l) h k = Each-onto P (x ∷ past) l (k.0, h) k.1

pub onto-append : {A : Type 0} (past a b : List A) → onto past (a ++ b) ≡ onto (onto past a) b
onto-append past [] b = refl
onto-append past (x ∷ a) b = onto-append (x ∷ past) a b

pub length-joined : (a b : List (List ℕ)) → length (joined (a ++ b)) ≡ length (joined a) + length (joined b)
length-joined [] b = omega arith
length-joined (x ∷ a) b = omega (arith, length-append x (joined (a ++ b)), length-append x (joined a), length-joined a b)

-- ---- positions

some_left : (n : ℕ) → 0 < n → nat_lt 0 n ≡ true
some_left n h = search (arith, h)

-- the events before the position after these are these
events_within-prefix : (n : ℕ) (l m : List Event) → Each (λ e. 0 < length e) l → n ≡ length (joined l) → events_within n (l ++ m) ≡ l
unfolding events_within
events_within-prefix n [] m h e = ap (λ (i : ℕ). events_within i m) e ∙ events_within-zero m
events_within-prefix n (e ∷ l) m h is =
    let a = length-append e (joined l) in
    let s : nat_lt 0 n ≡ true = some_left n (omega (arith, a, h.0)) in
    rw (events_within, s) (ap (λ (x : List Event). e ∷ x) (events_within-prefix (n - length e) l m h.1 (omega (arith, a))))

one_or_none : (e : Event) (x l : List Event) (t : Bool) → length (joined x) ≤ length (joined l) → length (joined (elim t [ true ↦ e ∷ x | false ↦ [] ])) ≤ length (joined (e ∷ l))
one_or_none e x l true h = omega (arith, length-append e (joined l), length-append e (joined x))
one_or_none e x l false h = omega arith

pub events_within-le : (n : ℕ) (l : List Event) → length (joined (events_within n l)) ≤ length (joined l)
unfolding events_within
events_within-le n [] = omega arith
events_within-le n (e ∷ l) = one_or_none e (events_within (n - length e) l) l (nat_lt 0 n) (events_within-le (n - length e) l)

-- ---- why nothing is sent

and_last : (a b : Bool) → (a && b) ≡ true → b ≡ true
and_last true b h = h
and_last false b h = absurd cc

abbrev pub reasons : Bool → Bool → Option Verdict → Bool → Option Served
reasons low m d e = first (
    when low (Refused errors.Place)
    ∷ when (not m) (Fault verdicts.Mark)
    ∷ option_map (λ v. Fault v) d
    ∷ when (not e) (Refused errors.Place)
    ∷ [])

no_reason : (low m : Bool) (d : Option Verdict) (e : Bool) → reasons low m d e ≡ None → (m ≡ true) × (e ≡ true)
no_reason true m d e h = absurd cc
no_reason false false d e h = absurd cc
no_reason false true (Some v) e h = absurd cc
no_reason false true None false h = absurd cc
no_reason false true None true h = (refl, refl)

-- if something is sent, the magic number is right, and an event begins or the last one ends at the position
pub sent-then : (r : Rules) (b : List ℕ) (position : ℕ) → rejection_or_fault r b position ≡ None → (has_magic_number b ≡ true) × (is_event_boundary b position ≡ true)
unfolding rejection_or_fault
sent-then r b position h = no_reason (nat_lt position 4) (has_magic_number b) (damage_before r b position) (is_event_boundary b position) h

same_number : (m n : ℕ) → (m == n) ≡ true → m ≡ n
same_number m n h = grind arith

pub edge-is : (b : List ℕ) (position : ℕ) → is_event_boundary b position ≡ true → 4 + length (joined (events_before b position)) ≡ position
unfolding is_event_boundary
edge-is b position h = same_number (4 + length (joined (events_before b position))) position (and_last (nat_le 4 position) (4 + length (joined (events_before b position)) == position) h)

-- damage is a fault
abbrev pub IsMild : Rules → Type 0
IsMild r = (past : List Event) (e : Event) → r.fault past e ≡ None → r.damage past e ≡ None

no-damage : (r : Rules) (past l : List Event) → IsMild r → AreGood r.fault past l → fault_after r.damage past l ≡ None
unfolding fault_after
no-damage r past [] mild g = refl
no-damage r past (e ∷ l) mild g = rw (fault_after, mild past e g.0) (no-damage r (e ∷ past) l mild g.1)

not_below : (n m : ℕ) → m ≤ n → nat_lt n m ≡ false
not_below n m h = search (arith, h)

at_least : (n m : ℕ) → m ≤ n → nat_le m n ≡ true
at_least n m h = search (arith, h)

equal_numbers : (n m : ℕ) → n ≡ m → (n == m) ≡ true
equal_numbers n m h = search (arith, h)

-- if good events end at the position, the rest is sent
pub sends-from : (r : Rules) (b : List ℕ) (position : ℕ) (l m : List Event) → IsMild r → has_magic_number b ≡ true → file_events b ≡ l ++ m → Each (λ e. 0 < length e) l → AreGood r.fault [] l → position ≡ 4 + length (joined l)
    → (events_before b position ≡ l) × (rejection_or_fault r b position ≡ None)
unfolding rejection_or_fault damage_before is_event_boundary
sends-from r b position l m mild magic is some good at =
    let w : events_before b position ≡ l = ap (λ (x : List Event). events_within (position - 4) x) is ∙ events_within-prefix (position - 4) l m some (omega (arith, at)) in
    let low : nat_lt position 4 ≡ false = not_below position 4 (omega (arith, at)) in
    let high : nat_le 4 position ≡ true = at_least position 4 (omega (arith, at)) in
    let eq : (4 + length (joined (events_before b position)) == position) ≡ true = equal_numbers (4 + length (joined (events_before b position))) position (ap (λ (x : List Event). 4 + length (joined x)) w ∙ sym at) in
    let late : nat_lt (end_of_events b) position ≡ false = not_below (end_of_events b) position (omega (arith, at, ap (λ (x : List Event). length (joined x)) is, length-joined l m)) in
    let none : fault_after r.damage [] (events_before b position) ≡ None = ap (fault_after r.damage []) w ∙ no-damage r [] l mild good in
    (w, rw (low, magic, none, late, high, eq) refl)

pub events_from-is : (b : List ℕ) (position : ℕ) (l m : List Event) → events_before b position ≡ l → file_events b ≡ l ++ m → events_from b position ≡ m
events_from-is b position l m w is = ap (λ (x : List Event). drop (length x) (file_events b)) w ∙ ap (drop (length l)) is ∙ drop-append_seam l m
