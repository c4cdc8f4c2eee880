-- Only complete transactions are shown.
use Rattle.std.proofs.Common.{◌≡◌, ℕ, Bool, true, false, not, List, [], ◌∷◌, ◌++◌, Option, Some, None, refl, ap, inl, inr}
use Rattle.std.specs.Prelude.{nat_eq, codes}
use Rattle.std.specs.List.{starts_with}
use Rattle.feed_checks.specs.declared.verdict.Verdict.{Verdict}
use Rattle.feed_checks.specs.declared.verdict.Verdict.TheVariants as verdicts
use Rattle.feed_checks.specs.PastLists.{first, when}
use Rattle.feed_checks.specs.EventFields.{Event, log_pos_of, in_force}
use Rattle.feed_transactions.specs.MappedRows.{Change, Insert, Update, Delete}
use Rattle.feed_checks.specs.Kinds.{Kind, Format, NextGtid, Begin, Commit, Rollback, Statement, Map, Rows, RealRotate, Ignored, Unshown, Unknown, BadBody, is_inside, waiting, kinds, kind_of}
use Rattle.feed_checks.specs.Damage.{outer_fault}
use Rattle.feed_transactions.specs.Checks.{inner_fault, fault_of}
use Rattle.feed_transactions.specs.Transactions.{Transaction, Line, Changed, Stated, committed, kind_shows, shown_by, lines_of}
use Rattle.feed_transactions.specs.Rules.{up_to_fault, shown_after, rules}
use Rattle.feed_transactions.specs.TransactionTexts.{with_line_feed, change_word, names_text, images_text, line_text}
use Rattle.feed_transactions.specs.ReportLaws.{IsCommitted, IsCompleteTransaction, IsCompleteAtEvent, in_log_order, Each}
use Rattle.binlog_feed.proofs.KindLemmas.{inside-open}

-- an event that passes all checks passes those of its kind
abbrev or_else : Option Verdict → Option Verdict → Option Verdict
or_else o p = elim o [ Some v ↦ Some v | None ↦ p ]

passes : (o p : Option Verdict) → or_else o p ≡ None → p ≡ None
passes None p h = h
passes (Some v) p h = absurd cc

inside_then : (b : Bool) → first (when (not b) verdicts.Outside ∷ None ∷ []) ≡ None → b ≡ true
inside_then true h = refl
inside_then false h = absurd cc

committed-whole : (past : List Kind) (position : ℕ) → is_inside past ≡ true → IsCommitted past (committed past position)
committed-whole past position h =
    let o = inside-open past h in record {
      middle = o.middle;
      older = o.older;
      split = o.split;
      unbroken = o.unbroken;
      gtid_is = ap waiting o.before_is;
      lines_are = ap lines_of o.since_is;
    }

-- a statement that shows a transaction is outside any other
lone : (P : Transaction → Type 0) (b : Bool) (t : Transaction) → (b ≡ false → P t) → Each P (elim b [ true ↦ [] | false ↦ t ∷ [] ])
lone P true t h = tt
lone P false t h = (h refl, tt)

each-whole : (past : List Kind) (k : Kind) (position : ℕ) → inner_fault past k ≡ None → Each (λ t. IsCompleteTransaction past k t × (t.position ≡ position)) (kind_shows past k position)
each-whole past Commit position h = ((inl (refl, committed-whole past position (inside_then (is_inside past) h)), refl), tt)
each-whole past (Statement q) position h =
    lone (λ t. IsCompleteTransaction past (Statement q) t × (t.position ≡ position)) (is_inside past) (record { gtid = waiting past; lines = Stated q ∷ []; position = position }) (λ o.
    (inr (record { query = q; kind_is = refl; outside = o; gtid_is = refl; lines_are = refl }), refl))
each-whole past Format position h = tt
each-whole past (NextGtid g) position h = tt
each-whole past Begin position h = tt
each-whole past Rollback position h = tt
each-whole past (Map m) position h = tt
each-whole past (Rows r) position h = tt
each-whole past RealRotate position h = tt
each-whole past Ignored position h = tt
each-whole past Unshown position h = tt
each-whole past Unknown position h = tt
each-whole past BadBody position h = tt

Each-map : {A : Type 0} (P Q : A → Type 0) → ((a : A) → P a → Q a) → (xs : List A) → Each P xs → Each Q xs
Each-map P Q f [] h = tt
Each-map P Q f (x ∷ xs) h = (f x h.0, Each-map P Q f xs h.1)

Each-both : {A : Type 0} (P : A → Type 0) (xs ys : List A) → Each P xs → Each P ys → Each P (xs ++ ys)
Each-both P [] ys h k = k
Each-both P (x ∷ xs) ys h k = (h.0, Each-both P xs ys h.1 k)

-- what one event shows after others, in a list that goes on
one-of : (f : List ℕ → ℕ) (past : List Event) (e : Event) (later : List Event) → fault_of f past e ≡ None → Each (IsCompleteAtEvent (in_log_order past (e ∷ later))) (shown_by past e)
unfolding fault_of shown_by
one-of f past e later h =
    let P : Transaction → Type 0 = λ t. IsCompleteTransaction (kinds past) (kind_of e (in_force past)) t × (t.position ≡ log_pos_of e) in
    Each-map P (IsCompleteAtEvent (in_log_order past (e ∷ later))) (λ t w. record { past = past; event = e; later = later; split = refl; position_is = w.1; whole = w.0 })
    (shown_by past e) (each-whole (kinds past) (kind_of e (in_force past)) (log_pos_of e) (passes (outer_fault f e (in_force past)) (inner_fault (kinds past) (kind_of e (in_force past))) h))

abbrev up_to : Event → List Event → Option Verdict → List Event
up_to e l o = elim o [ None ↦ e ∷ l | Some v ↦ [] ]

-- the event is good and the list goes on, or nothing is shown
either : (f : List ℕ → ℕ) (past : List Event) (e : Event) (l : List Event) (o : Option Verdict)
    → (o ≡ None → Each (IsCompleteAtEvent (in_log_order past (e ∷ l))) (shown_by past e)) → Each (IsCompleteAtEvent (in_log_order past (e ∷ l))) (shown_after (rules f) (e ∷ past) l)
    → Each (IsCompleteAtEvent (in_log_order past (up_to e l o))) (shown_after (rules f) past (up_to e l o))
unfolding shown_after
either f past e l None h k = Each-both (IsCompleteAtEvent (in_log_order past (e ∷ l))) (shown_by past e) (shown_after (rules f) (e ∷ past) l) (h refl) k
either f past e l (Some v) h k = tt

pub all-whole : (f : List ℕ → ℕ) (past l : List Event) → Each (IsCompleteAtEvent (in_log_order past (up_to_fault (fault_of f) past l))) (shown_after (rules f) past (up_to_fault (fault_of f) past l))
unfolding up_to_fault shown_after
all-whole f past [] = tt
all-whole f past (e ∷ l) =
    either f past e (up_to_fault (fault_of f) (e ∷ past) l) (fault_of f past e) (one-of f past e (up_to_fault (fault_of f) (e ∷ past) l)) (all-whole f (e ∷ past) l)

-- a row's line begins with the word for its change
no-opening : (c : Change) (database table : List ℕ) (images : List (List ℕ)) → starts_with nat_eq (with_line_feed (change_word c ++ names_text database table ++ images_text images)) (codes "begin ") ≡ false
no-opening Insert d t i = refl
no-opening Update d t i = refl
no-opening Delete d t i = refl

no-closing : (c : Change) (database table : List ℕ) (images : List (List ℕ)) → starts_with nat_eq (with_line_feed (change_word c ++ names_text database table ++ images_text images)) (codes "commit ") ≡ false
no-closing Insert d t i = refl
no-closing Update d t i = refl
no-closing Delete d t i = refl

pub not_opening : (x : Line) → starts_with nat_eq (line_text x) (codes "begin ") ≡ false
unfolding line_text
not_opening (Changed r) = no-opening r.on_rows r.database r.table r.images
not_opening (Stated q) = refl

pub not_closing : (x : Line) → starts_with nat_eq (line_text x) (codes "commit ") ≡ false
unfolding line_text
not_closing (Changed r) = no-closing r.on_rows r.database r.table r.images
not_closing (Stated q) = refl
