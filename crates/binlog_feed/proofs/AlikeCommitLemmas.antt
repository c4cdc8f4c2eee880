-- From a position between transactions on, earlier events don't matter for what is committed, except for the description in force.
use Rattle.std.proofs.Common.{◌≡◌, ℕ, Bool, true, false, not, List, [], ◌∷◌, ◌++◌, Option, None, refl, sym, ap, ◌∙◌, subst}
use Rattle.events_frames.specs.Descriptions.{Description}
use Rattle.events_frames.specs.Headers.{Header}
use Rattle.feed_checks.specs.declared.verdict.Verdict.TheVariants as verdicts
use Rattle.feed_checks.specs.PastLists.{first, when, before_newest}
use Rattle.feed_checks.specs.EventFields.{Event, header_of, is_description, description_of, in_force}
use Rattle.feed_checks.specs.Kinds.{Gtid, Kind, Format, NextGtid, Begin, Commit, Rollback, Statement, Map, Rows, RealRotate, Ignored, Unshown, Unknown, BadBody, is_inside, is_begin, waiting, kinds, kind_of}
use Rattle.feed_transactions.specs.Changes.{Committed, OfStatement, HeadedKind, kinds_in, headed_kinds, headed_since_begin, changes_of, kind_commits, committed_by}
use Rattle.feed_transactions.specs.Checks.{inner_fault, fault_of}
use Rattle.feed_transactions.specs.ReportLaws.{IsBetween}
use Rattle.feed_transactions.specs.Rules.{up_to_fault}
use Rattle.feed_transactions.proofs.BetweenLemmas.{in_force-cons, goods-like, between-like}
use Rattle.feed_transactions.proofs.RuleLemmas.{AreGood}
use Rattle.feed_transactions.proofs.TakingLemmas.{headed_are}
use Rattle.feed_change_log.specs.CommittedLists.{committed_after}
use Rattle.feed_replication.proofs.ResumeLemmas.{inner-none}
use Rattle.feed_replication.proofs.RunLemmas.{up_to_fault-good}
use Rattle.binlog_feed.proofs.ChangeFollowLemmas.{commits_after, committed_good}

-- two pasts that no later event distinguishes
record AreAlike (K L : List HeadedKind) : Type 0 where
  inside : is_inside (kinds_in K) ≡ is_inside (kinds_in L)
  waiting_is : waiting (kinds_in K) ≡ waiting (kinds_in L)
  since_is : is_inside (kinds_in K) ≡ true → headed_since_begin K ≡ headed_since_begin L
  named : is_inside (kinds_in K) ≡ true → waiting (before_newest is_begin (kinds_in K)) ≡ waiting (before_newest is_begin (kinds_in L))

between_alike : (K L : List HeadedKind) → IsBetween (kinds_in K) → IsBetween (kinds_in L) → AreAlike K L
between_alike K L k l = record {
  inside = k.outside ∙ sym l.outside;
  waiting_is = k.none_waits ∙ sym l.none_waits;
  since_is = λ h. absurd (no k.outside h);
  named = λ h. absurd (no k.outside h);
}
  where
    no : is_inside (kinds_in K) ≡ false → is_inside (kinds_in K) ≡ true → ⊥
    no a b = let c : false ≡ true = sym a ∙ b in absurd cc

abbrev headed : Header → Kind → HeadedKind
headed h k = record { header = h; kind = k }

-- one more kind that neither opens nor ends a transaction, nor concerns GTIDs
same : (h : Header) (k : Kind) (K L : List HeadedKind) → ((P : List Kind) → is_inside (k ∷ P) ≡ is_inside P) → ((P : List HeadedKind) → headed_since_begin (headed h k ∷ P) ≡ headed h k ∷ headed_since_begin P)
    → ((P : List Kind) → before_newest is_begin (k ∷ P) ≡ before_newest is_begin P) → waiting (k ∷ kinds_in K) ≡ waiting (k ∷ kinds_in L) → AreAlike K L → AreAlike (headed h k ∷ K) (headed h k ∷ L)
same h k K L i s b w a = record {
  inside = i (kinds_in K) ∙ a.inside ∙ sym (i (kinds_in L));
  waiting_is = w;
  since_is = λ t. s K ∙ ap (λ (P : List HeadedKind). headed h k ∷ P) (a.since_is (sym (i (kinds_in K)) ∙ t)) ∙ sym (s L);
  named = λ t. ap waiting (b (kinds_in K)) ∙ a.named (sym (i (kinds_in K)) ∙ t) ∙ ap waiting (sym (b (kinds_in L)));
}

longer : (h : Header) (k : Kind) (K L : List HeadedKind) → AreAlike K L → AreAlike (headed h k ∷ K) (headed h k ∷ L)
unfolding is_inside waiting headed_since_begin
longer h Begin K L a = record { inside = refl; waiting_is = refl; since_is = λ t. refl; named = λ t. a.waiting_is }
longer h Commit K L a = record { inside = refl; waiting_is = a.waiting_is; since_is = λ t. absurd cc; named = λ t. absurd cc }
longer h Rollback K L a = record { inside = refl; waiting_is = a.waiting_is; since_is = λ t. absurd cc; named = λ t. absurd cc }
longer h Format K L a = record { inside = refl; waiting_is = refl; since_is = λ t. absurd cc; named = λ t. absurd cc }
longer h (NextGtid g) K L a = same h (NextGtid g) K L (λ P. refl) (λ P. refl) (λ P. refl) refl a
longer h (Statement q) K L a = same h (Statement q) K L (λ P. refl) (λ P. refl) (λ P. refl) refl a
longer h (Map m) K L a = same h (Map m) K L (λ P. refl) (λ P. refl) (λ P. refl) a.waiting_is a
longer h (Rows r) K L a = same h (Rows r) K L (λ P. refl) (λ P. refl) (λ P. refl) a.waiting_is a
longer h RealRotate K L a = same h RealRotate K L (λ P. refl) (λ P. refl) (λ P. refl) a.waiting_is a
longer h Ignored K L a = same h Ignored K L (λ P. refl) (λ P. refl) (λ P. refl) a.waiting_is a
longer h Unshown K L a = same h Unshown K L (λ P. refl) (λ P. refl) (λ P. refl) a.waiting_is a
longer h Unknown K L a = same h Unknown K L (λ P. refl) (λ P. refl) (λ P. refl) a.waiting_is a
longer h BadBody K L a = same h BadBody K L (λ P. refl) (λ P. refl) (λ P. refl) a.waiting_is a

inside_then : (b : Bool) → first (when (not b) verdicts.Outside ∷ None ∷ []) ≡ None → b ≡ true
inside_then true h = refl
inside_then false h = absurd cc

-- what a kind that passes its checks commits
commits_alike : (h : Header) (k : Kind) (K L : List HeadedKind) → AreAlike K L → inner_fault (kinds_in K) k ≡ None → kind_commits K h k ≡ kind_commits L h k
commits_alike h Commit K L a n =
    let t = inside_then (is_inside (kinds_in K)) n in
    ap (λ (g : Option Gtid). record { gtid = g; changes = changes_of (headed_since_begin K); commit = h } ∷ []) (a.named t)
    ∙ ap (λ (P : List HeadedKind). record { gtid = waiting (before_newest is_begin (kinds_in L)); changes = changes_of P; commit = h } ∷ []) (a.since_is t)
commits_alike h (Statement q) K L a n =
    ap (λ (b : Bool). elim b [ true ↦ [] | false ↦ record { gtid = waiting (kinds_in K); changes = record { header = h; content = OfStatement q } ∷ []; commit = h } ∷ [] ]) a.inside
    ∙ ap (λ (g : Option Gtid). elim (is_inside (kinds_in L)) [ true ↦ [] | false ↦ record { gtid = g; changes = record { header = h; content = OfStatement q } ∷ []; commit = h } ∷ [] ]) a.waiting_is
commits_alike h Begin K L a n = refl
commits_alike h Rollback K L a n = refl
commits_alike h Format K L a n = refl
commits_alike h (NextGtid g) K L a n = refl
commits_alike h (Map m) K L a n = refl
commits_alike h (Rows r) K L a n = refl
commits_alike h RealRotate K L a n = refl
commits_alike h Ignored K L a n = refl
commits_alike h Unshown K L a n = refl
commits_alike h Unknown K L a n = refl
commits_alike h BadBody K L a n = refl

-- ---- events

-- two pasts of events that no later event distinguishes
record AreLike (p q : List Event) : Type 0 where
  force : in_force p ≡ in_force q
  kinds_are : AreAlike (headed_kinds p) (headed_kinds q)

kinds_alike : (e : Event) (d c : Description) (K L : List HeadedKind) → d ≡ c → AreAlike K L → AreAlike (headed (header_of e) (kind_of e d) ∷ K) (headed (header_of e) (kind_of e c) ∷ L)
kinds_alike e d c K L h a = let P : Description → Type 0 = λ x. AreAlike (headed (header_of e) (kind_of e d) ∷ K) (headed (header_of e) (kind_of e x) ∷ L) in subst P h (longer (header_of e) (kind_of e d) K L a)

like_cons : (e : Event) (p q : List Event) → AreLike p q → AreLike (e ∷ p) (e ∷ q)
unfolding headed_kinds
like_cons e p q h = record {
  force = in_force-cons e p ∙ ap (λ (d : Description). elim (is_description e) [ true ↦ description_of e | false ↦ d ]) h.force ∙ sym (in_force-cons e q);
  kinds_are = kinds_alike e (in_force p) (in_force q) (headed_kinds p) (headed_kinds q) h.force h.kinds_are;
}

committed_alike : (f : List ℕ → ℕ) (p q : List Event) (e : Event) → AreLike p q → fault_of f p e ≡ None → committed_by p e ≡ committed_by q e
unfolding committed_by
committed_alike f p q e h n =
    commits_alike (header_of e) (kind_of e (in_force p)) (headed_kinds p) (headed_kinds q) h.kinds_are (ap (λ (ks : List Kind). inner_fault ks (kind_of e (in_force p))) (headed_are p) ∙ inner-none f p e n)
    ∙ ap (λ (d : Description). kind_commits (headed_kinds q) (header_of e) (kind_of e d)) h.force

commits_like : (f : List ℕ → ℕ) (p q l : List Event) → AreLike p q → AreGood (fault_of f) p l → commits_after p l ≡ commits_after q l
commits_like f p q [] h good = refl
commits_like f p q (e ∷ l) h good =
    ap (λ (ts : List Committed). ts ++ commits_after (e ∷ p) l) (committed_alike f p q e h good.0) ∙ ap (λ (ts : List Committed). committed_by q e ++ ts) (commits_like f (e ∷ p) (e ∷ q) l (like_cons e p q h) good.1)

-- from two positions between transactions with the same description in force, the same events commit the same
pub committed_like : (f : List ℕ → ℕ) (p q l : List Event) → in_force p ≡ in_force q → IsBetween (kinds p) → IsBetween (kinds q) → committed_after (fault_of f) p l ≡ committed_after (fault_of f) q l
committed_like f p q l force a b =
    let like : AreLike p q = record { force = force; kinds_are = between_alike (headed_kinds p) (headed_kinds q) (subst IsBetween (sym (headed_are p)) a) (subst IsBetween (sym (headed_are q)) b) } in
    committed_good (fault_of f) p l
    ∙ commits_like f p q (up_to_fault (fault_of f) p l) like (up_to_fault-good (fault_of f) p l)
    ∙ ap (commits_after q) (goods-like f p q l (between-like p q force a b))
    ∙ sym (committed_good (fault_of f) q l)
