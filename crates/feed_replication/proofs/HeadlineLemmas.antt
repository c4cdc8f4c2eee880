-- A run prints the log's transactions.
use Rattle.std.proofs.Common.{◌≡◌, ℕ, ◌≤◌, List, [], ◌∷◌, ◌++◌, length, take, refl, ap, subst, ◌∙◌, arith}
use Rattle.std.proofs.lemmas.List.{length-append, length-take, take_all}
use Rattle.feed_checks.specs.PastLists.{onto}
use Rattle.feed_transactions.specs.Rules.{rules}
use Rattle.feed_transactions.specs.Transactions.{Transaction}
use Rattle.feed_transactions.specs.Reports.{file_transactions}
use Rattle.feed_replication.specs.declared.format.PayloadFormat.{PayloadFormat as Format}
use Rattle.feed_replication.specs.declared.step.Step.{Step}
use Rattle.feed_replication.specs.Runs.{run_back, run}
use Rattle.feed_replication.specs.Headline.{IsFollowable, IsComplete, PrintsTheLog}
use Rattle.feed_replication.proofs.GrowthLemmas.{run-grows}
use Rattle.feed_replication.proofs.RunLemmas.{once, all-after}

-- steps in sequence
onto-append : (past l m : List Step) → onto past (l ++ m) ≡ onto (onto past l) m
onto-append past [] m = refl
onto-append past (x ∷ l) m = onto-append (x ∷ past) l m

pub prints-the-log : (f : List ℕ → ℕ) (format : Format) (b : List ℕ) (steps : List Step) → IsFollowable (rules f) format b → PrintsTheLog (rules f) format b steps (run (rules f) format b steps).transactions
prints-the-log f format b steps i = record {
  each_once = once f format b i (onto [] steps);
  all = λ earlier step later split came.
      let k = run-grows (rules f) format b (step ∷ onto [] earlier) later in
      let same : (run (rules f) format b steps).transactions ≡ (run_back (rules f) format b (step ∷ onto [] earlier)).transactions ++ k.0 =
      ap (λ (x : List Step). (run (rules f) format b x).transactions) split ∙ ap (λ (x : List Step). (run_back (rules f) format b x).transactions) (onto-append [] earlier (step ∷ later)) ∙ k.1 in
      omega (arith, all-after f format b i (onto [] earlier) step came.goes_on came.whole, ap length same, length-append (run_back (rules f) format b (step ∷ onto [] earlier)).transactions k.0);
}

-- a prefix with as many elements as the list is the list
as-many : (xs ys : List Transaction) (j : ℕ) → xs ≡ take j ys → length ys ≤ length xs → xs ≡ ys
as-many xs ys j e h = e ∙ take_all j ys (omega (arith, h, ap length e, length-take j ys))

pub all-of-the-log : (f : List ℕ → ℕ) (format : Format) (b : List ℕ) (earlier : List Step) (step : Step) (later : List Step) → IsFollowable (rules f) format b → IsComplete (rules f) format b earlier step → length b ≤ step.size
    → (run (rules f) format b (earlier ++ step ∷ later)).transactions ≡ file_transactions (rules f) b
all-of-the-log f format b earlier step later i came size =
    let steps = earlier ++ step ∷ later in
    let p = prints-the-log f format b steps i in
    let there : take step.size b ≡ b = take_all step.size b size in
    as-many (run (rules f) format b steps).transactions (file_transactions (rules f) b) p.each_once.0 p.each_once.1
    (subst (λ (x : List ℕ). length (file_transactions (rules f) x) ≤ length (run (rules f) format b steps).transactions) there (p.all earlier step later refl came))
