-- Texts that are appended in sequence.
use Rattle.std.proofs.Common.{◌≡◌, ℕ, List, ◌∷◌, [], ◌++◌, Some, ap, ◌∙◌, append_assoc}
use Rattle.std.specs.Prelude.{codes}
use Rattle.std.specs.Borrow.{Bor}
use Rattle.std.specs.Fmt.{decimal}
use Rattle.events_frames.specs.QueryTexts.{StatementTexts}
use Rattle.feed_writers.specs.Quoting.{quoted}
use Rattle.feed_checks.specs.KindViews.{gtid_view}
use Rattle.feed_transactions.specs.TransactionTexts.{gtid_text, line_text, uuid_text}
use Rattle.feed_transactions.specs.Transactions.{Stated}
use Rattle.feed_checks.specs.declared.event_kind.Gtid.{Gtid}
use Rattle.feed_checks.specs.declared.event_kind.Gtid.TheVariants as named

-- one text, and then another
pub put_after : (old mid new a b : List ℕ) → mid ≡ old ++ a → new ≡ mid ++ b → new ≡ old ++ (a ++ b)
put_after old mid new a b first second = second ∙ ap (λ (t : List ℕ). t ++ b) first ∙ append_assoc old a b

-- ---- GTIDs

pub anonymous_put : (g : Gtid) (old new : List ℕ) → g ≡ named.Anonymous → new ≡ old ++ 45 ∷ [] → new ≡ old ++ gtid_text (Some (gtid_view g))
unfolding gtid_text
anonymous_put g old new is h = rw is h

pub numbered_put : (g : Gtid) (uuid : List ℕ) (number : ℕ) (old one two new : List ℕ) → g ≡ named.Numbered uuid number → one ≡ old ++ uuid_text uuid → two ≡ one ++ 58 ∷ [] → new ≡ two ++ decimal number
    → new ≡ old ++ gtid_text (Some (gtid_view g))
unfolding gtid_text
numbered_put g uuid number old one two new is a b c =
    rw is (put_after old one new (uuid_text uuid) (58 ∷ decimal number) a (put_after one two new (58 ∷ []) (decimal number) b c))

pub tagged_put : (g : Gtid) (body : Bor (List ℕ)) (old one new : List ℕ) → g ≡ named.Tagged body → one ≡ old ++ codes "tagged " → new ≡ one ++ quoted body.now → new ≡ old ++ gtid_text (Some (gtid_view g))
unfolding gtid_text
tagged_put g body old one new is a b = rw is (put_after old one new (codes "tagged ") (quoted body.now) a b)

-- ---- statements

pub statement_put : (q : StatementTexts) (schema query old one two new : List ℕ) → schema ≡ q.schema → query ≡ q.query → one ≡ old ++ codes "statement " → two ≡ one ++ (quoted schema ++ 32 ∷ quoted query)
    → new ≡ two ++ 10 ∷ [] → new ≡ old ++ line_text (Stated q)
unfolding line_text
statement_put q schema query old one two new s t a b c =
    let names : two ≡ one ++ (quoted q.schema ++ 32 ∷ quoted q.query) = rw (← s, ← t) b in
    put_after old two new (codes "statement " ++ (quoted q.schema ++ 32 ∷ quoted q.query)) (10 ∷ []) (put_after old one two (codes "statement ") (quoted q.schema ++ 32 ∷ quoted q.query) a names) c
