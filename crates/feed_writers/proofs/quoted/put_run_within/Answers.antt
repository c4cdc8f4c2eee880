use Rattle.std.proofs.Common.{◌++◌, ◌∙◌, List, ℕ, ap, sym, take, arith}
use Rattle.std.specs.List.{flat_map}
use Rattle.std.proofs.lemmas.List.{append-nil}
use Rattle.feed_writers.specs.Quoting.{quoted_byte}
use Rattle.feed_writers.proofs.BlockLemmas.{kept_prefix}
use Rattle.feed_writers.proofs.QuotedLemmas.{text_before}
use Rattle.feed_writers.proofs.quoted.put_run_within.Goals as goal

pub returns-then-written-len-clause-text : goal.returns-then-written-len-clause-text
returns-then-written-len-clause-text c =
    text_before c.args.at c.put_run-next.result.0 c.args.text.now c.put_run-next.new.text _ (omega (arith, c.requires.room)) c.put_run-next.ensures.text ∙ sym (append-nil _)

pub returns-clause-text : goal.returns-clause-text
returns-clause-text c =
    c.put_run-next.ensures.text
    ∙ ap (λ (t : List ℕ). take c.args.at c.args.text.now ++ flat_map quoted_byte t) (kept_prefix c.put_run-next.result.1 c.args.len _ c.first_bytes.result c.args.bytes.now (omega arith) (omega (arith, c.requires.few, c.requires.sixteen)) c.first_bytes.ensures)
