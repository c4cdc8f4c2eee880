use Rattle.std.proofs.Common.{ℕ, List, ◌++◌, ap, ◌∙◌, rules}
use Rattle.feed_text.specs.Buffers.{text_in}
use Rattle.changes_formats.proofs.EnvelopeTimeLemmas.{zoned_written}
use Rattle.changes_formats.proofs.debezium_times.put_iso.Goals as goal

pub returns : goal.returns
returns c =
    zoned_written c.args.digits c.args.day c.args.clock (text_in c.args.out.now) _ _ _ _ _ _ _ (search rules) (search rules) (search rules) c.put_day-end.ensures.text c.put_duration-end.ensures.text
    c.in_ok-put.ensures.ok c.in_ok-put_text.ensures.ok c.in_ok-put-2.ensures.ok (c.in_ok-put_text-2.ensures.ok ∙ ap (λ (s : List ℕ). text_in c.put-2.new.self ++ s) c.content_of.ensures) c.in_ok-put_text-3.ensures.ok
