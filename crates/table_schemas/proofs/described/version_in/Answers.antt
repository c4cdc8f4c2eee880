use Rattle.std.proofs.Common.{ℕ, ap, take, ◌∙◌}
use Rattle.std.proofs.lemmas.List.{take_min}
use Rattle.table_schemas.proofs.described.version_in.Goals as goal

pub returns : goal.returns
returns c = c.split_at.ensures.front ∙ ap (λ (n : ℕ). take n c.args.bytes.now) c.min.ensures ∙ take_min 50 c.args.bytes.now
