use Rattle.std.proofs.Common.{◌-◌, rules}
use Rattle.std.proofs.lemmas.List.Edits.{map_over_more}
use Rattle.rows_values.proofs.packing.flip_all.Goals as goal

pub loop-byte-preserved : goal.loop-byte-preserved
loop-byte-preserved c = search (rules, map_over_more (λ b. 255 - b))
