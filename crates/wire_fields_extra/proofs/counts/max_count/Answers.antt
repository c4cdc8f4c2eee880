use Rattle.std.proofs.Common.{arith}
use Rattle.std.proofs.lemmas.Bool.{lt-ltb}
use Rattle.byteorder.proofs.Bytes.{pow256, low_mask}
use Rattle.wire_fields_extra.proofs.counts.max_count.Goals as goal

pub returns-then-size-lt8 : goal.returns-then-size-lt8
returns-then-size-lt8 c =
    let mask = low_mask c.args.size (omega arith) in
    rw (lt-ltb c.args.size 8 (omega arith), pow256 c.args.size) (omega arith)
