use Rattle.std.proofs.Common.{◌+◌, refl, arith}
use Rattle.std.proofs.lemmas.Simd.{get_or-put_chunk_below}
use Rattle.crc32.proofs.ShorteningLemmas.{sixteen_out, lanes_stored}
use Rattle.crc32.proofs.shorten.remove_sixteen.Goals as goal

pub returns : goal.returns
returns c =
    let sums = c.removed_sums in
    sixteen_out
    c.args.bytes.now c.args.taken.now _ c.args.from c.args.at (c.args.at + 16) (c.args.from + 16) _
    (λ i. omega (arith, c.type_inv.bytes i)) sums.ensures.small (omega (arith, c.requires.in_message)) refl refl
    (λ k l. get_or-put_chunk_below (c.args.at + 304) c.args.taken.now sums.result k 0 l)
    (lanes_stored (c.args.at + 304) _ c.args.taken.now sums.result sums.ensures.sums (omega (arith, c.requires.in_block)))
    refl
