use Rattle.std.proofs.Common.{◌≡◌, ◌≤◌, ◌*◌, ◌+◌, ◌/◌, ◌%◌, length, arith, ap, sym, ◌∙◌, rules, refl}
use Rattle.std.proofs.lemmas.List.{length-take-le}
use Rattle.rows_table_map.specs.BitLists.{bit_of, count_below}
use Rattle.rows_table_map.proofs.BitLemmas.{byte_more, byte_counted}
use Rattle.rows_table_map.proofs.bits.Bits.count_ones.Goals as goal

pub loop-byte-preserved : goal.loop-byte-preserved
loop-byte-preserved c =
    let b = c.args.self.now in
    let fits = b.fits in
    let room : b.len / 8 ≤ length b.bytes.now = omega (arith, fits) in
    let size = length-take-le (b.len / 8) b.bytes.now room in
    let test = c.loop-byte-test.true in
    let p = byte_counted b c.loop-byte.byte-index (b.len / 8) c.loop-byte.count _ (omega (arith, test, size)) room refl (search rules) c.loop-byte.invariant.counted c.loop-byte.invariant.few in
    record { counted = p.0; few = p.1 }

pub overflow_add-count-then-left-gt0 : goal.overflow_add-count-then-left-gt0
overflow_add-count-then-left-gt0 c =
    let b = c.args.self.now in
    let fits = b.fits in
    let room : b.len / 8 ≤ length b.bytes.now = omega (arith, fits) in
    let size = length-take-le (b.len / 8) b.bytes.now room in
    let end = c.loop-byte.auto.byte-index-end in
    let few = c.loop-byte.invariant.few in
    let bound = c.first_ones-count.ensures.bound in
    let all : c.loop-byte.count + c.first_ones-count.result ≤ b.len = omega (arith, size, end, few, bound) in
    search (rules, all)

pub returns-then-left-gt0 : goal.returns-then-left-gt0
returns-then-left-gt0 c =
    let b = c.args.self.now in
    let n = b.len / 8 in
    let fits = b.fits in
    let room : b.len / 8 ≤ length b.bytes.now = omega (arith, fits) in
    let size = length-take-le (b.len / 8) b.bytes.now room in
    let end = c.loop-byte.auto.byte-index-end in
    let test = c.loop-byte-test.false in
    let at : c.loop-byte.byte-index ≡ n = omega (arith, size, end, test) in
    let whole : 8 * n + b.len % 8 ≡ b.len = omega arith in
    let more = byte_more b n (b.len % 8) (omega arith) in
    ap (λ k. k + c.first_ones-count.result) (c.loop-byte.invariant.counted ∙ ap (λ i. count_below (bit_of b) (8 * i)) at)
    ∙ ap (λ k. count_below (bit_of b) (8 * n) + k) c.first_ones-count.ensures.value ∙ sym more ∙ ap (count_below (bit_of b)) whole
