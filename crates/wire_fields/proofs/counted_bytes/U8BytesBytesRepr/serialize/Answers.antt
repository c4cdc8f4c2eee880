use Rattle.std.proofs.Common.{◌≡◌, ◌≤◌, ◌<◌, ◌^◌, ◌++◌, ◌∙◌, [], ◌∷◌, take, length, ap, sym, arith}
use Rattle.std.proofs.Math.Nat.{min_comm}
use Rattle.std.proofs.lemmas.List.{take_min, length-take}
use Rattle.std.proofs.lemmas.Result.{on_ok_weaker}
use Rattle.wire_buf.specs.Numbers.{IsLittle}
use Rattle.wire_fields.specs.Strings.{counted_bytes}
use Rattle.wire_fields.proofs.WritingLemmas.{counted_count, byte_counted}
use Rattle.wire_fields.proofs.TextLemmas.{string_writes}
use Rattle.wire_fields.proofs.counted_bytes.U8BytesBytesRepr.serialize.Goals as goal

pub returns-clause-ok : goal.returns-clause-ok
returns-clause-ok g c =
    let text = c.args.text.now in
    let kept = take c.min.result text in
    let fits : length kept ≤ 255 = omega (arith, length-take c.min.result text, c.min.ensures) in
    let count = byte_counted (length kept) fits in
    on_ok_weaker _ (string_writes (IsLittle 1) (counted_bytes 1) kept (take 255 text) (length kept ∷ []) _ _ (ap (λ n. take n text) (c.min.ensures ∙ min_comm _ _) ∙ take_min 255 text)
    (rw count (counted_count 1 (length kept) (omega (arith, fits)))) (ap (λ l. l ++ kept) (sym count))) c.put_counted.ensures.ok
