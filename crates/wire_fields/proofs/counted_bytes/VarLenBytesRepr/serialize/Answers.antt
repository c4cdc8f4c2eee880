use Rattle.std.proofs.Common.{◌≡◌, ◌≤◌, ◌<◌, ◌^◌, ◌++◌, ◌∙◌, take, length, ap, sym, arith}
use Rattle.std.proofs.Math.Nat.{min_comm}
use Rattle.std.proofs.lemmas.List.{take_min, length-take}
use Rattle.std.proofs.lemmas.Result.{on_ok_weaker}
use Rattle.wire_fields.specs.ByteStrings.{varlen_string_encoded}
use Rattle.wire_fields.specs.Sevens.{IsVarLen}
use Rattle.wire_fields.proofs.SevenLemmas.{varlen_least}
use Rattle.wire_fields.proofs.TextLemmas.{string_writes}
use Rattle.wire_fields.proofs.counted_bytes.VarLenBytesRepr.serialize.Goals as goal

pub returns-clause-ok : goal.returns-clause-ok
returns-clause-ok g c =
    let text = c.args.text.now in
    let kept = take c.min.result text in
    let fits : length kept < 2 ^ 32 = omega (arith, length-take c.min.result text, c.min.ensures) in
    on_ok_weaker _ (string_writes IsVarLen varlen_string_encoded kept (take 4294967295 text) _ _ _ (ap (λ n. take n text) (c.min.ensures ∙ min_comm _ _) ∙ take_min 4294967295 text)
    (rw c.varlen_bytes-len.ensures.bytes (varlen_least (length kept) fits)) (ap (λ l. l ++ kept) (sym c.varlen_bytes-len.ensures.bytes))) c.put_counted.ensures.ok
