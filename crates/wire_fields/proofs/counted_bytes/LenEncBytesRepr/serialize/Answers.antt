use Rattle.std.proofs.Common.{◌++◌, ap, sym, arith, refl, length}
use Rattle.std.proofs.lemmas.Result.{on_ok_weaker}
use Rattle.wire_buf.specs.Numbers.{IsLenenc}
use Rattle.wire_buf.proofs.LenencLemmas.{lenenc_least}
use Rattle.wire_fields.specs.Strings.{lenenc_string_encoded}
use Rattle.wire_fields.proofs.TextLemmas.{string_writes}
use Rattle.wire_fields.proofs.counted_bytes.LenEncBytesRepr.serialize.Goals as goal

pub returns-clause-ok : goal.returns-clause-ok
returns-clause-ok g c =
    let text = c.args.text.now in
    on_ok_weaker _ (string_writes IsLenenc lenenc_string_encoded text text _ _ _ refl (rw c.lenenc_bytes-len.ensures.bytes (lenenc_least (length text) (omega arith)))
    (ap (λ l. l ++ text) (sym c.lenenc_bytes-len.ensures.bytes))) c.put_counted.ensures.ok
