use Rattle.std.proofs.Common.{ap}
use Rattle.std.proofs.lemmas.Result.{on_ok_weaker}
use Rattle.std.specs.Cow.{cow_slice_items}
use Rattle.rows_table_map.proofs.FieldLemmas.{pair_same}
use Rattle.rows_table_map.proofs.charsets.DefaultCharsetMySerialize.serialize.Goals as goal

pub returns-clause-ok : goal.returns-clause-ok
returns-clause-ok g c =
    on_ok_weaker c.serialize.result
    (λ h. pair_same _ _ _ _ c.new.ensures (ap cow_slice_items c.new-pairs.ensures) (record { bytes = h.bytes; is = h.is; appended = h.appended; encodes = h.encodes; least = h.least }))
    c.serialize.ensures.ok
