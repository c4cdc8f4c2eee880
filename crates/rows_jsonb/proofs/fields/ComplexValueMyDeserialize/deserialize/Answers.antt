use Rattle.std.specs.Cow.{cow_slice_items}
use Rattle.rows_jsonb.specs.JsonbLayout.{format as format_of}
use Rattle.rows_jsonb.specs.JsonbValues.{container, container_at, container_size}
use Rattle.rows_jsonb.proofs.FieldLemmas.{reads_if_ok}
use Rattle.rows_jsonb.proofs.fields.ComplexValueMyDeserialize.deserialize.Goals as goal

pub returns-clause-ok : goal.returns-clause-ok
returns-clause-ok g c =
    let f = format_of g.T.StorageFormat.IS_LARGE g.U.ComplexType.IS_ARRAY in
    reads_if_ok (λ c. container f c.element_count (cow_slice_items c.bytes)) (container_at f) (container_size f.is_large) c.read.result _ _ c.read.ensures.value c.read.ensures.rest
