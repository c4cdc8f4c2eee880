use Rattle.std.proofs.Common.{◌≡◌, ◌≤◌, ◌+◌, length, take, arith}
use Rattle.std.proofs.lemmas.List.{take_all}
use Rattle.std.proofs.lemmas.Result.{on_ok_weaker}
use Rattle.wire_fields.specs.Bits.{map_if}
use Rattle.wire_fields.specs.RawTexts.{raw_string}
use Rattle.rows_event_body.proofs.FieldLemmas.{extra_written}
use Rattle.rows_event_body.proofs.extra_data.ExtraDataMySerialize.serialize.Goals as goal

pub returns-clause-ok : goal.returns-clause-ok
returns-clause-ok g c =
    let kept = raw_string c.args.self.now.0 in
    let few : length kept ≤ 65533 = omega arith in
    let all : take 65533 kept ≡ kept = take_all _ _ few in
    let size : c.new-size.result.0 ≡ length kept + 2 = omega arith in
    on_ok_weaker _ (λ w. extra_written _ _ _ _ _ _ (map_if _ _ _) size (λ rest. tt) (rw all at w)) c.serialize.ensures.ok
