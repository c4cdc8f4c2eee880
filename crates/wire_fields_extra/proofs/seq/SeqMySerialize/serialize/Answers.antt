use Rattle.std.proofs.Common.{◌≡◌, take, ap, sym, ◌∙◌, map}
use Rattle.std.specs.Cow.{cow_slice_items}
use Rattle.std.proofs.Math.Nat.{min_comm}
use Rattle.std.proofs.lemmas.List.{take_min, length-map}
use Rattle.wire_fields_extra.proofs.SequenceLemmas.{sequence_ok}
use Rattle.wire_fields_extra.proofs.seq.SeqMySerialize.serialize.Goals as goal

pub returns-clause-ok : goal.returns-clause-ok
returns-clause-ok g c =
    let t = g.T.MySerialize in
    let u = g.U.SeqRepr in
    let xs = cow_slice_items c.args.self.now.0 in
    let e : take c.min.result xs ≡ take u.MAX_LEN xs = rw (c.min.ensures, c.len.ensures, c.MAX_LEN.ensures) (ap (λ n. take n xs) (min_comm _ _) ∙ take_min u.MAX_LEN xs) in
    let rows = rw (c.deref.ensures.value, e) at c.write_items-written.ensures.ok in
    sequence_ok u.count_encoded (λ n. u.counts (u.context n)) t.encoded t.encoding _ (map t.view (take u.MAX_LEN xs)) (rw (c.deref.ensures.value, e) (sym (length-map (take u.MAX_LEN xs) t.view))) _ _ _ _ _ _
    c.truncate_on_error.ensures.answer c.truncate_on_error.ensures.ok c.in_ok-write_count.ensures.ok rows
