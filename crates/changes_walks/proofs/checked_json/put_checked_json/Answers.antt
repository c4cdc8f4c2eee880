use Rattle.std.proofs.Common.{refl}
use Rattle.changes_commands.proofs.GrowingLemmas.{longer_then}
use Rattle.changes_walks.proofs.checked_json.put_checked_json.Goals as goal

pub returns : goal.returns
returns c =
    let last = c.words.new.self in
    let event = c.put_event.ensures in (
      _,
      record { event = event.0; event_is = event.1; is = refl },
      longer_then c.args.out.now c.put_start.new.out last _ _ c.put_start.ensures
          (longer_then c.put_start.new.out c.put_place.new.out last _ _ c.put_place.ensures
          (longer_then c.put_place.new.out c.put_event.new.out last _ _ event.2
          (longer_then c.put_event.new.out c.put_end.new.out last _ _ c.put_end.ensures
          (longer_then c.put_end.new.out c.put_rest.new.out last _ _ c.put_rest.ensures
          (longer_then c.put_rest.new.out c.put_selected.new.out last _ _ c.put_selected.ensures
          (longer_then c.put_selected.new.out c.put_gaps.new.out last _ _ c.put_gaps.ensures c.words.ensures)))))),
    )
