use Rattle.std.proofs.Common.{refl, sym, ◌∙◌}
use Rattle.changes_commands.proofs.GrowingLemmas.{longer_then}
use Rattle.changes_walks.proofs.words.put_place.Goals as goal

pub returns : goal.returns
returns c =
    let event = c.put_event.ensures in (
      _,
      rw (sym c.has_place.ensures ∙ c.if-not-has_place.false) (event.0, event.1, refl),
      longer_then c.args.out.now c.words.new.self c.put_event.new.out _ _ c.words.ensures (longer_then c.words.new.self c.unsigned.new.self c.put_event.new.out _ _ c.unsigned.ensures event.2),
    )
