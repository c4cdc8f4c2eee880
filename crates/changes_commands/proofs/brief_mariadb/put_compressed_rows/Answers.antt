use Rattle.changes_commands.specs.GrowingTexts.{Grows}
use Rattle.changes_commands.proofs.GrowingLemmas.{grows_then}
use Rattle.changes_commands.proofs.brief_mariadb.put_compressed_rows.Goals.{in-Some, in_default}
use Rattle.changes_commands.proofs.brief_mariadb.put_compressed_rows.Goals as goal

pub returns : goal.returns
returns c =
    let last = c.label.new.self in
    let more : Grows c.match-get_tme.out last = (_, c.label.ensures) in
    elim c.match-get_tme.branch [
      | in-Some w ↦ grows_then c.args.out.now w.words-in-Some.new.self last (grows_then c.args.out.now w.put_table.new.out w.words-in-Some.new.self w.put_table.ensures (_, w.words-in-Some.ensures)) (rw w.out-is at more)
      | in_default w ↦ rw w.out-is at more
    ]
