use Rattle.std.proofs.Common.{arith, refl, sym, ap}
use Rattle.std.specs.Option.{is_some}
use Rattle.rows_values.proofs.FlipBackLemmas.{number_nine}
use Rattle.rows_values.proofs.WriteLemmas.{group_fits, group_past, nines_none_of}
use Rattle.rows_values.proofs.CheckLemmas.{no_nines, nines_more, all_nines}
use Rattle.rows_values.proofs.packed_check.are_nines.Goals as goal

pub loop-i-init : goal.loop-i-init
loop-i-init c = no_nines _

pub returns-then-number-ge1000000000 : goal.returns-then-number-ge1000000000
returns-then-number-ge1000000000 c =
    let number = number_nine c.args.negative c.args.top c.is_first.result c.loop-i.i _ _ c.group_number-number.result refl c.is_first.ensures c.group_number-number.ensures in
    ap is_some (sym (nines_none_of _ c.loop-i.i _ (omega arith) (group_past 9 c.group_number-number.result _ number c.if-number-ge1000000000.true)))

pub loop-i-preserved : goal.loop-i-preserved
loop-i-preserved c =
    let number = number_nine c.args.negative c.args.top c.is_first.result c.loop-i.i _ _ c.group_number-number.result refl c.is_first.ensures c.group_number-number.ensures in
    nines_more c.loop-i.i _ _ c.loop-i.invariant (group_fits 9 c.group_number-number.result _ number (omega arith))

pub returns : goal.returns
returns c = all_nines c.loop-i.i _ _ c.loop-i.invariant (omega arith)
