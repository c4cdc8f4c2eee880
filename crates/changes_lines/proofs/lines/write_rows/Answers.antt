use Rattle.changes_lines.proofs.WriteLemmas.{puts_error, no_row_yet, next_row, end_is, one_more_row, row_failed, all_rows}
use Rattle.std.proofs.Common.{arith, rules}
use Rattle.changes_lines.specs.WrittenLines.{rows_text, has_texts, end_of}
use Rattle.changes_lines.proofs.lines.write_rows.Goals as goal

pub loop-init : goal.loop-init
loop-init g c = λ json more is are. no_row_yet c.args.head c.args.ends json more _ _ c.args.texts.now are

pub returns-in_err-write_row-clause-text : goal.returns-in_err-write_row-clause-text
returns-in_err-write_row-clause-text g c = λ json more is are.
    let w = c.loop.invariant json more is are in
    let n = next_row c.args.head c.args.ends json more _ _ _ _ c.take-row.result.now c.loop.texts c.take-row.new.self c.loop.counter c.args.rows w is c.loop-test.true c.take-row.ensures in
    let end = end_is c.args.ends c.take-row.new.self more n.others c.is_empty.result (end_of c.end-end.result) n.texts_are c.is_empty.ensures.none c.is_empty.ensures.some c.end-end.ensures in
    puts_error _ _ _ _ _ (rows_text c.args.head c.args.ends (has_texts more) json) _ _ c.from_residual.ensures
    (row_failed c.args.head c.args.ends json more _ _ _ _ _ c.take-row.result.now (end_of c.end-end.result) c.loop.texts c.take-row.new.self c.loop.counter _ _ w n end (c.in_err-write_row.ensures n.json n.row_is))

pub loop-preserved : goal.loop-preserved
loop-preserved g c = λ json more is are.
    let w = c.loop.invariant json more is are in
    let n = next_row c.args.head c.args.ends json more _ _ _ _ c.take-row.result.now c.loop.texts c.take-row.new.self c.loop.counter c.args.rows w is c.loop-test.true c.take-row.ensures in
    let end = end_is c.args.ends c.take-row.new.self more n.others c.is_empty.result (end_of c.end-end.result) n.texts_are c.is_empty.ensures.none c.is_empty.ensures.some c.end-end.ensures in
    one_more_row c.args.head c.args.ends json more _ _ _ _ _ _ c.take-row.result.now (end_of c.end-end.result) c.loop.texts c.take-row.new.self c.loop.counter _ w n (search (arith, rules)) end (c.in_ok-write_row.ensures n.json n.row_is)

pub returns-clause-text : goal.returns-clause-text
returns-clause-text g c = λ json more is are. (all_rows c.args.head c.args.ends json more _ _ _ _ c.loop.texts c.loop.counter c.args.rows (c.loop.invariant json more is are) is c.loop-test.false).0

pub returns-clause-left : goal.returns-clause-left
returns-clause-left g c = λ json more is are. (all_rows c.args.head c.args.ends json more _ _ _ _ c.loop.texts c.loop.counter c.args.rows (c.loop.invariant json more is are) is c.loop-test.false).1
