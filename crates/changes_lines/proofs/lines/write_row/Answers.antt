use Rattle.std.specs.Prelude.{codes}
use Rattle.std.proofs.Common.{◌≡◌, ◌++◌, Some, None, sym, rules}
use Rattle.changes_lines.specs.WrittenLines.{head_text, end_of}
use Rattle.changes_lines.proofs.WriteLemmas.{puts_by, puts_error, puts_then, puts_last, fails_first, fails_then}
use Rattle.changes_lines.proofs.lines.write_row.Goals as goal

pub returns-in_err-write : goal.returns-in_err-write
returns-in_err-write g c = λ json is.
    puts_error _ _ _ _ _ (head_text c.args.head ++ (json ++ end_of c.args.end)) _ _ c.from_residual.ensures (fails_first _ _ _ (head_text c.args.head) (json ++ end_of c.args.end) _ _ c.in_err-write.ensures)

pub returns-in_default : goal.returns-in_default
returns-in_default g c = λ json is.
    let none : c.args.end ≡ None = search rules in
    rw none (puts_then _ _ _ _ _ _ _ (head_text c.args.head) (json ++ codes "}\n") _ c.in_ok-write.ensures (puts_last _ _ _ _ _ c.args.row.now (json ++ codes "}\n") _ (sym is) (puts_by _ _ _ _ _ c.args.row.now _ c.put.ensures.ok c.put.ensures.fault)))

pub returns-in_err-put : goal.returns-in_err-put
returns-in_err-put g c = λ json is.
    let row = c.without_end.ensures json is in
    puts_error _ _ _ _ _ (head_text c.args.head ++ (json ++ end_of c.args.end)) _ _ c.from_residual-in_err-put.ensures
    (fails_then _ _ _ _ _ (head_text c.args.head) (json ++ end_of c.args.end) _ _ c.in_ok-write.ensures (fails_first _ _ _ json (end_of c.args.end) _ _ (rw row at c.in_err-put.ensures.fault)))

pub returns : goal.returns
returns g c = λ json is.
    let row = c.without_end.ensures json is in
    let some : c.args.end ≡ Some c.in-Some.end = search rules in
    rw some (puts_then _ _ _ _ _ _ _ (head_text c.args.head) (json ++ c.in-Some.end.now) _ c.in_ok-write.ensures (puts_then _ _ _ _ _ _ _ json c.in-Some.end.now _ (rw row at c.in_ok-put.ensures.ok) (puts_by _ _ _ _ _ c.in-Some.end.now _ c.put-3.ensures.ok c.put-3.ensures.fault)))
