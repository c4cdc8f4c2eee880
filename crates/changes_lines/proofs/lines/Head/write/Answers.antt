use Rattle.std.proofs.Common.{◌++◌}
use Rattle.changes_lines.proofs.WriteLemmas.{puts_by, puts_error, puts_then, fails_first, fails_then}
use Rattle.changes_lines.proofs.lines.Head.write.Goals as goal

pub returns-in_err-put : goal.returns-in_err-put
returns-in_err-put g c =
    let h = c.args.self in
    puts_error _ _ _ _ _ (h.front.now ++ (h.origin.now ++ h.back.now)) _ _ c.from_residual.ensures (fails_first _ _ _ h.front.now (h.origin.now ++ h.back.now) _ _ c.in_err-put.ensures.fault)

pub returns-in_err-put-2 : goal.returns-in_err-put-2
returns-in_err-put-2 g c =
    let h = c.args.self in
    puts_error _ _ _ _ _ (h.front.now ++ (h.origin.now ++ h.back.now)) _ _ c.from_residual-in_err-put-2.ensures (fails_then _ _ _ _ _ h.front.now (h.origin.now ++ h.back.now) _ _ c.in_ok-put.ensures.ok (fails_first _ _ _ h.origin.now h.back.now _ _ c.in_err-put-2.ensures.fault))

pub returns : goal.returns
returns g c =
    let h = c.args.self in
    puts_then _ _ _ _ _ _ _ h.front.now (h.origin.now ++ h.back.now) _ c.in_ok-put.ensures.ok (puts_then _ _ _ _ _ _ _ h.origin.now h.back.now _ c.in_ok-put-2.ensures.ok (puts_by _ _ _ _ _ h.back.now _ c.put-3.ensures.ok c.put-3.ensures.fault))
