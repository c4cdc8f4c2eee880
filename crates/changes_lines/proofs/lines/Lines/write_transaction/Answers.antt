use Rattle.std.specs.Prelude.{codes}
use Rattle.std.proofs.Common.{◌<◌, ◌∷◌, ◌++◌, [], drop, length, refl, ap, ◌∙◌, arith, rules}
use Rattle.feed_text.specs.Buffers.{text_in}
use Rattle.changes_lines.specs.ChangeLines.{objects, with_ends}
use Rattle.changes_lines.proofs.BeginLemmas.{rest_of, line_is}
use Rattle.changes_lines.proofs.WriteLemmas.{puts_by, puts_error, puts_then, fails_first, fails_then}
use Rattle.changes_lines.proofs.lines.Lines.write_transaction.Goals as goal

pub returns-in_err-put-clause-text : goal.returns-in_err-put-clause-text
returns-in_err-put-clause-text g c = λ xs has.
    let members = text_in c.args.self.now.origin in
    let a = 123 ∷ [] in
    let b = drop 1 members in
    let d = codes ",\"changes\":[" in
    let e = with_ends (codes "},") (codes "}") (objects [] xs) in
    let f = codes "]}\n" in
    let some : 0 < length c.changes.result.now = search (arith, rules) in
    let line = line_is members xs has.some (rw (← has.rows, ← c.changes.ensures) some) in
    rw line (puts_error _ _ _ _ _ (a ++ (b ++ (d ++ (e ++ f)))) _ _ c.from_residual.ensures (fails_first _ _ _ a (b ++ (d ++ (e ++ f))) _ _ c.in_err-put.ensures.fault))

pub returns-in_err-put-2-clause-text : goal.returns-in_err-put-2-clause-text
returns-in_err-put-2-clause-text g c = λ xs has.
    let members = text_in c.args.self.now.origin in
    let a = 123 ∷ [] in
    let b = drop 1 members in
    let d = codes ",\"changes\":[" in
    let e = with_ends (codes "},") (codes "}") (objects [] xs) in
    let f = codes "]}\n" in
    let some : 0 < length c.changes.result.now = search (arith, rules) in
    let line = line_is members xs has.some (rw (← has.rows, ← c.changes.ensures) some) in
    let rest = rest_of c.as_slice.result.now c.get.result _ c.unwrap_or.result c.get.ensures.lookup c.unwrap_or.ensures refl ∙ ap (drop 1) c.as_slice.ensures in
    rw line (puts_error _ _ _ _ _ (a ++ (b ++ (d ++ (e ++ f)))) _ _ c.from_residual-in_err-put-2.ensures (fails_then _ _ _ _ _ a (b ++ (d ++ (e ++ f))) _ _ c.in_ok-put.ensures.ok (fails_first _ _ _ b (d ++ (e ++ f)) _ _ (rw rest at c.in_err-put-2.ensures.fault))))

pub returns-in_err-put-3-clause-text : goal.returns-in_err-put-3-clause-text
returns-in_err-put-3-clause-text g c = λ xs has.
    let members = text_in c.args.self.now.origin in
    let a = 123 ∷ [] in
    let b = drop 1 members in
    let d = codes ",\"changes\":[" in
    let e = with_ends (codes "},") (codes "}") (objects [] xs) in
    let f = codes "]}\n" in
    let some : 0 < length c.changes.result.now = search (arith, rules) in
    let line = line_is members xs has.some (rw (← has.rows, ← c.changes.ensures) some) in
    let rest = rest_of c.as_slice.result.now c.get.result _ c.unwrap_or.result c.get.ensures.lookup c.unwrap_or.ensures refl ∙ ap (drop 1) c.as_slice.ensures in
    rw line (puts_error _ _ _ _ _ (a ++ (b ++ (d ++ (e ++ f)))) _ _ c.from_residual-in_err-put-3.ensures (fails_then _ _ _ _ _ a (b ++ (d ++ (e ++ f))) _ _ c.in_ok-put.ensures.ok (fails_then _ _ _ _ _ b (d ++ (e ++ f)) _ _ (rw rest at c.in_ok-put-2.ensures.ok) (fails_first _ _ _ d (e ++ f) _ _ c.in_err-put-3.ensures.fault))))

pub returns-in_err-write_changes-clause-text : goal.returns-in_err-write_changes-clause-text
returns-in_err-write_changes-clause-text g c = λ xs has.
    let members = text_in c.args.self.now.origin in
    let a = 123 ∷ [] in
    let b = drop 1 members in
    let d = codes ",\"changes\":[" in
    let e = with_ends (codes "},") (codes "}") (objects [] xs) in
    let f = codes "]}\n" in
    let some : 0 < length c.changes.result.now = search (arith, rules) in
    let line = line_is members xs has.some (rw (← has.rows, ← c.changes.ensures) some) in
    let rest = rest_of c.as_slice.result.now c.get.result _ c.unwrap_or.result c.get.ensures.lookup c.unwrap_or.ensures refl ∙ ap (drop 1) c.as_slice.ensures in
    rw line (puts_error _ _ _ _ _ (a ++ (b ++ (d ++ (e ++ f)))) _ _ c.from_residual-in_err-write_changes.ensures (fails_then _ _ _ _ _ a (b ++ (d ++ (e ++ f))) _ _ c.in_ok-put.ensures.ok (fails_then _ _ _ _ _ b (d ++ (e ++ f)) _ _ (rw rest at c.in_ok-put-2.ensures.ok) (fails_then _ _ _ _ _ d (e ++ f) _ _ c.in_ok-put-3.ensures.ok (fails_first _ _ _ e f _ _ (c.in_err-write_changes.ensures xs has))))))

pub returns-clause-text : goal.returns-clause-text
returns-clause-text g c = λ xs has.
    let members = text_in c.args.self.now.origin in
    let a = 123 ∷ [] in
    let b = drop 1 members in
    let d = codes ",\"changes\":[" in
    let e = with_ends (codes "},") (codes "}") (objects [] xs) in
    let f = codes "]}\n" in
    let some : 0 < length c.changes.result.now = search (arith, rules) in
    let line = line_is members xs has.some (rw (← has.rows, ← c.changes.ensures) some) in
    let rest = rest_of c.as_slice.result.now c.get.result _ c.unwrap_or.result c.get.ensures.lookup c.unwrap_or.ensures refl ∙ ap (drop 1) c.as_slice.ensures in
    rw line (puts_then _ _ _ _ _ _ _ a (b ++ (d ++ (e ++ f))) _ c.in_ok-put.ensures.ok (puts_then _ _ _ _ _ _ _ b (d ++ (e ++ f)) _ (rw rest at c.in_ok-put-2.ensures.ok) (puts_then _ _ _ _ _ _ _ d (e ++ f) _ c.in_ok-put-3.ensures.ok (puts_then _ _ _ _ _ _ _ e f _ (c.in_ok-write_changes.ensures xs has) (puts_by _ _ _ _ _ f _ c.put-4.ensures.ok c.put-4.ensures.fault)))))
