use Rattle.std.specs.Prelude.{codes}
use Rattle.std.proofs.Common.{◌≡◌, ℕ, List, ◌∷◌, ◌++◌, [], None, map, take, refl, sym, ap, ◌∙◌, append_assoc, rules}
use Rattle.std.proofs.lemmas.List.{append-nil}
use Rattle.std.proofs.lemmas.Result.{on_ok_weaker}
use Rattle.changes_lines.specs.TextLists.{ended}
use Rattle.changes_lines.specs.WrittenLines.{end_of, has_texts}
use Rattle.changes_lines.proofs.WriteLemmas.{puts_last, rows_of_change, end_is, one_left, one_row, one_row_text, on_ok_always}
use Rattle.changes_lines.proofs.lines.write_change.Goals as goal

pub returns-then-rows-eq1-clause-text : goal.returns-then-rows-eq1-clause-text
returns-then-rows-eq1-clause-text g c = λ x more is are.
    let t1 = c.take-front.ensures x.front (x.back ∷ (map ended x.rows ++ more)) are in
    let one = one_row x.rows (sym c.if-rows-eq1.true ∙ is) in
    let t2 = c.take_two-row.ensures x.back (ended one.0) more (one_left _ x.back more x.rows one.0 one.1 t1.1) in
    let end = end_is c.args.ends c.take_two-row.new.self more [] c.is_empty-is_last.result (end_of c.end.result) t2.1 c.is_empty-is_last.ensures.none c.is_empty-is_last.ensures.some c.end.ensures in
    let row : c.take_two-row.result.now ≡ ended (x.back ++ one.0) = t2.0 ∙ sym (append_assoc x.back one.0 (codes "}\n")) in
    let text = ap (λ (t : List ℕ). (t ++ (c.args.origin.now ++ [])) ++ ((x.back ++ one.0) ++ end_of c.end.result)) t1.0 ∙ one_row_text c.args.origin.now c.args.ends (has_texts more) x one.0 _ one.1 end in
    puts_last _ _ _ _ _ _ _ _ (sym text) (c.write_line.ensures (x.back ++ one.0) row)

pub returns-then-rows-eq1-clause-left : goal.returns-then-rows-eq1-clause-left
returns-then-rows-eq1-clause-left g c = on_ok_always _ c.write_line.result (λ x more is are.
    let t1 = c.take-front.ensures x.front (x.back ∷ (map ended x.rows ++ more)) are in
    let one = one_row x.rows (sym c.if-rows-eq1.true ∙ is) in
    (c.take_two-row.ensures x.back (ended one.0) more (one_left _ x.back more x.rows one.0 one.1 t1.1)).1)

pub returns-in_default-clause-text : goal.returns-in_default-clause-text
returns-in_default-clause-text g c = λ x more is are.
    let t1 = c.take-front.ensures x.front (x.back ∷ (map ended x.rows ++ more)) are in
    let t2 = c.take-back.ensures x.back (map ended x.rows ++ more) t1.1 in
    let parts : c.take-front.result.now ++ (c.args.origin.now ++ c.take-back.result.now) ≡ x.front ++ (c.args.origin.now ++ x.back) = rw (t1.0, t2.0) refl in
    puts_last _ _ _ _ _ _ _ _ (sym (rows_of_change (c.take-front.result.now ++ (c.args.origin.now ++ c.take-back.result.now)) c.args.ends (has_texts more) c.args.origin.now x parts)) (c.write_rows.ensures.text x.rows more is t2.1)

pub returns-in_default-clause-left : goal.returns-in_default-clause-left
returns-in_default-clause-left g c = on_ok_weaker c.write_rows.result (λ left x more is are.
    let t1 = c.take-front.ensures x.front (x.back ∷ (map ended x.rows ++ more)) are in
    let t2 = c.take-back.ensures x.back (map ended x.rows ++ more) t1.1 in
    left x.rows more is t2.1) c.write_rows.ensures.left

pub write_whole_rows-requires-clause-single : goal.write_whole_rows-requires-clause-single
write_whole_rows-requires-clause-single g c = append-nil (take c.in-Some.len c.put_head.new.text)

pub write_whole_rows-requires-clause-kept : goal.write_whole_rows-requires-clause-kept
write_whole_rows-requires-clause-kept g c =
    let none : c.args.ends.each ≡ None = search rules in
    rw none refl

pub returns-then-is_none-clause-text : goal.returns-then-is_none-clause-text
returns-then-is_none-clause-text g c = λ x more is are.
    let t1 = c.take-front.ensures x.front (x.back ∷ (map ended x.rows ++ more)) are in
    let t2 = c.take-back.ensures x.back (map ended x.rows ++ more) t1.1 in
    let parts : c.take-front.result.now ++ (c.args.origin.now ++ c.take-back.result.now) ≡ x.front ++ (c.args.origin.now ++ x.back) = rw (t1.0, t2.0) refl in
    puts_last _ _ _ _ _ _ _ _ (sym (rows_of_change (take c.in-Some.len c.put_head.new.text ++ []) c.args.ends (has_texts more) c.args.origin.now x (append-nil (take c.in-Some.len c.put_head.new.text) ∙ c.in-Some.ensures.text ∙ parts))) (c.write_whole_rows.ensures.text x.rows more is t2.1)

pub returns-then-is_none-clause-left : goal.returns-then-is_none-clause-left
returns-then-is_none-clause-left g c = on_ok_weaker c.write_whole_rows.result (λ left x more is are.
    let t1 = c.take-front.ensures x.front (x.back ∷ (map ended x.rows ++ more)) are in
    let t2 = c.take-back.ensures x.back (map ended x.rows ++ more) t1.1 in
    left x.rows more is t2.1) c.write_whole_rows.ensures.left

pub returns-clause-text : goal.returns-clause-text
returns-clause-text g c = λ x more is are.
    let t1 = c.take-front.ensures x.front (x.back ∷ (map ended x.rows ++ more)) are in
    let t2 = c.take-back.ensures x.back (map ended x.rows ++ more) t1.1 in
    let parts : c.take-front.result.now ++ (c.args.origin.now ++ c.take-back.result.now) ≡ x.front ++ (c.args.origin.now ++ x.back) = rw (t1.0, t2.0) refl in
    puts_last _ _ _ _ _ _ _ _ (sym (rows_of_change (take c.in-Some.len c.put_head.new.text ++ []) c.args.ends (has_texts more) c.args.origin.now x (append-nil (take c.in-Some.len c.put_head.new.text) ∙ c.in-Some.ensures.text ∙ parts))) (c.write_rows-2.ensures.text x.rows more is t2.1)

pub returns-clause-left : goal.returns-clause-left
returns-clause-left g c = on_ok_weaker c.write_rows-2.result (λ left x more is are.
    let t1 = c.take-front.ensures x.front (x.back ∷ (map ended x.rows ++ more)) are in
    let t2 = c.take-back.ensures x.back (map ended x.rows ++ more) t1.1 in
    left x.rows more is t2.1) c.write_rows-2.ensures.left
