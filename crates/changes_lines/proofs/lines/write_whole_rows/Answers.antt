use Rattle.std.proofs.Common.{◌≡◌, ◌<◌, ◌-◌, ℕ, List, [], ◌∷◌, ◌++◌, length, map, refl, subst, arith}
use Rattle.wire_buf.specs.Watched.{inner_of}
use Rattle.feed_transactions.specs.Waiting.{bytes_of}
use Rattle.changes_lines.specs.TextLists.{ended}
use Rattle.changes_lines.specs.WrittenLines.{has_texts, rows_text}
use Rattle.changes_lines.proofs.WriteLemmas.{WritesRows, puts_error, no_row_yet, next_of, rows_written, rows_failed, all_rows}
use Rattle.changes_lines.proofs.lines.write_whole_rows.Goals as goal

pub loop-left-init : goal.loop-left-init
loop-left-init g c = record {
  some = omega arith;
  so_far = λ json more is are.
      subst (λ (k : ℕ). WritesRows c.args.head c.args.ends json more (g.W.Write.contents (inner_of c.args.writer.now)) (g.W.Write.contents (inner_of c.args.writer.now)) (bytes_of c.args.waiting.now) (bytes_of c.args.waiting.now) c.args.texts.now k)
      (let none : 0 ≡ c.args.rows - c.args.rows = omega arith in none)
      (no_row_yet c.args.head c.args.ends json more _ _ c.args.texts.now are);
}

pub loop-left-preserved : goal.loop-left-preserved
loop-left-preserved g c =
    let h = c.loop-left.invariant in
    let p = c.put_in_room-some.ensures in
    let most = p.such.most in
    let less = c.saturating_sub-left.ensures in
    record {
      some = omega (arith, most, less, h.some);
      so_far = λ json more is are.
          let w = h.so_far json more is are in
          let count = w.count in
          let long : c.loop-left.left ≡ length w.left = omega (arith, count, is, h.some) in
          let f = p.such.rows w.left more long w.texts_are in
          let k = next_of c.args.head c.args.ends w.left more p.text c.put_in_room-some.result.1 c.put_in_room-some.result.0 f (let some = c.loop-left-test.true in omega (arith, some, long)) c.requires.single c.requires.kept in
          let next = k.count in
          rows_written c.args.head c.args.ends json more _ _ _ _ _ _ _ p.text c.loop-left.texts c.put_in_room-some.result.1 c.write_rows.new.texts c.put_in_room-some.result.0 c.saturating_sub-left.result _ _ w p.appended k
          (c.in_ok-write_rows.ensures.text (k.row ∷ []) (map ended k.others ++ more) refl k.texts_are)
          (c.in_ok-write_rows.ensures.left (k.row ∷ []) (map ended k.others ++ more) refl k.texts_are)
          (omega (arith, is, most, less, h.some)) (omega (arith, less, next));
    }

pub loop-left-smaller : goal.loop-left-smaller
loop-left-smaller g c = let most = c.put_in_room-some.ensures.such.most in let less = c.saturating_sub-left.ensures in let some = c.loop-left-test.true in omega (arith, most, less, some)

pub returns-in_err-write_rows-clause-text : goal.returns-in_err-write_rows-clause-text
returns-in_err-write_rows-clause-text g c = λ json more is are.
    let h = c.loop-left.invariant in
    let p = c.put_in_room-some.ensures in
    let w = h.so_far json more is are in
    let count = w.count in
    let long : c.loop-left.left ≡ length w.left = omega (arith, count, is, h.some) in
    let f = p.such.rows w.left more long w.texts_are in
    let k = next_of c.args.head c.args.ends w.left more p.text c.put_in_room-some.result.1 c.put_in_room-some.result.0 f (let some = c.loop-left-test.true in omega (arith, some, long)) c.requires.single c.requires.kept in
    puts_error _ _ _ _ _ (rows_text c.args.head c.args.ends (has_texts more) json) _ _ c.from_residual.ensures
    (rows_failed c.args.head c.args.ends json more _ _ _ _ _ _ p.text c.loop-left.texts c.put_in_room-some.result.1 c.put_in_room-some.result.0 _ _ _ w p.appended k
    (c.in_err-write_rows.ensures.text (k.row ∷ []) (map ended k.others ++ more) refl k.texts_are))

pub returns-clause-text : goal.returns-clause-text
returns-clause-text g c = λ json more is are. (all_rows c.args.head c.args.ends json more _ _ _ _ c.loop-left.texts _ c.args.rows (c.loop-left.invariant.so_far json more is are) is (let none = c.loop-left-test.false in omega (arith, none))).0

pub returns-clause-left : goal.returns-clause-left
returns-clause-left g c = λ json more is are. (all_rows c.args.head c.args.ends json more _ _ _ _ c.loop-left.texts _ c.args.rows (c.loop-left.invariant.so_far json more is are) is (let none = c.loop-left-test.false in omega (arith, none))).1
