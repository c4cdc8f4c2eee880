use Rattle.std.proofs.Common.{◌≡◌, refl, true, ◌+◌, ◌++◌, suc, map, sym, ap, ◌∙◌, subst, arith, rules, List, ℕ}
use Rattle.std.proofs.Math.Seq.{take-length}
use Rattle.std.proofs.lemmas.List.{append-nil}
use Rattle.std.specs.List.{join_with_byte}
use Rattle.feed_text.specs.Buffers.{text_in}
use Rattle.feed_text.proofs.QuoteLemmas.{kept_more}
use Rattle.changes_cells.specs.CellJson.{bit_texts, has_bit}
use Rattle.changes_cells.proofs.MemberLemmas.{after_elements, bit_skipped, bit_appended, comma_after}
use Rattle.changes_cells.proofs.members.append_bits.Goals as goal

pub loop-index-init : goal.loop-index-init
loop-index-init g c = record { written = sym (append-nil (text_in c.args.text.now)); next = refl; kept = take-length (text_in c.args.text.now) }

pub loop-index-preserved-then-not-has_bit : goal.loop-index-preserved-then-not-has_bit
loop-index-preserved-then-not-has_bit g c =
    let h = c.loop-index.invariant in
    let k = c.loop-index.index in
    let ms = map (λ m. m.items) c.args.members.now in
    let next : k + 1 ≡ suc k = omega arith in
    let same = bit_skipped ms c.args.bits k (k + 1) next (search (rules, c.if-not-has_bit.true, c.has_bit.ensures)) in
    record {
      written = h.written ∙ ap (λ (t : List (List ℕ)). text_in c.args.text.now ++ join_with_byte 44 t) same;
      next = h.next ∙ ap after_elements same;
      kept = h.kept;
    }

pub loop-index-preserved : goal.loop-index-preserved
loop-index-preserved g c =
    let h = c.loop-index.invariant in
    let k = c.loop-index.index in
    let ms = map (λ m. m.items) c.args.members.now in
    let next : k + 1 ≡ suc k = omega arith in
    let set : has_bit c.args.bits k ≡ true = search (rules, c.if-not-has_bit.false, c.has_bit.ensures) in
    let comma = c.in_ok-append_separator.ensures.ok ∙ ap (λ (t : List ℕ). text_in c.loop-index.text ++ t) h.next in
    record {
      written = bit_appended ms c.args.bits k (k + 1) (text_in c.args.text.now) (text_in c.loop-index.text) _ _ next set h.written comma c.in_ok-append_bit.ensures.ok;
      next = comma_after ms c.args.bits k (k + 1) next set;
      kept = kept_more _ _ _ _ (kept_more _ (text_in c.loop-index.text) _ _ h.kept c.in_ok-append_separator.ensures.ok) c.in_ok-append_bit.ensures.ok;
    }

pub returns-clause-ok : goal.returns-clause-ok
returns-clause-ok g c =
    let all : c.loop-index.index ≡ 64 = omega (arith, c.loop-index-test.false, c.loop-index.auto.index-end) in
    c.loop-index.invariant.written ∙ ap (λ (k : ℕ). text_in c.args.text.now ++ join_with_byte 44 (bit_texts (map (λ m. m.items) c.args.members.now) c.args.bits k)) all
