use Rattle.std.proofs.Common.{◌≡◌, ℕ, Bool, false, List, ◌++◌, map, eqb, eq-eqb, sym, ap, ◌∙◌, arith}
use Rattle.std.proofs.lemmas.Bool.Decides.{nat_tests}
use Rattle.feed_text.specs.Buffers.{text_in}
use Rattle.changes_formats.specs.EnvelopeMembers.{has_bit, item_in, with_commas}
use Rattle.changes_formats.proofs.MemberListLemmas.{chosen_without, is_none, item_added, so_far, some_chosen}
use Rattle.changes_formats.proofs.members.put_items.Goals as goal
use Rattle.changes_formats.proofs.members.put_items.Goals.{then-number-bit-eq1+in_ok-put_item, else-number-bit-eq1}

pub loop-bit-preserved : goal.loop-bit-preserved
loop-bit-preserved c =
    let p : ℕ → Bool = has_bit c.args.number in
    let item : ℕ → List ℕ = item_in c.args.format (map (λ m. m.items) c.args.members.now) in
    let base = text_in c.args.out.now in
    let bit = c.loop-bit.bit in
    let h = c.loop-bit.invariant in
    elim c.if-number-bit-eq1.branch [
      | then-number-bit-eq1+in_ok-put_item w ↦ record {
        text = ap text_in w.out-is ∙ item_added p item bit c.loop-bit.is_first base (text_in c.loop-bit.out) (text_in w.put_item.new.out) (eq-eqb _ _ w.if-number-bit-eq1.true) h.first h.text w.in_ok-put_item.ensures;
        first = w.is_first-is ∙ some_chosen p bit (eq-eqb _ _ w.if-number-bit-eq1.true);
      }
      | else-number-bit-eq1 w ↦
          let no : p bit ≡ false = (let e = w.if-number-bit-eq1.false in grind (arith, nat_tests)) in
          record {
            text = ap text_in w.out-is ∙ h.text ∙ ap (λ (l : List ℕ). base ++ with_commas (map item l)) (sym (chosen_without p bit no));
            first = w.is_first-is ∙ h.first ∙ ap (λ (l : List ℕ). is_none l) (sym (chosen_without p bit no));
          }
    ]

pub returns : goal.returns
returns c =
    let p : ℕ → Bool = has_bit c.args.number in
    let item : ℕ → List ℕ = item_in c.args.format (map (λ m. m.items) c.args.members.now) in
    let base = text_in c.args.out.now in
    let all : c.loop-bit.bit ≡ 64 = omega (arith, c.loop-bit-test.false, c.loop-bit.auto.bit-end) in
    c.loop-bit.invariant.text ∙ ap (λ (n : ℕ). base ++ so_far p item n) all
