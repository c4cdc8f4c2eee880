use Rattle.std.proofs.Common.{◌≡◌, true, false, refl, sym, ◌∙◌}
use mathlib.Core.Bool.{not}
use Rattle.std.specs.Bool.{beq}
use Rattle.std.specs.Option.{option_eq}
use Rattle.rows_table_map.specs.BitLists.{bit_at, bit_of, len_of}
use Rattle.rows_table_map.proofs.EqualBitLemmas.{same_from-end, other_length, of_all, goes_on, differs}
use Rattle.rows_table_map.proofs.bits.BitsPartialEq.eq.Goals as goal

pub returns-then-self-other : goal.returns-then-self-other
returns-then-self-other c = sym (other_length c.args.self.now c.args.other.now c.if-self-other.true)

pub loop-index-init : goal.loop-index-init
loop-index-init c = refl

pub returns-then-ne : goal.returns-then-ne
returns-then-ne c =
    let a = c.args.self.now in
    let b = c.args.other.now in
    let e : not (option_eq beq (bit_at a c.loop-index.index) (bit_at b c.loop-index.index)) ≡ true = cc in
    sym (of_all a b c.if-self-other.false ∙ c.loop-index.invariant ∙ differs a b c.loop-index.index c.loop-index-test.true c.if-self-other.false e)

pub loop-index-preserved : goal.loop-index-preserved
loop-index-preserved c =
    let a = c.args.self.now in
    let b = c.args.other.now in
    let e : not (option_eq beq (bit_at a c.loop-index.index) (bit_at b c.loop-index.index)) ≡ false = cc in
    c.loop-index.invariant ∙ goes_on a b c.loop-index.index c.loop-index-test.true c.if-self-other.false e

pub returns : goal.returns
returns c =
    let a = c.args.self.now in
    let b = c.args.other.now in
    sym (of_all a b c.if-self-other.false ∙ c.loop-index.invariant ∙ same_from-end (bit_of a) (bit_of b) c.loop-index.index (len_of a) c.loop-index-test.false)
