use Rattle.std.proofs.Common.{rules, ap, sym, ◌∙◌, ◌/◌, ◌%◌, []}
use Rattle.std.specs.List.{flat_map}
use Rattle.std.specs.Fmt.{decimal}
use Rattle.std.proofs.lemmas.List.{flat_map_more, take_more}
use Rattle.std.proofs.Output.{has_written_styled_append, has_written_styled_of_eq}
use Rattle.rows_values.proofs.TimeTextLemmas.{fraction_whole}
use Rattle.rows_values.proofs.times.text.put_fraction.Goals as goal

pub loop-power-preserved : goal.loop-power-preserved
loop-power-preserved g c = λ flush.
    let a = c.loop-power.invariant flush in
    let b = c.put_number.ensures a.flush (search rules) in
    let same = flat_map_more (λ power. decimal (c.args.micros / power % 10)) [] _ _ ∙ ap (flat_map (λ power. decimal (c.args.micros / power % 10))) (sym (take_more _ _ 0 c.loop-power-test.true)) in
    has_written_styled_of_eq _ _ _ _ _ same (has_written_styled_append _ _ _ _ _ _ a b)

pub returns : goal.returns
returns g c = λ flush done.
    let a = c.write_str.ensures.styled flush (search rules) in
    let b = c.loop-power.invariant a.flush in
    has_written_styled_of_eq _ _ _ _ _ (fraction_whole c.args.precision c.in-Some.precision c.args.micros c.loop-power.power-index _ c.in-Some.is (search rules) (search rules) (search rules)) (has_written_styled_append _ _ _ _ _ _ a b)
