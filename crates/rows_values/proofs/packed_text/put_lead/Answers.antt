use Rattle.std.proofs.Common.{arith}
use Rattle.rows_values.proofs.DigitTextLemmas.{zero_tells, zero_piece_is, count_fits, some_tells, some_piece_is}
use Rattle.rows_values.proofs.packed_text.put_lead.Goals as goal

pub returns-then-number-eq0-clause-tells : goal.returns-then-number-eq0-clause-tells
returns-then-number-eq0-clause-tells c = λ hidden. zero_tells c.args.count c.args.number c.if-number-eq0.true

pub returns-then-number-eq0-clause-text : goal.returns-then-number-eq0-clause-text
returns-then-number-eq0-clause-text c = zero_piece_is _ c.args.negative c.args.shown c.args.count c.args.number c.if-shown.false c.if-number-eq0.true

pub put_last_digits-requires-2-clause-room : goal.put_last_digits-requires-2-clause-room
put_last_digits-requires-2-clause-room c =
    let fits = count_fits c.args.count c.digit_count.result c.args.number c.digit_count.ensures.some c.digit_count.ensures.low c.requires.small in
    let room = c.requires.more c.if-shown.false in
    omega (arith, fits, room, c.put_minus-end.ensures.most, c.put_minus-end.auto.text)

pub returns-clause-most : goal.returns-clause-most
returns-clause-most c =
    let fits = count_fits c.args.count c.digit_count.result c.args.number c.digit_count.ensures.some c.digit_count.ensures.low c.requires.small in
    omega (arith, fits, c.put_minus-end.ensures.most, c.put_last_digits-2.ensures.end)

pub returns-clause-tells : goal.returns-clause-tells
returns-clause-tells c =
    λ hidden. some_tells c.args.count c.digit_count.result c.args.number c.digit_count.ensures.some c.digit_count.ensures.low c.digit_count.ensures.high c.requires.small c.if-number-eq0.false

pub returns-clause-text : goal.returns-clause-text
returns-clause-text c =
    some_piece_is _ _ _ c.args.negative c.args.shown c.args.count c.digit_count.result c.args.number c.if-shown.false c.digit_count.ensures.some c.digit_count.ensures.low c.digit_count.ensures.high c.requires.small
    c.put_minus-end.ensures.text c.put_last_digits-2.ensures.text
