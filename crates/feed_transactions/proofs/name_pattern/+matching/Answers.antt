use Rattle.std.proofs.lemmas.Bool.{eq-eqb, ne_eqb}
use Rattle.feed_transactions.specs.NamePatterns.{is_like}
use Rattle.feed_transactions.proofs.NamePatternLemmas.{any_bytes, same_byte, shorter_ends, whole_is_end}
use Rattle.feed_transactions.proofs.name_pattern.+matching.Goals as goal

pub match_ends-returns-in-Yes : goal.match_ends-returns-in-Yes
match_ends-returns-in-Yes t c = whole_is_end (is_like c.args.pattern.now) c.args.name.now c.in-Yes.ensures

pub match_ends-returns : goal.match_ends-returns
match_ends-returns t c =
    let is = c.in-Some.ensures.cases.0 in
    rw is (shorter_ends c.args.pattern.now c.in-Some.after.now c.in-Some.field-0-0.now c.match_ends.result (rw is at c.in-No.ensures) c.match_ends.ensures)

pub match_name-returns-then-first-eq-ANY : goal.match_name-returns-then-first-eq-ANY
match_name-returns-then-first-eq-ANY t c = rw (c.in-Some.ensures.cases.0, c.if-first-eq-ANY.true) (any_bytes c.in-Some.rest.now c.args.name.now c.match_ends.result c.match_ends.ensures)

pub match_name-returns : goal.match_name-returns
match_name-returns t c =
    let first = c.in-Some.first.now in
    let byte = c.in-Some-split_first.byte.now in
    rw (c.in-Some.ensures.cases.0, c.in-Some-split_first.ensures.cases.0)
    (same_byte first byte c.in-Some.rest.now c.in-Some-split_first.after.now c.match_name.result (ne_eqb first 42 c.if-first-eq-ANY.false) (eq-eqb first byte c.if-first-byte.false) c.match_name.ensures)
