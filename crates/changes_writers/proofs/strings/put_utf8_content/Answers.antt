use Rattle.std.proofs.Common.{◌≡◌, ◌≤◌, ◌++◌, ◌∙◌, ap, refl, take, length, List, ℕ, arith, rules}
use Rattle.std.specs.List.{flat_map}
use Rattle.changes_writers.specs.JsonStrings.{json_byte}
use Rattle.changes_writers.proofs.StringLemmas.{run_more, follows_itself, follows_more, utf8_itself, utf8_after, utf8_decided, some_most, some_all, none_kept, nothing_written, follows_same}
use Rattle.changes_writers.proofs.strings.put_utf8_content.Goals as goal

pub loop-rest-preserved : goal.loop-rest-preserved
loop-rest-preserved c =
    let h = c.loop-rest.invariant in
    let b = c.split_at.ensures in
    let r = c.put_ascii_run-next.ensures in
    record {
      most = omega (arith, h.most, r.most, b.back_len);
      text = run_more c.put_ascii_run-next.result.1 _ _ _ c.loop-rest.rest.now _ r.text b.back h.text;
      follows = follows_more c.args.at c.loop-rest.end c.put_ascii_run-next.result.0 c.args.text.now c.loop-rest.text c.put_ascii_run-next.new.text _ h.follows r.text;
      utf8 = utf8_after c.put_ascii_run-next.result.1 c.args.bytes.now c.loop-rest.rest.now _ (omega (arith, b.back_len)) r.ascii b.back h.utf8;
    }

pub returns-then-len-eq0-clause-utf8 : goal.returns-then-len-eq0-clause-utf8
returns-then-len-eq0-clause-utf8 c = utf8_decided c.put_checked_content.result c.args.bytes.now c.loop-rest.rest.now c.loop-rest.invariant.utf8 c.put_checked_content.ensures.utf8

pub returns-then-len-eq0-clause-most : goal.returns-then-len-eq0-clause-most
returns-then-len-eq0-clause-most c = some_most c.put_checked_content.result _ _ c.loop-rest.invariant.most c.put_checked_content.ensures.most

pub returns-then-len-eq0-clause-text : goal.returns-then-len-eq0-clause-text
returns-then-len-eq0-clause-text c =
    let r = c.put_ascii_run-next in
    let room : c.loop-rest.end ≤ length c.loop-rest.text = search rules in
    let same : take c.loop-rest.end r.new.text ≡ take c.loop-rest.end c.loop-rest.text = nothing_written r.result.1 c.loop-rest.end r.result.0 c.loop-rest.text r.new.text c.loop-rest.rest.now c.if-len-eq0.true room r.ensures.text in
    some_all c.put_checked_content.result _ _ c.loop-rest.rest.now _ (ap (λ (t : List ℕ). t ++ flat_map json_byte c.loop-rest.rest.now) same ∙ c.loop-rest.invariant.text) c.put_checked_content.ensures.text

pub returns-then-len-eq0-clause-none : goal.returns-then-len-eq0-clause-none
returns-then-len-eq0-clause-none c =
    let r = c.put_ascii_run-next in
    let room : c.loop-rest.end ≤ length c.loop-rest.text = search rules in
    let first : c.args.at ≤ length c.args.text.now = search rules in
    let same : take c.loop-rest.end r.new.text ≡ take c.loop-rest.end c.loop-rest.text = nothing_written r.result.1 c.loop-rest.end r.result.0 c.loop-rest.text r.new.text c.loop-rest.rest.now c.if-len-eq0.true room r.ensures.text in
    none_kept c.put_checked_content.result c.args.at c.loop-rest.end c.args.text.now r.new.text _ first (follows_same c.args.at c.loop-rest.end c.args.text.now c.loop-rest.text r.new.text c.loop-rest.invariant.follows same) c.put_checked_content.ensures.none

pub returns-clause-utf8 : goal.returns-clause-utf8
returns-clause-utf8 c = utf8_decided c.put_last_utf8.result c.args.bytes.now c.loop-rest.rest.now c.loop-rest.invariant.utf8 c.put_last_utf8.ensures.utf8

pub returns-clause-most : goal.returns-clause-most
returns-clause-most c = some_most c.put_last_utf8.result _ _ c.loop-rest.invariant.most c.put_last_utf8.ensures.most

pub returns-clause-text : goal.returns-clause-text
returns-clause-text c = some_all c.put_last_utf8.result _ _ c.loop-rest.rest.now _ c.loop-rest.invariant.text c.put_last_utf8.ensures.text

pub returns-clause-none : goal.returns-clause-none
returns-clause-none c =
    let first : c.args.at ≤ length c.args.text.now = search rules in
    none_kept c.put_last_utf8.result c.args.at c.loop-rest.end c.args.text.now c.loop-rest.text _ first c.loop-rest.invariant.follows c.put_last_utf8.ensures.none

pub loop-rest-init : goal.loop-rest-init
loop-rest-init c = record {
  most = omega arith;
  text = refl;
  follows = follows_itself c.args.at c.args.text.now;
  utf8 = utf8_itself c.args.bytes.now;
}
