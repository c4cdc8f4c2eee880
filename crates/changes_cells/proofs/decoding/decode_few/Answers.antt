use Rattle.std.proofs.Common.{◌≡◌, ◌≤◌, ◌<◌, ◌++◌, [], ℕ, List, length, take, ap, sym, subst, ◌∙◌, arith}
use Rattle.std.proofs.lemmas.Grind.{common_steps}
use Rattle.changes_character_sets.specs.Texts.{IsTextOf}
use Rattle.changes_character_sets.proofs.TextLemmas.{reads_more, reads_all, reads_no_text}
use Rattle.changes_cells.proofs.decoding.decode_few.Goals as goal

pub returns-in_default : goal.returns-in_default
returns-in_default c = λ text. reads_no_text c.args.set c.args.bytes.now c.loop-rest.rest.now [] (take c.loop-rest.end c.loop-rest.buffer) text c.loop-rest.invariant.reads (grind (arith, common_steps)) c.in_default.ensures

pub loop-rest-preserved : goal.loop-rest-preserved
loop-rest-preserved c =
    let few = c.encode_utf8.ensures.upper_bound in
    record {
      within = omega (arith, c.put_bytes-end.ensures.end, c.as_bytes.ensures.len, c.encode_utf8.ensures.len, few, c.if-end.false, ap length c.as_bytes.ensures.value);
      reads = reads_more c.args.set c.args.bytes.now c.loop-rest.rest.now c.in-Some.after.now [] (take c.loop-rest.end c.loop-rest.buffer) (take c.put_bytes-end.result c.put_bytes-end.new.text) c.in-Some.character c.loop-rest.invariant.reads c.in-Some.ensures
          (c.put_bytes-end.ensures.text ∙ ap (λ x. take c.loop-rest.end c.loop-rest.buffer ++ x) (c.as_bytes.ensures.value ∙ c.encode_utf8.ensures.value));
    }

pub returns : goal.returns
returns c =
    let all = reads_all c.args.set c.args.bytes.now c.loop-rest.rest.now [] (take c.loop-rest.end c.loop-rest.buffer) c.loop-rest.invariant.reads (grind (arith, common_steps)) in
    (c.loop-rest.invariant.within, subst (IsTextOf c.args.set c.args.bytes.now) (sym all.appended) all.is_text)
