use Rattle.std.proofs.Common.{arith, ◌++◌, ap, ◌∙◌}
use Rattle.std.proofs.lemmas.Grind.{common_steps}
use Rattle.changes_character_sets.proofs.TextLemmas.{reads_more, reads_all, reads_no_text, text_of_utf8, utf8_of_text}
use Rattle.changes_character_sets.proofs.character_set.CharacterSet.append.Goals as goal

pub returns-in_default-from_utf8-clause-no : goal.returns-in_default-from_utf8-clause-no
returns-in_default-from_utf8-clause-no c = λ e text. rw c.in-Utf8.is (λ t. c.in_default-from_utf8.ensures.cases.0 (utf8_of_text c.args.bytes.now text t))

pub returns-in-Utf8-clause-yes : goal.returns-in-Utf8-clause-yes
returns-in-Utf8-clause-yes c = λ e. rw c.in-Utf8.is (record { text = c.args.bytes.now; is_text = text_of_utf8 c.args.bytes.now c.in-Ok.ensures.cases.1; appended = c.in_ok-extend_from_slice.ensures.items ∙ ap (λ x. c.args.text.now.items ++ x) (c.as_bytes.ensures.value ∙ c.in-Ok.ensures.cases.0) })

pub returns-in_default-split_character : goal.returns-in_default-split_character
returns-in_default-split_character c = record {
  old = c.loop-rest.invariant.kept;
  yes = λ e. cc;
  no = λ e text. reads_no_text c.args.self c.args.bytes.now c.loop-rest.rest.now c.args.text.now.items c.loop-rest.text.items text c.loop-rest.invariant.reads (grind (arith, common_steps)) c.in_default-split_character.ensures;
}

pub loop-rest-preserved : goal.loop-rest-preserved
loop-rest-preserved c = record {
  kept = grind (arith, common_steps);
  reads = reads_more c.args.self c.args.bytes.now c.loop-rest.rest.now c.in-Some.after.now c.args.text.now.items c.loop-rest.text.items c.extend_from_slice-in-loop-rest.new.self.items c.in-Some.character c.loop-rest.invariant.reads c.in-Some.ensures
      (c.in_ok-extend_from_slice-2.ensures.items ∙ ap (λ x. c.loop-rest.text.items ++ x) (c.as_bytes-in-loop-rest.ensures.value ∙ c.encode_utf8.ensures.value));
}

pub returns : goal.returns
returns c = record {
  old = c.loop-rest.invariant.kept;
  yes = λ e. reads_all c.args.self c.args.bytes.now c.loop-rest.rest.now c.args.text.now.items c.loop-rest.text.items c.loop-rest.invariant.reads (grind (arith, common_steps));
  no = λ e. cc;
}
