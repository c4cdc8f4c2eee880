use Rattle.std.proofs.Common.{◌∙◌}
use Rattle.program_changes.proofs.follow.answer_of.Goals as goal

pub returns-in-Ok-clause-begins : goal.returns-in-Ok-clause-begins
returns-in-Ok-clause-begins g c = λ sum. record {
  asked = record { format_is = c.in-Ok.ensures.format ∙ c.payload_format-format.ensures; limit_is = c.in-Ok.ensures.limit };
  events = rw c.first_name-name.ensures at (c.in-Ok.ensures.events sum);
  none_is_due = c.in-Ok.ensures.none_waits;
}
