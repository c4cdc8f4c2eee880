use Rattle.std.proofs.Common.{sym, ◌∙◌}
use Rattle.changes_commands.proofs.ZoneLemmas.{in_range, none_then, out_of_range}
use Rattle.changes_commands.proofs.time_zone.Zone.seconds_of.Goals as goal

pub returns-in_err-timestamp : goal.returns-in_err-timestamp
returns-in_err-timestamp c =
    none_then c.from_residual-in_err-timestamp.result c.args.self.now c.args.text.now c.from_residual-in_err-timestamp.ensures
    (out_of_range c.args.self.now c.args.text.now c.parse.result c.in_ok-time.time c.parse.ensures.value (sym c.ok.ensures.value ∙ c.in_ok-time.was) c.in_err-timestamp.ensures.none)

pub returns : goal.returns
returns c = in_range c.args.self.now c.args.text.now c.parse.result c.in_ok-time.time c.in_ok-timestamp.timestamp.nanosecond _ c.parse.ensures.value (sym c.ok.ensures.value ∙ c.in_ok-time.was) c.in_ok-timestamp.ensures.some c.seconds_since_1970.ensures
