use Rattle.std.proofs.Common.{refl}
use Rattle.wire_buf.proofs.EncodingLemmas.{Lacks-both, Lacks-both_first, Reads-both}
use Rattle.changes_origins.specs.TaggedGtids.{IsBody, IsField, IsInteger, IsTimes}
use Rattle.changes_origins.proofs.TaggedLemmas.{FromSequence, no_time}
use Rattle.changes_origins.proofs.tagged_gtid.tagged_commit_time.Goals as goal

pub returns-in_err-_gtid : goal.returns-in_err-_gtid
returns-in_err-_gtid c = no_time c.args.body.now _ c.from_residual.ensures (Lacks-both_first IsBody IsTimes _ c.in_err-_gtid.ensures.none)

pub returns-in_err-_last_committed : goal.returns-in_err-_last_committed
returns-in_err-_last_committed c = no_time c.args.body.now _ c.from_residual-in_err-_last_committed.ensures (Lacks-both IsBody IsTimes _ _ _ c.in_ok-_gtid.ensures.some.read (Lacks-both_first (IsField 4 IsInteger) FromSequence _ c.in_err-_last_committed.ensures.none))

pub returns-in_err-_sequence_number : goal.returns-in_err-_sequence_number
returns-in_err-_sequence_number c = no_time c.args.body.now _ c.from_residual-in_err-_sequence_number.ensures (Lacks-both IsBody IsTimes _ _ _ c.in_ok-_gtid.ensures.some.read (Lacks-both (IsField 4 IsInteger) FromSequence _ _ _ c.in_ok-_last_committed.ensures.some (Lacks-both_first (IsField 5 IsInteger) (IsField 6 IsInteger) _ c.in_err-_sequence_number.ensures.none)))

pub returns-in_err-micros : goal.returns-in_err-micros
returns-in_err-micros c = no_time c.args.body.now _ c.from_residual-in_err-micros.ensures (Lacks-both IsBody IsTimes _ _ _ c.in_ok-_gtid.ensures.some.read (Lacks-both (IsField 4 IsInteger) FromSequence _ _ _ c.in_ok-_last_committed.ensures.some (Lacks-both (IsField 5 IsInteger) (IsField 6 IsInteger) _ _ _ c.in_ok-_sequence_number.ensures.some (c.in_err-micros.ensures.none))))

pub returns : goal.returns
returns c = (
  _,
  record {
    fields = (c.in_ok-_gtid.ensures.some.fields, (c.in_ok-_last_committed._last_committed, (c.in_ok-_sequence_number._sequence_number, c.in_ok-micros.micros)));
    read = Reads-both IsBody IsTimes _ _ _ _ _ c.in_ok-_gtid.ensures.some.read (Reads-both (IsField 4 IsInteger) FromSequence _ _ _ _ _ c.in_ok-_last_committed.ensures.some (Reads-both (IsField 5 IsInteger) (IsField 6 IsInteger) _ _ _ _ _ c.in_ok-_sequence_number.ensures.some c.in_ok-micros.ensures.some));
    time_is = refl;
  },
)
