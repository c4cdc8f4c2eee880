use Rattle.std.proofs.Common.{refl}
use Rattle.wire_buf.proofs.EncodingLemmas.{Lacks-both, Lacks-both_first, Reads-both}
use Rattle.changes_origins.specs.TaggedGtids.{IsField, IsInteger, IsNumberField, IsTagField, IsUuidField}
use Rattle.changes_origins.proofs.TaggedLemmas.{none_then, FromFlags, FromLast, FromNumber, FromUuid}
use Rattle.changes_origins.proofs.tagged_gtid.TaggedGtid.parse.Goals as goal

pub returns-in_err-_size-clause-none : goal.returns-in_err-_size-clause-none
returns-in_err-_size-clause-none c = none_then c.from_residual.result (Lacks-both_first (IsField 1 IsInteger) FromLast _ c.in_err-_size.ensures.none)

pub returns-in_err-_last_known-clause-none : goal.returns-in_err-_last_known-clause-none
returns-in_err-_last_known-clause-none c = none_then c.from_residual-in_err-_last_known.result (Lacks-both (IsField 1 IsInteger) FromLast _ _ _ c.in_ok-_size.ensures.some (Lacks-both_first IsInteger FromFlags _ c.in_err-_last_known.ensures.none))

pub returns-in_err-_flags-clause-none : goal.returns-in_err-_flags-clause-none
returns-in_err-_flags-clause-none c = none_then c.from_residual-in_err-_flags.result (Lacks-both (IsField 1 IsInteger) FromLast _ _ _ c.in_ok-_size.ensures.some (Lacks-both IsInteger FromFlags _ _ _ c.in_ok-_last_known.ensures.some (Lacks-both_first (IsField 0 IsInteger) FromUuid _ c.in_err-_flags.ensures.none)))

pub returns-in_err-uuid-clause-none : goal.returns-in_err-uuid-clause-none
returns-in_err-uuid-clause-none c = none_then c.from_residual-in_err-uuid.result (Lacks-both (IsField 1 IsInteger) FromLast _ _ _ c.in_ok-_size.ensures.some (Lacks-both IsInteger FromFlags _ _ _ c.in_ok-_last_known.ensures.some (Lacks-both (IsField 0 IsInteger) FromUuid _ _ _ c.in_ok-_flags.ensures.some (Lacks-both_first IsUuidField FromNumber _ c.in_err-uuid.ensures.none))))

pub returns-in_err-number-clause-none : goal.returns-in_err-number-clause-none
returns-in_err-number-clause-none c = none_then c.from_residual-in_err-number.result (Lacks-both (IsField 1 IsInteger) FromLast _ _ _ c.in_ok-_size.ensures.some (Lacks-both IsInteger FromFlags _ _ _ c.in_ok-_last_known.ensures.some (Lacks-both (IsField 0 IsInteger) FromUuid _ _ _ c.in_ok-_flags.ensures.some (Lacks-both IsUuidField FromNumber _ _ _ c.in_ok-uuid.ensures.some (Lacks-both_first IsNumberField IsTagField _ c.in_err-number.ensures.none)))))

pub returns-in_err-tag-clause-none : goal.returns-in_err-tag-clause-none
returns-in_err-tag-clause-none c = none_then c.from_residual-in_err-tag.result (Lacks-both (IsField 1 IsInteger) FromLast _ _ _ c.in_ok-_size.ensures.some (Lacks-both IsInteger FromFlags _ _ _ c.in_ok-_last_known.ensures.some (Lacks-both (IsField 0 IsInteger) FromUuid _ _ _ c.in_ok-_flags.ensures.some (Lacks-both IsUuidField FromNumber _ _ _ c.in_ok-uuid.ensures.some (Lacks-both IsNumberField IsTagField _ _ _ c.in_ok-number.ensures.some (c.in_err-tag.ensures.none))))))

pub returns-clause-some : goal.returns-clause-some
returns-clause-some c = record {
  fields = (c.in_ok-_size._size, (c.in_ok-_last_known._last_known, (c.in_ok-_flags._flags, (c.in_ok-uuid.uuid, (c.in_ok-number.number, c.in_ok-tag.tag.now)))));
  read = Reads-both (IsField 1 IsInteger) FromLast _ _ _ _ _ c.in_ok-_size.ensures.some (Reads-both IsInteger FromFlags _ _ _ _ _ c.in_ok-_last_known.ensures.some (Reads-both (IsField 0 IsInteger) FromUuid _ _ _ _ _ c.in_ok-_flags.ensures.some (Reads-both IsUuidField FromNumber _ _ _ _ _ c.in_ok-uuid.ensures.some (Reads-both IsNumberField IsTagField _ _ _ _ _ c.in_ok-number.ensures.some c.in_ok-tag.ensures.some))));
  gtid = refl;
}
