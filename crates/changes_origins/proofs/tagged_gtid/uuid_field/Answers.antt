use Rattle.std.proofs.Common.{◌+◌, ◌-◌, refl, arith}
use Rattle.std.proofs.Math.ListN.{length-set}
use Rattle.wire_buf.specs.Encoding.{IsSequence}
use Rattle.wire_buf.proofs.EncodingLemmas.{Sequence-none}
use Rattle.changes_origins.specs.TaggedGtids.{IsByte}
use Rattle.changes_origins.proofs.TaggedLemmas.{none_then, Lacks-field_number, Lacks-field_other, Lacks-field_content, Reads-field, Lacks-uuid, byte_more, bytes_all}
use Rattle.changes_origins.proofs.tagged_gtid.uuid_field.Goals as goal

pub returns-in_err-integer-clause-none : goal.returns-in_err-integer-clause-none
returns-in_err-integer-clause-none c = none_then c.from_residual.result (Lacks-field_number 1 (IsSequence 16 IsByte) _ c.in_err-integer.ensures.none)

pub returns-then-branch-ne-UUID-clause-none : goal.returns-then-branch-ne-UUID-clause-none
returns-then-branch-ne-UUID-clause-none c = Lacks-field_other 1 (IsSequence 16 IsByte) _ _ _ c.in_ok-integer.ensures.some c.if-branch-ne-UUID.true

pub loop-own-init : goal.loop-own-init
loop-own-init c = (refl, Sequence-none IsByte _)

pub returns-in_err-own-clause-none : goal.returns-in_err-own-clause-none
returns-in_err-own-clause-none c =
    let i = c.loop-own.own-index in
    let lt = c.loop-own-test.true in
    none_then c.from_residual-in_err-own.result (Lacks-field_content 1 (IsSequence 16 IsByte) _ _ _ c.if-branch-ne-UUID.false c.in_ok-integer.ensures.some (Lacks-uuid i (15 - i) _ _ _ (omega (arith, lt)) c.loop-own.invariant.1 c.in_err-own.ensures.none))

pub loop-own-preserved : goal.loop-own-preserved
loop-own-preserved c = (simp length-set c.loop-own.invariant.0, byte_more c.loop-own.own-index (c.loop-own.own-index + 1) c.in_ok-own.field-0 c.loop-own.own-items _ _ _ _ refl (omega (arith, c.loop-own-test.true, c.loop-own.invariant.0)) refl c.loop-own.invariant.1 c.in_ok-own.ensures.some)

pub returns-clause-some : goal.returns-clause-some
returns-clause-some c =
    Reads-field 1 (IsSequence 16 IsByte) _ _ _ _ _ c.if-branch-ne-UUID.false c.in_ok-integer.ensures.some (bytes_all c.loop-own.own-index _ _ _ c.loop-own-test.false c.loop-own.auto.own-index-end c.loop-own-test.array_long c.loop-own.invariant.1)
