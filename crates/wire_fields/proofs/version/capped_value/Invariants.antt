use Rattle.std.proofs.Common.{◌≡◌, take, min}
use Rattle.wire_fields.specs.Version.{version_digits_number}
use Rattle.wire_fields.proofs.version.capped_value.Given as goal

-- the value of the digits so far
abbrev pub invariant-loop-digit : goal.invariant-loop-digit
invariant-loop-digit l = l.value ≡ min (version_digits_number (take l.digit-index l.digits)) 256
