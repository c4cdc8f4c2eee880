use Rattle.std.proofs.Common.{◌≡◌, ◌++◌, take}
use Rattle.std.specs.List.{flat_map}
use Rattle.wire_fields.specs.Strings.{lenenc_string_encoded}
use Rattle.table_schemas.proofs.values.put_strings.Given as goal

abbrev pub invariant-loop-string : goal.invariant-loop-string
invariant-loop-string l = l.out.items ≡ l.initial.out.items ++ flat_map (λ s. lenenc_string_encoded s.items) (take l.string-index l.strings)
