-- The remaining bytes of digit groups.
use Rattle.std.specs.Prelude.{ℕ, List, drop, ◌++◌}
use Rattle.rows_values.specs.Steps.{sides_bytes}
use Rattle.rows_values.specs.declared.fields.GroupBytes.{GroupBytes}

-- the remaining bytes of the current group, and those of the digits after it
abbrev pub remaining_bytes : GroupBytes → List ℕ
remaining_bytes g = drop g.bytes_used g.bytes ++ sides_bytes g.before.now g.after.now
