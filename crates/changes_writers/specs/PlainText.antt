-- Bytes of JSON strings that are copied many at a time.
use Rattle.std.specs.Prelude.{ℕ, Bool, ◌&&◌, nat_lt}
use Rattle.changes_writers.specs.JsonStrings.{is_unescaped}

-- ASCII that needs no escape
abbrev pub is_plain : ℕ → Bool
is_plain b = is_unescaped b && nat_lt b 128
