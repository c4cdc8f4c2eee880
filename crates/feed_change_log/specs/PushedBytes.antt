-- The bytes that were pushed and aren't read yet.
use Rattle.std.specs.Prelude.{ℕ, List, drop}
use Rattle.feed_change_log.specs.declared.pushed.Pushed.{Pushed}

abbrev pub left_of : Pushed → List ℕ
left_of p = drop p.taken p.bytes.items
