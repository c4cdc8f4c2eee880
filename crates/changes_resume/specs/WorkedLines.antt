-- JSON lines of the worked examples, with the members that decide.
use Rattle.std.specs.Prelude.{ℕ, List, codes}

-- a transaction of one line
abbrev pub one_change : List ℕ
one_change = codes "{\"data\":{},\"commit\":true}\n"

-- a transaction of two lines
abbrev pub two_changes : List ℕ
two_changes = codes "{\"data\":{\"a\":1}}\n{\"data\":{\"a\":2},\"commit\":true}\n"

-- a line that is a transaction
abbrev pub whole_transaction : List ℕ
whole_transaction = codes "{\"changes\":[]}\n"
