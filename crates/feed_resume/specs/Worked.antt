-- Texts of the worked examples.
use Rattle.std.specs.Prelude.{ℕ, List, codes}

-- two transactions, of 38 bytes each
abbrev pub two_inserts : List ℕ
two_inserts = codes "begin -\ninsert 'd' 't' 0=5\ncommit 142\nbegin -\ninsert 'd' 't' 0=6\ncommit 280\n"
