-- Text that grows, and remembers whether memory ran out.
use Rattle.std.specs.Prelude.{◌≡◌, ◌++◌, ℕ, List, false}
use Rattle.feed_text.specs.Buffers.{text_in}
use Rattle.changes_commands.specs.declared.text.Text.{Text}

-- the bytes of a text
abbrev pub bytes_in : Text → List ℕ
bytes_in t = text_in t.bytes

-- these bytes were appended, unless memory ran out
abbrev pub IsLonger : Text → Text → List ℕ → Type 0
IsLonger old new more = new.is_short ≡ false → (old.is_short ≡ false) × (bytes_in new ≡ bytes_in old ++ more)

-- some bytes were appended, unless memory ran out
abbrev pub Grows : Text → Text → Type 0
Grows old new = (more : List ℕ) × IsLonger old new more
