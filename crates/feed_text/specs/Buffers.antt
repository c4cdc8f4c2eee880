-- The text of a buffer that has room after it.
use Rattle.std.specs.Prelude.{ℕ, List, take}
use Rattle.feed_text.specs.declared.buffer.TextBuffer.{TextBuffer}

-- the text, without the room
abbrev pub text_in : {A : Type 0} → TextBuffer A → List ℕ
text_in b = take b.len b.bytes.items
