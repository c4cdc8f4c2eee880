-- Readers: functions that compute the value that bytes begin with, and the remaining bytes. A format states which bytes encode a value; each reader is derived from its format, and `IsReaderOf` ties the two.
use Rattle.std.specs.Prelude.{◌≡◌, ◌↔◌, ℕ, ◌++◌, List, [], length, take, drop, Option, Some, None, nat_le, ◌==◌, if◌then◌else◌}
use Rattle.wire_buf.specs.LenencSplit.{split_number, split_lenenc}
use Rattle.wire_buf.specs.Encoding.{Encoding, Begins}

-- a function from bytes to the value that they begin with, and the bytes after it
abbrev pub Reader : Type 0 → Type 0
Reader A = List ℕ → Option (A × List ℕ)

-- the reader finds a value exactly if the bytes begin with one, and finds that one
pub record IsReaderOf {A : Type 0} (format : A → List ℕ → List ℕ → Type 0) (read : List ℕ → Option (A × List ℕ)) : Type 0 where
  pub found : (v : A) (x rest : List ℕ) → read x ≡ Some (v, rest) → Begins (format v) x rest
  pub here : (v : A) (bytes rest : List ℕ) → format v bytes rest → read (bytes ++ rest) ≡ Some (v, rest)

-- go on with the value that was found, if one was
abbrev pub if_found : {A B : Type 0} → Option A → (A → Option B) → Option B
if_found None next = None
if_found (Some x) next = next x

-- read a value, then go on after it
infixl 10 ◌>>=◌
abbrev pub ◌>>=◌ : {A B : Type 0} → Reader A → (A → Reader B) → Reader B
read >>= next = λ x. if_found (read x) (λ p. next p.0 p.1)

-- this value, without reading
abbrev pub done : {A : Type 0} → A → Reader A
done v x = Some (v, x)

-- n bytes
abbrev pub bytes_reader : ℕ → Reader (List ℕ)
bytes_reader n x = if nat_le n (length x) then Some (take n x, drop n x) else None

-- a byte without meaning
abbrev pub skip_reader : Reader (Unit {0})
skip_reader x = if nat_le 1 (length x) then Some (tt, drop 1 x) else None

-- all remaining bytes
abbrev pub rest_reader : Reader (List ℕ)
rest_reader x = Some (x, [])

-- a string after its length of one byte
abbrev pub short_string_bytes_reader : Reader (List ℕ)
short_string_bytes_reader = split_number 1 >>= bytes_reader

-- a length-encoded string
abbrev pub lenenc_string_bytes_reader : Reader (List ℕ)
lenenc_string_bytes_reader = split_lenenc >>= bytes_reader

-- a field that is read with its context, or None if there is no context
abbrev pub optional_reader : {C A : Type 0} → (C → Reader A) → Option C → Reader (Option A)
optional_reader read None x = Some (None, x)
optional_reader read (Some ctx) x = if_found (read ctx x) (λ p. Some (Some p.0, p.1))

-- the value that a body encodes; None if bytes remain
abbrev pub body_by : {A : Type 0} → Reader A → List ℕ → Option A
body_by read body = if_found (read body) (λ p. if length p.1 == 0 then Some p.0 else None)

-- the function returns the value of a body exactly if the body is in its format
abbrev pub IsBodyOf : {A : Type 0} → Encoding A → (List ℕ → Option A) → Type 0
IsBodyOf {A} format value = (v : A) (body : List ℕ) → (value body ≡ Some v) ↔ format v body []
