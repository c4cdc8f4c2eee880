-- JSON documents as a server reads them (MySQL Reference Manual, "The JSON Data Type"; RFC 8259).
use Rattle.std.specs.Prelude.{ℕ, List, [], ◌∷◌}
use Rattle.std.specs.Fmt.{decimal}
use Rattle.changes_writers.specs.JsonStrings.{json_string}
use Rattle.changes_writers.specs.FloatTexts.{IsDoubleJson}
use Rattle.feed_text.specs.DocumentForms.{Form}

-- what stands for a value that JSON text doesn't have: a byte that no text in UTF-8 has
abbrev pub no_text : List ℕ
no_text = 255 ∷ []

-- The form of JSON texts: numbers in decimal, the shortest digits of a double, strings and keys as JSON has them. It isn't used for updates.
abbrev pub plain_form : Form
plain_form = record {
  uint = decimal;
  IsDouble = IsDoubleJson;
  decimal = λ d. no_text;
  string = json_string;
  time = λ t. no_text;
  opaque = λ number bytes. no_text;
  key = json_string;
  update = λ operation path value. no_text;
  before_updates = [];
  after_updates = [];
}
