-- JSON documents in the lines of Maxwell, Debezium and Canal, which take them as mysql-binlog-connector-java prints them (its class JsonStringFormatter).
use Rattle.std.specs.Prelude.{◌≡◌, ℕ, List, [], ◌∷◌, ◌++◌}
use Rattle.std.specs.declared.result.Result.TheVariants.{Ok}
use Rattle.std.specs.Fmt.{decimal}
use Rattle.rows_values.specs.PrintedDecimals.{decimal_text}
use Rattle.changes_writers.specs.JsonStrings.{json_string}
use Rattle.changes_writers.specs.Base64Texts.{base64_string}
use Rattle.changes_writers.specs.FloatTexts.{IsDoubleJson}
use Rattle.feed_text.specs.JsonText.{temporal_text}
use Rattle.feed_text.specs.DocumentForms.{Form, IsDocumentIn}
use Rattle.rows_jsonb.specs.DocumentTrees.{document_tree}
use Rattle.rows_jsonb.specs.JsonTrees.{Tree}
use Rattle.changes_commands.specs.declared.format_options.Format.{Format}
use Rattle.changes_commands.specs.declared.format_options.Format.TheVariants.{Maxwell, Debezium, Canal}

-- The form of documents: numbers in decimal, also those of decimals; the shortest digits of a double; strings and keys as JSON has them; a date or a time as a string; the bytes of a value of another type as a string of Base64. It isn't used for updates.
abbrev pub envelope_form : Form
envelope_form = record {
  uint = decimal;
  IsDouble = IsDoubleJson;
  decimal = λ d. decimal_text d;
  string = json_string;
  time = λ t. 34 ∷ (temporal_text t ++ 34 ∷ []);
  opaque = λ number bytes. base64_string bytes;
  key = json_string;
  update = λ operation path value. [];
  before_updates = [];
  after_updates = [];
}

-- the text of a document: Maxwell has it as it is, the others as a string
abbrev pub document_in : Format → List ℕ → List ℕ
document_in Maxwell json = json
document_in Debezium json = json_string json
document_in Canal json = json_string json

-- a JSON document, by MySQL's binary format
pub record IsEnvelopeDocument (format : Format) (b text : List ℕ) : Type 0 where
  pub tree : Tree
  pub is : document_tree b ≡ Ok tree
  pub json : List ℕ
  pub json_is : IsDocumentIn envelope_form tree json
  pub text_is : text ≡ document_in format json
