use Rattle.std.proofs.Common.{take, arith}
use Rattle.rows_cells.specs.CellValues.{bytes}
use Rattle.changes_writers.specs.JsonStrings.{json_string}
use Rattle.changes_cells.specs.CellJson.{IsCellJson, IsBytesJson, IsBytesShown}
use Rattle.changes_cells.proofs.TextJsonLemmas.{ascii_json}
use Rattle.changes_cells.proofs.fields.put_plain_field.Goals as goal

pub returns-in-Some-put_plain_string : goal.returns-in-Some-put_plain_string
unfolding IsCellJson IsBytesJson IsBytesShown
returns-in-Some-put_plain_string c =
    let content = take c.in-Some.len c.in-Some.window.now in
    let w = c.in-Some-put_plain_string.ensures in
    let few = c.in-Some.ensures.few in
    record {
      value = bytes content;
      read = c.in-Some.ensures.cell;
      text = record {
        text = json_string content;
        such = rw c.in-Text.is (rw c.in-Utf8.is (ascii_json content w.ascii));
        most = omega (arith, w.end, few);
        written = w.text;
      };
    }
