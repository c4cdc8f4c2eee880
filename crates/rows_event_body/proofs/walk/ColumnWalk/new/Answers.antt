use Rattle.std.proofs.Common.{◌≡◌, ℕ, ◌+◌, refl, ap, ◌∙◌, arith}
use Rattle.rows_table_map.specs.Served.{charset_item}
use Rattle.rows_table_map.specs.MetadataViews.{extracted_view}
use Rattle.rows_event_body.specs.Plans.{keys_after}
use Rattle.rows_event_body.proofs.walk.ColumnWalk.new.Goals as goal

from_zero : (k : ℕ) → k ≡ 0 + k
from_zero k = omega arith

pub returns-clause-at : goal.returns-clause-at
unfolding keys_after
returns-clause-at c = record {
  columns = refl;
  signs = c.iter_signedness.ensures;
  charsets = λ k. c.iter_charset.ensures k ∙ ap (charset_item (extracted_view c.args.metadata.now).charset (extracted_view c.args.metadata.now).charsets) (from_zero k);
  enum_charsets = λ k. c.iter_enum_and_set_charset.ensures k ∙ ap (charset_item (extracted_view c.args.metadata.now).enum_charset (extracted_view c.args.metadata.now).enum_charsets) (from_zero k);
  names = c.iter_column_name.ensures;
  keys = c.iter_primary_key.ensures;
  json = refl;
}
