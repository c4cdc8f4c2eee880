-- What the code has of names and tables, for the lines of a transaction.
use Rattle.std.specs.Prelude.{ℕ, List, [], ◌∷◌, ◌++◌, codes, Option, None}
use Rattle.events_frames.specs.Headers.{Header}
use Rattle.rows_event_body.specs.declared.rows_event_type.RowImages.{RowImages}
use Rattle.feed_checks.specs.BodyReaders.{table_map_in}
use Rattle.feed_transactions.specs.MappedRows.{change_by}
use Rattle.rows_table_map.specs.TableMaps.{TableMap}
use Rattle.changes_tables.specs.MemberTexts.{utf8_json}
use Rattle.changes_tables.specs.declared.tables.ShownTable.{ShownTable}
use Rattle.changes_lines.specs.ChangeLines.{change_word}
use Rattle.changes_lines.specs.Origins.{header_members}

-- the table map with this body, if its post-header length is the usual one; none without bytes
abbrev pub usual_map : List ℕ → Option TableMap
usual_map [] = None
usual_map (b ∷ bs) = table_map_in 8 (b ∷ bs)

-- what the lines of the rows of an event begin with
abbrev pub front_of : RowImages → ShownTable → Header → List ℕ
front_of images table h = codes "{\"type\":\"" ++ (change_word (change_by images) ++ (codes "\"," ++ (table.names.items ++ header_members h)))

-- what the line of a statement begins with, and what it has before its text
abbrev pub statement_front : List ℕ → Header → List ℕ
statement_front schema h = codes "{\"type\":\"statement\",\"database\":" ++ (utf8_json schema ++ header_members h)

abbrev pub statement_back : List ℕ
statement_back = codes ",\"sql\":"
