-- The printed text of a changed row: what was done to it, the names of its table, and its images.
use Rattle.std.specs.Prelude.{ℕ, List, [], ◌∷◌, ◌++◌, codes}
use Rattle.std.specs.List.{flat_map}
use Rattle.feed_writers.specs.Quoting.{quoted}
use Rattle.rows_table_map.specs.TableMaps.{TableMap}
use Rattle.rows_event_body.specs.RowsEvents.{RowsBody}
use Rattle.feed_transactions.specs.MappedRows.{Change, Insert, Update, Delete, change_of}

-- the word of a change
abbrev pub change_word : Change → List ℕ
change_word Insert = codes "insert "
change_word Update = codes "update "
change_word Delete = codes "delete "

-- the images of a row; an update has two
abbrev pub images_text : List (List ℕ) → List ℕ
images_text [] = []
images_text (image ∷ images) = image ++ flat_map (λ i. codes " to" ++ i) images

-- the quoted names of a database and of a table
abbrev pub names_text : List ℕ → List ℕ → List ℕ
names_text database table = quoted database ++ 32 ∷ quoted table

-- the start of the lines of an event's rows: the change, and the names of the table
abbrev pub start_of : RowsBody → TableMap → List ℕ
start_of r m = change_word (change_of r) ++ names_text m.database m.table
