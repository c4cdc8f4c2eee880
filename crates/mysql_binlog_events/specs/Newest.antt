-- The state of a log's reader after many events, by the newest event first.
use Rattle.std.specs.Prelude.{ℕ, ◌==◌, List, [], ◌∷◌, Option, Some, None, if◌then◌else◌}
use Rattle.rows_table_map.specs.TableMaps.{TableMap}
use Rattle.events_frames.specs.Descriptions.{Description}
use Rattle.events_frames.specs.EventParts.{Parts}
use Rattle.events_frames.specs.LogReadings.{ReaderState, Change, NewDescription, NewTableMap, NewFile, NothingNew, IsAccepted}

-- the changes of all accepted events, the newest first
pub data AcceptsAll (first : ReaderState) : List Change → ReaderState → Type 0 where
  NoEvent : AcceptsAll first [] first
  OneMore : (older : List Change) (old new : ReaderState) (event : List ℕ) (p : Parts) (taken : IsAccepted old new event p) → AcceptsAll first older old → AcceptsAll first (taken.said ∷ older) new

-- the newest format description, or this one if there is none
abbrev pub newest_described : Description → List Change → Description
newest_described first [] = first
newest_described first (NewDescription d ∷ older) = d
newest_described first (NewTableMap t ∷ older) = newest_described first older
newest_described first (NewFile ∷ older) = newest_described first older
newest_described first (NothingNew ∷ older) = newest_described first older

-- the newest table map with the table id, unless another file began after it
abbrev pub newest_table_map : ℕ → List Change → Option TableMap
newest_table_map id [] = None
newest_table_map id (NewDescription d ∷ older) = newest_table_map id older
newest_table_map id (NewTableMap t ∷ older) = if t.table_id == id then Some t else newest_table_map id older
newest_table_map id (NewFile ∷ older) = None
newest_table_map id (NothingNew ∷ older) = newest_table_map id older
