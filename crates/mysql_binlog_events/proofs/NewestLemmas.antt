-- The state of a reader after many events.
use Rattle.std.proofs.Common.{◌≡◌, ◌∙◌, ℕ, List, [], ◌∷◌, refl, ap, Some}
use Rattle.std.specs.Prelude.{if◌then◌else◌, ◌==◌, Option}
use Rattle.rows_table_map.specs.TableMaps.{TableMap}
use Rattle.events_frames.specs.Descriptions.{Description}
use Rattle.events_frames.specs.LogReadings.{ReaderState, Change, NewDescription, NewTableMap, NewFile, NothingNew, first_reading, after_change}
use Rattle.mysql_binlog_events.specs.Newest.{AcceptsAll, NoEvent, OneMore, newest_described, newest_table_map}

description_step : (first : Description) (said : Change) (older : List Change) (old : ReaderState) → old.description ≡ newest_described first older → (after_change old said).description ≡ newest_described first (said ∷ older)
description_step first (NewDescription d) older old e = refl
description_step first (NewTableMap t) older old e = e
description_step first NewFile older old e = e
description_step first NothingNew older old e = e

map_step : (id : ℕ) (said : Change) (older : List Change) (old : ReaderState) → old.table_map id ≡ newest_table_map id older → (after_change old said).table_map id ≡ newest_table_map id (said ∷ older)
map_step id (NewDescription d) older old e = e
map_step id (NewTableMap t) older old e = ap (λ (o : Option TableMap). if t.table_id == id then Some t else o) e
map_step id NewFile older old e = refl
map_step id NothingNew older old e = e

pub description_newest : (first : ReaderState) (said : List Change) (r : ReaderState) → AcceptsAll first said r → r.description ≡ newest_described first.description said
description_newest first [] r NoEvent = refl
description_newest first (said ∷ older) r (OneMore _ old _ event p taken before) =
    ap (λ (k : ReaderState). k.description) taken.after ∙ description_step first.description taken.said older old (description_newest first older old before)

pub table_map_newest : (version id : ℕ) (said : List Change) (r : ReaderState) → AcceptsAll (first_reading version) said r → r.table_map id ≡ newest_table_map id said
table_map_newest version id [] r NoEvent = refl
table_map_newest version id (said ∷ older) r (OneMore _ old _ event p taken before) =
    ap (λ (k : ReaderState). k.table_map id) taken.after ∙ map_step id taken.said older old (table_map_newest version id older old before)
