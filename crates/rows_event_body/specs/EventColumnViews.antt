-- The specification's values for the crate's columns of images.
use Rattle.std.specs.Prelude.{List, [], ◌∷◌, if◌then◌else◌}
use Rattle.rows_cells.specs.Images.{ImageShape}
use Rattle.rows_event_body.specs.ImageShapes.{shape_of}
use Rattle.rows_event_body.specs.declared.event_columns.EventColumns.{EventColumns}

abbrev pub shapes_of : EventColumns → List ImageShape
shapes_of c = shape_of c.first ∷ (if c.has_second then shape_of c.second ∷ [] else [])
