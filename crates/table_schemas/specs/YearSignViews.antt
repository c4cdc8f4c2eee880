-- The signs that a `YearSigns` has.
use Rattle.table_schemas.specs.YearSigns.{Signs}
use Rattle.table_schemas.specs.declared.signs.YearSigns.{YearSigns}

abbrev pub signs_of : YearSigns → Signs
signs_of s = record { types = s.types.now; fields = s.fields.now; value = s.value.now; after = s.after.now }
