-- The parts of a column's definition.
use Rattle.std.specs.Prelude.{ℕ, List, []}
use Rattle.wire_constants.specs.declared.column_type.ColumnType.{ColumnType}
use Rattle.wire_constants.specs.declared.column_flags.ColumnFlags.{ColumnFlags}
use Rattle.rows_values.specs.declared.rows.column.Column.{Column}

pub record ColumnParts : Type 0 where
  pub column_type : ColumnType
  pub schema : List ℕ
  pub table : List ℕ
  pub org_table : List ℕ
  pub name : List ℕ
  pub flags : ColumnFlags
  pub character_set : ℕ

abbrev pub parts_of : Column → ColumnParts
parts_of c = record {
  column_type = c.column_type;
  schema = c.schema.items;
  table = c.table.items;
  org_table = c.org_table.items;
  name = c.name.items;
  flags = c.flags;
  character_set = c.character_set;
}

-- a column of a type, without names, flags and character set
abbrev pub parts_of_type : ColumnType → ColumnParts
parts_of_type kind = record {
  column_type = kind;
  schema = [];
  table = [];
  org_table = [];
  name = [];
  flags = record { 0 = 0 };
  character_set = 0;
}
