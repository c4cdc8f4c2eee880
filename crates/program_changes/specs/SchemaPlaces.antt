-- Where the schemas of the option --schema begin in the logs: the manual page binlog-changes(1), "OPTIONS OF JSON".
use Rattle.std.specs.Prelude.{◌≡◌, ℕ, Bool, true, false, List, nat_lt}
use Rattle.changes_commands.specs.LogNames.{IsOrder}
use Rattle.changes_commands.specs.declared.logs.LogOrder.{LogOrder}
use Rattle.changes_commands.specs.declared.logs.LogOrder.TheVariants as order
use Rattle.changes_commands.specs.declared.schema_options.SchemaBeginning.{SchemaBeginning}
use Rattle.changes_commands.specs.declared.schema_options.SchemaBeginning.TheVariants.{First, Time, Position}
use Rattle.table_schemas.specs.CompletedMaps.{start_after}
use Rattle.table_schemas.specs.declared.schema_start.SchemaStart.{SchemaStart}

-- before all events, and after all
abbrev pub start_first : SchemaStart
start_first = record { time = 0; position = 0 }

abbrev pub start_never : SchemaStart
start_never = record { time = 4294967295; position = 4294967295 }

-- where a schema begins in a log, by how this is ordered to the log of its position: after the position, or before all events in the logs after it
abbrev pub start_by : LogOrder → ℕ → SchemaStart
start_by order.Same position = start_after position
start_by order.After position = start_first
start_by order.Before position = start_never
start_by order.Unknown position = start_never

-- the same of a schema that begins after a position of a log
pub record BeginsAfter (log : List ℕ) (at : ℕ) (name : List ℕ) (s : SchemaStart) : Type 0 where
  pub by : LogOrder
  pub order_is : IsOrder name log by
  pub is : s ≡ start_by by at

-- where a schema begins in the log with a name
unfoldable pub BeginsIn : SchemaBeginning → List ℕ → SchemaStart → Type 0
BeginsIn First name s = s ≡ start_first
BeginsIn (Time time) name s = s ≡ record { time = time; position = 0 }
BeginsIn (Position log at) name s = BeginsAfter log.now at name s

-- whether a position is known to be before another, by how their logs are ordered
abbrev pub is_before_by : LogOrder → ℕ → ℕ → Bool
is_before_by order.Before a b = true
is_before_by order.Same a b = nat_lt a b
is_before_by _ a b = false

pub record IsBeforeAt (log : List ℕ) (at : ℕ) (other_log : List ℕ) (other : ℕ) (r : Bool) : Type 0 where
  pub by : LogOrder
  pub order_is : IsOrder log other_log by
  pub is : r ≡ is_before_by by at other

-- whether a schema is known to begin before another: the first time before each other, times by their numbers, positions by their logs
unfoldable pub IsBefore : SchemaBeginning → SchemaBeginning → Bool → Type 0
IsBefore First First r = r ≡ false
IsBefore First _ r = r ≡ true
IsBefore (Time time) (Time other) r = r ≡ nat_lt time other
IsBefore (Position log at) (Position other_log other) r = IsBeforeAt log.now at other_log.now other r
IsBefore _ _ r = r ≡ false
