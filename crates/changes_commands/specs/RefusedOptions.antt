-- Why the command line can't be used, by why a command can't be run with its options.
use Rattle.changes_commands.specs.declared.refused.Refused.{Refused}
use Rattle.changes_commands.specs.declared.refused.Refused.TheVariants as refused
use Rattle.changes_commands.specs.declared.refused.Unusable.{Unusable}
use Rattle.changes_commands.specs.declared.refused.Unusable.TheVariants as unusable

-- the same reason
abbrev pub refused_of : Unusable → Refused
refused_of (unusable.Value option) = refused.Value option
refused_of (unusable.OwnLines option) = refused.OwnLines option
refused_of unusable.NoCommand = refused.NoCommand
refused_of unusable.Memory = refused.Memory
