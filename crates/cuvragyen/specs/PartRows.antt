-- A part of a log that borrows nothing that ends.
use denote.RattleType.{RattleType}
use denote.Signature.{static_lft}
use Rattle.library_log.specs.contracts.part.Part.{the_row}

abbrev pub part_row : RattleType
part_row = the_row static_lft
