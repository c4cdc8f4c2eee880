-- The names that the program prints for the results of a request.
use Rattle.std.specs.Prelude.{ℕ, List, codes}
use Rattle.feed_checks.specs.Verdicts.{verdict_name}
use Rattle.feed_replication.specs.declared.served.Refusal.{Refusal}
use Rattle.feed_replication.specs.declared.served.Refusal.TheVariants.{NotADump, Flags, Name, Place}
use Rattle.feed_replication.specs.declared.served.Served.{Served}
use Rattle.feed_replication.specs.declared.served.Served.TheVariants.{Whole, Refused, Fault}

-- the name of a reason to reject a request
abbrev pub error_name : Refusal → List ℕ
error_name NotADump = codes "NotADump"
error_name Flags = codes "Flags"
error_name Name = codes "Name"
error_name Place = codes "Place"

-- the name of a result: `Whole`, or that of the rejection or of the fault
abbrev pub served_name : Served → List ℕ
served_name Whole = codes "Whole"
served_name (Refused error) = error_name error
served_name (Fault verdict) = verdict_name verdict
