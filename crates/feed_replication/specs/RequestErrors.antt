-- The names that the program prints for errors of making a request.
use Rattle.std.specs.Prelude.{ℕ, List, codes}
use Rattle.feed_replication.specs.declared.requests.RequestError.{RequestError}
use Rattle.feed_replication.specs.declared.requests.RequestError.TheVariants.{NameTooLong, Memory}

-- the name of an error
abbrev pub request_error_name : RequestError → List ℕ
request_error_name NameTooLong = codes "NameTooLong"
request_error_name Memory = codes "Memory"
