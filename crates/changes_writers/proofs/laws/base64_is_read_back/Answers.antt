use Rattle.changes_writers.proofs.StringLawLemmas.{bytes_read, base64_strings_read, base64_objects_read}
use Rattle.changes_writers.proofs.laws.base64_is_read_back.Goals as goal

pub returns-clause-bytes : goal.returns-clause-bytes
returns-clause-bytes c = bytes_read

pub returns-clause-strings : goal.returns-clause-strings
returns-clause-strings c = base64_strings_read

pub returns-clause-objects : goal.returns-clause-objects
returns-clause-objects c = base64_objects_read
