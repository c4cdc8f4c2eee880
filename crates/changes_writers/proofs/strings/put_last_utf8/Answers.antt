use Rattle.std.proofs.Common.{◌++◌, ap, List, ℕ}
use Rattle.std.proofs.lemmas.Str.{IsUtf8-from_ascii}
use Rattle.std.specs.List.{flat_map}
use Rattle.changes_writers.specs.JsonStrings.{json_byte}
use Rattle.changes_writers.proofs.StringLemmas.{some_all, none_after}
use Rattle.changes_writers.proofs.strings.put_last_utf8.Goals as goal

pub returns-in-Some-clause-utf8 : goal.returns-in-Some-clause-utf8
returns-in-Some-clause-utf8 c = IsUtf8-from_ascii _ c.in-Some.ensures.ascii

pub returns-in-None-clause-text : goal.returns-in-None-clause-text
returns-in-None-clause-text c =
    some_all c.put_checked_content.result _ _ c.args.bytes.now _ (ap (λ (t : List ℕ). t ++ flat_map json_byte c.args.bytes.now) c.in-None.ensures.none) c.put_checked_content.ensures.text

pub returns-in-None-clause-none : goal.returns-in-None-clause-none
returns-in-None-clause-none c = none_after c.put_checked_content.result _ _ _ c.in-None.ensures.none c.put_checked_content.ensures.none
