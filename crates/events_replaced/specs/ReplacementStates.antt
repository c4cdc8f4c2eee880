-- What a decompressor of payloads has.
use Rattle.std.specs.Prelude.{ℕ, List, Option}
use Rattle.events_replaced.specs.declared.replacements.ReplacementFault.{ReplacementFault}
use Rattle.events_replaced.specs.declared.replacements.Replacements.{Replacements}

-- the content of the newest payload
abbrev pub content_of : Replacements → List ℕ
content_of p = p.content.items

-- the maximum length of a content
abbrev pub limit_of : Replacements → ℕ
limit_of p = p.limit

-- why the newest payload isn't given as its events
abbrev pub fault_in : Replacements → Option ReplacementFault
fault_in p = p.fault
