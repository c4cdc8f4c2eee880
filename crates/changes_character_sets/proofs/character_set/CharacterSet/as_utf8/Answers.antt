use Rattle.std.proofs.Common.{arith}
use Rattle.changes_character_sets.proofs.TextLemmas.{text_of_utf8, text_of_ascii, text_found, no_text_found, ascii_of_text}
use Rattle.changes_character_sets.proofs.character_set.CharacterSet.as_utf8.Goals as goal

pub returns-in-Utf8-clause-some : goal.returns-in-Utf8-clause-some
returns-in-Utf8-clause-some c = rw (c.ok.ensures.value, c.in-Utf8.is) (text_found _ _ c.args.bytes.now c.from_utf8.result (text_of_utf8 c.args.bytes.now) c.from_utf8.ensures.cases)

pub returns-in-Utf8-clause-none : goal.returns-in-Utf8-clause-none
returns-in-Utf8-clause-none c = rw c.ok.ensures.value (no_text_found _ c.args.self c.args.bytes.now c.from_utf8.result c.from_utf8.ensures.cases)

pub returns-then-not-is_ascii-clause-none : goal.returns-then-not-is_ascii-clause-none
returns-then-not-is_ascii-clause-none c = rw c.in-Ascii.is (λ e text t. let some = c.if-not-is_ascii.ensures.cases in
    absurd (omega (arith, some.1, ascii_of_text c.args.bytes.now text t some.0)))

pub returns-else-not-is_ascii-clause-some : goal.returns-else-not-is_ascii-clause-some
returns-else-not-is_ascii-clause-some c = rw (c.ok-in-Ascii.ensures.value, c.in-Ascii.is) (text_found _ _ c.args.bytes.now c.from_utf8-in-Ascii.result (λ u. text_of_ascii c.args.bytes.now c.if-not-is_ascii.ensures.cases) c.from_utf8-in-Ascii.ensures.cases)

pub returns-else-not-is_ascii-clause-none : goal.returns-else-not-is_ascii-clause-none
returns-else-not-is_ascii-clause-none c = rw c.ok-in-Ascii.ensures.value (no_text_found _ c.args.self c.args.bytes.now c.from_utf8-in-Ascii.result c.from_utf8-in-Ascii.ensures.cases)
