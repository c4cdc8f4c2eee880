use Rattle.std.proofs.Common.{arith}
use Rattle.changes_character_sets.proofs.CharacterLemmas.{begins_byte}
use Rattle.changes_character_sets.proofs.character_set.split_byte.Goals as goal
use Rattle.changes_character_sets.proofs.character_set.split_byte.Goals.{else-code-eq0-via-then-code-eq0+else-byte-ne0, else-code-eq0-via-else-code-eq0}

pub returns : goal.returns
returns c =
    let v = c.in_ok-from_u32.ensures.value in
    begins_byte c.args.characters c.args.bytes.now c.in_ok-from_u32.field-0 (cc) (omega arith) (cc)
    (elim c.else-code-eq0.branch [ else-code-eq0-via-then-code-eq0+else-byte-ne0 w ↦ λ e. omega arith | else-code-eq0-via-else-code-eq0 w ↦ λ e. omega arith ])
