use Rattle.wire_buf.proofs.EncodingLemmas.{is_some_unless_lacks}
use Rattle.wire_buf.proofs.parse_buf.ParseBuf.eat_u8_str.Goals as goal

pub unwrap-requires : goal.unwrap-requires
unwrap-requires c = is_some_unless_lacks _ _ _ _ c.requires c.checked_eat_u8_str.ensures.none
