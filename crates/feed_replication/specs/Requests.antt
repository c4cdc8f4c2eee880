-- COM_BINLOG_DUMP, MySQL's request for a binary log, as one packet.
use Rattle.std.specs.Prelude.{ℕ, List, ◌∷◌, ◌++◌}
use Rattle.std.specs.Int.{w16, w32, to_le_bytes}
use Rattle.wire_packets.specs.Framing.{framing}

-- the number of the command COM_BINLOG_DUMP
abbrev pub com_binlog_dump : ℕ
com_binlog_dump = 0x12

-- the flag BINLOG_DUMP_NON_BLOCK: the answer ends at the end of the newest log and doesn't wait for more
abbrev pub binlog_dump_non_block : ℕ
binlog_dump_non_block = 1

-- the command, the position, the flag BINLOG_DUMP_NON_BLOCK, the replica's server id, the file's name to the end
abbrev pub dump_payload : ℕ → ℕ → List ℕ → List ℕ
dump_payload position server name = com_binlog_dump ∷ to_le_bytes w32 position ++ to_le_bytes w16 binlog_dump_non_block ++ to_le_bytes w32 server ++ name

-- a command begins a conversation, so its packet has sequence number 0
unfoldable pub dump_request : ℕ → ℕ → List ℕ → List ℕ
dump_request position server name = framing 0 (dump_payload position server name)
