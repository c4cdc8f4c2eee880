use Rattle.std.proofs.Common.{refl}
use Rattle.wire_packets.proofs.chunk_decoder.ChunkDecoder.decode.Goals as goal

pub returns-then-needed-lt-MAX_PAYLOAD_LEN-clause-idle : goal.returns-then-needed-lt-MAX_PAYLOAD_LEN-clause-idle
returns-then-needed-lt-MAX_PAYLOAD_LEN-clause-idle c = refl

pub returns-clause-idle : goal.returns-clause-idle
returns-clause-idle c = refl
