pub mod Framing
pub mod Reading
pub mod NextChunk
pub mod Chunks
pub mod Packets
pub mod CodecState
pub mod StreamPieces
pub mod PacketLaws
