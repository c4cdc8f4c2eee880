pub mod ReadingLemmas
pub mod FramingLemmas
pub mod CodecStateLemmas
pub mod PacketLemmas
pub mod PieceLemmas
pub mod ChunkLemmas
