pub mod Endings
pub mod Outputs
pub mod Inputs
pub mod Commands
pub mod FollowedPackets
