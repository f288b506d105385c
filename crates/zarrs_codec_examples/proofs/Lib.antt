pub mod ChunkLaws
pub mod MirrorLaws
pub mod SingleLaws
pub mod TurnLaws
