mod WordLemmas
mod ChunkLaws
mod LevelLaws
mod TargetLaws
