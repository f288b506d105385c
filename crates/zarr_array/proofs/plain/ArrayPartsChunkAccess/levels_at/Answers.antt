use Rattle.zarr_array.proofs.ChunkLaws.{in_hand}
use Rattle.zarr_array.proofs.plain.ArrayPartsChunkAccess.levels_at.Goals as goal

pub fitted_levels-requires-clause-hand : goal.fitted_levels-requires-clause-hand
fitted_levels-requires-clause-hand c = in_hand c.args.self.now c.args.hand c.requires.hand
