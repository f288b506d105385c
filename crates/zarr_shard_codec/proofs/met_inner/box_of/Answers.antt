use Rattle.std.proofs.Common.{sym, subst}
use Rattle.zarr_model.specs.Prelude.{IsChunk}
use Rattle.zarrs_chunk_grid.specs.ChunkGrid.{BoxFits}
use Rattle.zarr_array_open.proofs.ServedLaws.{chunk_fits}
use Rattle.zarr_shard_codec.proofs.met_inner.box_of.Goals as goal

pub chunk_box-requires-clause-chunk : goal.chunk_box-requires-clause-chunk
chunk_box-requires-clause-chunk c = subst (λ g. IsChunk g c.args.indices.now) (sym c.grid.ensures.grid) c.requires

pub chunk_box-requires-clause-fits : goal.chunk_box-requires-clause-fits
chunk_box-requires-clause-fits c =
    subst (λ g. BoxFits g c.args.indices.now) (sym c.grid.ensures.grid)
    (λ is_chunk. chunk_fits c.args.codec.now.shard.inner c.args.indices.now is_chunk)
