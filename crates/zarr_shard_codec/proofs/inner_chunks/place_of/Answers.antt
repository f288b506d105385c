use Rattle.std.proofs.Common.{◌≡◌, ◌<◌, ◌^◌, IfSome, sym, ap, ◌∙◌, subst}
use Rattle.zarr_model.specs.Prelude.{count_of, whole, tuple_at, IsChunk, Grid}
use Rattle.zarrs_chunk_grid.specs.ChunkGrid.{BoxFits}
use Rattle.zarr_array_open.proofs.ServedLaws.{chunk_fits}
use Rattle.zarr_shard_codec.specs.Placing.{indices_at}
use Rattle.zarr_shard_codec.specs.ShardCodec.{inner_grid}
use Rattle.zarr_shard_codec.proofs.CodecFacts.{is_inner}
use Rattle.zarr_shard_codec.proofs.inner_chunks.place_of.Goals as goal

pub chunk_box-requires-clause-chunk : goal.chunk_box-requires-clause-chunk
chunk_box-requires-clause-chunk c =
    let codec = c.args.codec.now in
    let made = subst (λ o.
    IfSome o (λ v. (count_of c.grid_shape.result.now < 2 ^ 64) × (c.args.number < count_of c.grid_shape.result.now) ×
    (v.items ≡ tuple_at (whole c.grid_shape.result.now) c.args.number))) c.in-Some.is c.in_ok-indices.ensures.some in
    let at : c.as_slice.result.now ≡ indices_at codec c.args.number =
    c.as_slice.ensures ∙ (made.2 ∙ ap (λ shape. tuple_at (whole shape) c.args.number)
    (c.grid_shape.ensures ∙ ap (λ (g : Grid). g.grid_shape) c.grid-grid.ensures.grid)) in
    subst (λ g. IsChunk g c.as_slice.result.now) (sym c.grid-grid.ensures.grid)
    (subst (IsChunk (inner_grid codec)) (sym at) (is_inner codec c.args.number c.requires.below))

pub chunk_box-requires-clause-fits : goal.chunk_box-requires-clause-fits
chunk_box-requires-clause-fits c =
    subst (λ g. BoxFits g c.as_slice.result.now) (sym c.grid-grid.ensures.grid)
    (λ is_chunk. chunk_fits c.args.codec.now.shard.inner c.as_slice.result.now is_chunk)
