use Rattle.std.proofs.Common.{◌≡◌, ◌<◌, ◌^◌, IfSome, sym, ap, ◌∙◌, subst, subst₂}
use Rattle.zarr_model.specs.Prelude.{count_of, whole, tuple_at, IsChunk, Grid}
use Rattle.zarr_array_open.specs.ChunkLevels.{ServesShape}
use Rattle.zarr_shard_codec.specs.Placing.{indices_at}
use Rattle.zarr_shard_codec.specs.ShardCodec.{inner_grid}
use Rattle.zarr_shard_codec.proofs.CodecFacts.{is_inner, has_inner, chunk_dims}
use Rattle.zarr_shard_codec.proofs.shard_codec.ShardCodec.levels.Goals as goal

pub levels-requires-clause-chunk : goal.levels-requires-clause-chunk
levels-requires-clause-chunk c =
    let codec = c.args.self.now in
    let made =
    subst (λ o. IfSome o (λ v. (count_of c.grid_shape.result.now < 2 ^ 64) × (0 < count_of c.grid_shape.result.now) ×
    (v.items ≡ tuple_at (whole c.grid_shape.result.now) 0))) c.in-Some.is c.in_ok-first.ensures.some in
    let at : c.as_slice.result.now ≡ indices_at codec 0 =
    c.as_slice.ensures ∙ (made.2 ∙ ap (λ shape. tuple_at (whole shape) 0)
    (c.grid_shape.ensures ∙ ap (λ (g : Grid). g.grid_shape) c.grid.ensures.grid)) in
    subst (IsChunk (inner_grid codec)) (sym at) (is_inner codec 0 (has_inner codec))

pub returns : goal.returns
returns c =
    let codec = c.args.self.now in
    let made =
    subst (λ o. IfSome o (λ v. (count_of c.grid_shape.result.now < 2 ^ 64) × (0 < count_of c.grid_shape.result.now) ×
    (v.items ≡ tuple_at (whole c.grid_shape.result.now) 0))) c.in-Some.is c.in_ok-first.ensures.some in
    let at : c.as_slice.result.now ≡ indices_at codec 0 =
    c.as_slice.ensures ∙ (made.2 ∙ ap (λ shape. tuple_at (whole shape) 0)
    (c.grid_shape.ensures ∙ ap (λ (g : Grid). g.grid_shape) c.grid.ensures.grid)) in
    subst₂ (λ dims chain. ServesShape codec.shard.inner dims chain c.in_ok-levels.levels)
    (chunk_dims codec c.as_slice.result.now (subst (IsChunk (inner_grid codec)) (sym at)
    (is_inner codec 0 (has_inner codec)))) c.chain.ensures c.in_ok-levels.ensures
