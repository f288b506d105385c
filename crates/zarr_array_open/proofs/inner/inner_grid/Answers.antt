use Rattle.std.proofs.Common.{rules, ◌≡◌, length, sym, ap, ◌∙◌}
use Rattle.std.proofs.lemmas.List.{length-map}
use Rattle.std.specs.Int.NonZero.{non_zero_u64_get}
use Rattle.zarr_basics.specs.Lengths.{nonzeros}
use Rattle.zarr_array_open.proofs.LengthLaws.{inner_rank}
use Rattle.zarr_array_open.proofs.inner.inner_grid.Goals as goal

pub new-requires : goal.new-requires
new-requires c =
    let chunk : c.in_ok-chunk_shape.chunk_shape.items ≡ c.args.chunk_shape.now = search rules in
    let part : c.in_ok-inner_shape.inner_shape.items ≡ c.args.inner_shape.now = search rules in
    ap length chunk
    ∙ (inner_rank c.args.chunk_shape.now (nonzeros c.args.inner_shape.now) c.requires
    ∙ (length-map c.args.inner_shape.now non_zero_u64_get ∙ sym (ap length part)))
