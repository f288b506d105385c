use Rattle.std.proofs.Common.{◌≡◌, ◌++◌, drop}
use Rattle.zarrs_codec_traits.specs.Prelude.{permuted, lengths}
use Rattle.zarr_codecs_elements.proofs.shapes.permuted_shape.Given as goal

abbrev pub invariant-loop-dimension : goal.invariant-loop-dimension
invariant-loop-dimension l = lengths l.out.items ++ permuted (drop l.dimension-index l.order) (lengths l.shape) ≡
    permuted l.order (lengths l.shape)
