use Rattle.std.proofs.Common.{ap, ◌∙◌, arith}
use Rattle.zarr_model.specs.Prelude.{fixed_size}
use Rattle.zarr_array_open.proofs.limits.+innermost_fill.Goals as goal

pub innermost_fill-requires : goal.innermost_fill-requires
innermost_fill-requires t c =
    let less = c.in-Optional.ensures.less in
    (omega (arith, less), ap fixed_size c.in-Optional.ensures.kind ∙ c.requires)
