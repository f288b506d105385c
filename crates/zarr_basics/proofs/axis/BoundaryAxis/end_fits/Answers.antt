use Rattle.std.proofs.Common.{rules, ◌≡◌, ◌+◌, ◌-◌, ◌^◌, ◌<◌, ◌∙◌, suc, nat_lt, length, sum, ap, arith}
use Rattle.zarr_basics.specs.Axes.{axis_lengths}
use Rattle.zarr_basics.proofs.AxisFacts.{axis_end, length-nonzeros}
use Rattle.zarr_basics.proofs.axis.BoundaryAxis.end_fits.Goals as goal

pub returns : goal.returns
returns c =
    let axis = c.args.self.now in
    let some : 0 < length axis.lengths.items = search rules in
    let before : c.saturating_sub-last.result ≡ length axis.lengths.items - 1 = search rules in
    let last : suc c.saturating_sub-last.result ≡ length (axis_lengths axis) =
    omega (arith, length-nonzeros axis.lengths.items, some, before) in
    let end : c.start_of.result + c.get.result ≡ sum (axis_lengths axis) = omega (
      arith,
      c.start_of.ensures,
      c.get.ensures.value,
      c.length_of-length.ensures,
      axis_end axis c.saturating_sub-last.result last,
    ) in
    let tested : c.is_some.result ≡ nat_lt (c.start_of.result + c.get.result) (2 ^ 64) = search rules in
    tested ∙ ap (λ n. nat_lt n (2 ^ 64)) end
