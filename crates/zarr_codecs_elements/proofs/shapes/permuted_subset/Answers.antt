use Rattle.std.proofs.Common.{◌≡◌, true, true≢false, ap, ap₂, sym, ◌∙◌}
use Rattle.zarrs_codec_traits.specs.Prelude.{starts, sizes, permuted, region_of, is_box, region as box_of}
use Rattle.zarr_codecs_elements.proofs.SubsetLaws.{box_fits, region_is}
use Rattle.zarr_codecs_elements.proofs.shapes.permuted_subset.Goals as goal

pub unreachable-requires : goal.unreachable-requires
unreachable-requires c =
    let order = c.args.order.now in
    let box = box_of c.args.region.now in
    let start : c.in_ok-start.start.items ≡ permuted order (starts box) =
    c.in_ok-start.ensures ∙ ap (permuted order) c.start.ensures in
    let shape : c.in_ok-shape.shape.items ≡ permuted order (sizes box) =
    c.in_ok-shape.ensures ∙ ap (permuted order) c.shape.ensures.value in
    let fits : is_box c.in_ok-start.start.items c.in_ok-shape.shape.items ≡ true =
    ap₂ is_box start shape ∙ box_fits order box c.requires.order c.requires.rank c.shape.ensures.fits in
    absurd (true≢false (sym fits ∙ c.in-Err.ensures.refused.1))

pub returns : goal.returns
returns c =
    let order = c.args.order.now in
    let box = box_of c.args.region.now in
    let start : c.in_ok-start.start.items ≡ permuted order (starts box) =
    c.in_ok-start.ensures ∙ ap (permuted order) c.start.ensures in
    let shape : c.in_ok-shape.shape.items ≡ permuted order (sizes box) =
    c.in_ok-shape.ensures ∙ ap (permuted order) c.shape.ensures.value in
    c.in-Ok.ensures.ok.1 ∙ (ap₂ region_of start shape ∙ region_is order box)
