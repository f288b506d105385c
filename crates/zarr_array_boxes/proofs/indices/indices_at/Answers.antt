use Rattle.std.proofs.Common.{◌++◌, ap, ap₂, ◌∙◌}
use Rattle.zarr_model.specs.Region.{tuple_at}
use Rattle.zarrs_array_subset.specs.Boxes.{region_of}
use Rattle.zarr_array_boxes.proofs.IndexLaws.{parts_box}
use Rattle.zarr_array_boxes.proofs.indices.indices_at.Goals as goal

pub returns : goal.returns
returns c =
    let s = c.args.subset.now in
    c.in_ok-push_tuple.ensures.tuple
    ∙ (ap (λ front. front ++ tuple_at (region_of c.start.result.now c.shape.result.now) c.args.place)
    c.new-indices.ensures.items
    ∙ ap (λ box. tuple_at box c.args.place)
    (ap₂ region_of c.start.ensures c.shape.ensures.value ∙ (parts_box s.start.items s.shape.items s.is_box).1))
