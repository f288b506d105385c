use Rattle.std.proofs.Common.{map, ap, ◌∙◌}
use Rattle.std.proofs.lemmas.Simd.{map-map}
use Rattle.zarr_model.specs.Region.{linear_index}
use Rattle.zarrs_chunk_grid_indexer.proofs.indexer.lists.iter_runs.Goals as goal

pub returns-in-Ok-clause-lists : goal.returns-in-Ok-clause-lists
returns-in-Ok-clause-lists c xs e =
    let all = c.into_iter.ensures.rest ∙ c.in-Ok.ensures.lists ∙ ap (map (linear_index c.args.array_shape.now)) e in
    ap (map (λ n. record { start = n; size = 1 })) all
    ∙ map-map (λ n. record { start = n; size = 1 }) (linear_index c.args.array_shape.now) xs
