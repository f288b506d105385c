use Rattle.std.proofs.Common.{◌≡◌, ap₂, ◌∙◌, rules, subst}
use Rattle.zarrs_chunk_grid_iterators.specs.Runs.{runs}
use Rattle.zarrs_array_subset.specs.ArraySubset.{region}
use Rattle.zarrs_array_subset.specs.Errors.{RefusesShape}
use Rattle.zarrs_chunk_grid_indexer.proofs.indexer.boxes.list_runs.Goals as goal

pub returns-in-Ok-clause-lists : goal.returns-in-Ok-clause-lists
returns-in-Ok-clause-lists c r e =
    let shape : c.in_ok-shape.shape.items ≡ c.args.array_shape.now = search rules in
    c.into_iter.ensures.into_iter_gives.0 ∙ c.in-Ok.ensures.lists ∙ ap₂ runs shape e

pub returns-in-Err-clause-refused : goal.returns-in-Err-clause-refused
returns-in-Err-clause-refused c r e =
    let shape : c.in_ok-shape.shape.items ≡ c.args.array_shape.now = search rules in
    subst (λ r. RefusesShape r c.args.array_shape.now c.in-Err.error) e
    (subst (λ xs. RefusesShape (region c.args.subset) xs c.in-Err.error) shape c.in-Err.ensures.refused)
