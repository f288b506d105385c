-- The chunks of a grid whose boxes all fit.
use Rattle.std.proofs.Common.{◌≡◌, ℕ, ◌<◌, true, List, ap, ◌∙◌, subst}
use Rattle.std.specs.List.{list_all}
use Rattle.std.proofs.lemmas.Bool.{and_from}
use Rattle.std.proofs.lemmas.List.Sums.{list_all-from_AllPass}
use Rattle.zarr_model.specs.Region.{count, whole, contains, tuple_at}
use Rattle.zarr_model.specs.Grid.{Grid, chunks}
use Rattle.zarr_model.proofs.RegionLaws.{length-tuples, get_or-tuples, contains-tuple_at}
use Rattle.zarrs_chunk_grid.specs.ChunkGrid.{AllFit}
use Rattle.zarrs_chunk_grid.specs.ChunkIterators.{is_small_chunk}

pub small_chunks : (grid : Grid) (listed : List (List ℕ)) → AllFit grid → listed ≡ chunks grid →
    list_all (is_small_chunk grid) listed ≡ true
small_chunks grid listed fit is =
    ap (list_all (is_small_chunk grid)) is ∙ list_all-from_AllPass (is_small_chunk grid) (chunks grid) (λ k d h.
    let below : k < count (whole grid.grid_shape) = subst (λ n. k < n) (length-tuples (whole grid.grid_shape)) h in
    let inside : contains (whole grid.grid_shape) (tuple_at (whole grid.grid_shape) k) ≡ true =
    contains-tuple_at (whole grid.grid_shape) k below in
    ap (is_small_chunk grid) (get_or-tuples (whole grid.grid_shape) k d below)
    ∙ and_from _ _ inside (fit (tuple_at (whole grid.grid_shape) k) inside))

pub ruleset of_chunks = (small_chunks)
