-- The chunks of a regular grid have its lengths.
use Rattle.std.proofs.Common.{◌≡◌, ℕ, ◌<◌, List, ap, subst}
use Rattle.zarr_model.specs.Prelude.{sizes, count_of, IsChunk}
use Rattle.zarrs_codec_traits.proofs.CountLaws.{lengths_some}
use Rattle.zarr_basics.specs.BasicGrid.{basic_shape, basic_form}
use Rattle.zarr_basics.specs.GridForms.{regular, boundaries, grid_of}
use Rattle.zarr_basics.specs.declared.basic_grid.BasicGrid.{BasicGrid}
use Rattle.zarr_basics.specs.declared.basic_grid.BasicGrid.TheVariants.{Regular, Boundary}
use Rattle.zarr_basics.proofs.RegularFacts.{sizes_are}
use Rattle.zarr_array_open.specs.ShardDocument.{grid_lengths_of}

not_regular : (lengths : List (List ℕ)) (dims : List ℕ) → boundaries lengths ≡ regular dims → ⊥
not_regular lengths dims is = cc

-- a chunk has an element
pub chunk_some : (grid : BasicGrid) (dims : List ℕ) → basic_form grid ≡ regular dims → 0 < count_of dims
chunk_some (Regular grid) dims is =
    subst (λ ns. 0 < count_of ns) (ap grid_lengths_of is) (lengths_some grid.chunk_shape.items)
chunk_some (Boundary grid) dims is = absurd (not_regular _ dims is)

-- and the lengths of the grid
pub chunk_sizes : (grid : BasicGrid) (dims chunk : List ℕ) → basic_form grid ≡ regular dims →
    IsChunk (grid_of (basic_shape grid) (regular dims)) chunk →
    sizes ((grid_of (basic_shape grid) (regular dims)).chunk_box chunk) ≡ dims
chunk_sizes (Regular grid) dims chunk is = subst (λ ns. IsChunk (grid_of grid.array_shape.items (regular ns)) chunk →
    sizes ((grid_of grid.array_shape.items (regular ns)).chunk_box chunk) ≡ ns)
    (ap grid_lengths_of is) (sizes_are grid.array_shape.items grid.chunk_shape.items chunk grid.rank)
chunk_sizes (Boundary grid) dims chunk is = absurd (not_regular _ dims is)
