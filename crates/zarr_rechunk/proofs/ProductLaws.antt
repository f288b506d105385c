-- The grids that documents name are products of dimensions.
use Rattle.std.proofs.Common.{◌≡◌, ℕ, List, [], ◌∷◌, length, map, true, refl, arith}
use Rattle.std.specs.List.{AllZip}
use Rattle.std.specs.declared.num.NonZeroU64.{NonZeroU64}
use Rattle.std.proofs.lemmas.Bool.{and_parts}
use Rattle.zarr_model.specs.Grid.{CutsLength, boundary_axis, regular_axes}
use Rattle.zarr_model.specs.Boundaries.{cuts, are_cut}
use Rattle.zarr_model.proofs.GridLaws.{regular_axis-cuts}
use Rattle.zarr_model.proofs.LandingLaws.{cuts_axis}
use Rattle.zarr_basics.specs.Lengths.{nonzeros}
use Rattle.zarr_basics.specs.Axes.{lengths_of}
use Rattle.zarr_basics.specs.BasicGrid.{basic_shape, basic_grid}
use Rattle.zarr_basics.specs.declared.basic_grid.BasicGrid.{BasicGrid}
use Rattle.zarr_basics.specs.declared.basic_grid.BasicGrid.TheVariants.{Regular, Boundary}
use Rattle.zarr_rechunk.proofs.BandLaws.{IsProduct}

regular_cut : (shape : List ℕ) (lengths : List NonZeroU64) → length shape ≡ length lengths →
    AllZip CutsLength shape (regular_axes shape (nonzeros lengths))
regular_cut [] [] rank = tt
regular_cut [] (p ∷ lengths) rank = absurd (omega (arith, rank))
regular_cut (n ∷ shape) [] rank = absurd (omega (arith, rank))
regular_cut (n ∷ shape) (p ∷ lengths) rank =
    (regular_axis-cuts n p.value p.ok, regular_cut shape lengths (omega (arith, rank)))

boundaries_cut : (shape : List ℕ) (lengths : List (List ℕ)) → are_cut shape lengths ≡ true →
    AllZip CutsLength shape (map boundary_axis lengths)
boundaries_cut [] [] cut = tt
boundaries_cut [] (own ∷ lengths) cut = cc
boundaries_cut (n ∷ shape) [] cut = cc
boundaries_cut (n ∷ shape) (own ∷ lengths) cut =
    let parts = and_parts (cuts n own) (are_cut shape lengths) cut in
    (cuts_axis n own parts.0, boundaries_cut shape lengths parts.1)

pub basic_grids_are_products : (grid : BasicGrid) → IsProduct (basic_shape grid) (basic_grid grid)
basic_grids_are_products (Regular grid) = record {
  axes = regular_axes grid.array_shape.items (nonzeros grid.chunk_shape.items);
  cut = regular_cut grid.array_shape.items grid.chunk_shape.items grid.rank;
  is = refl;
}
basic_grids_are_products (Boundary grid) = record {
  axes = map boundary_axis (lengths_of grid.axes.items);
  cut = boundaries_cut grid.array_shape.items (lengths_of grid.axes.items) grid.cut;
  is = refl;
}
