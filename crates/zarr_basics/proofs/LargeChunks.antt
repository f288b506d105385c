-- Which chunk of a grid of boundaries is the largest, and when some chunk is too large.
use Rattle.std.proofs.Common.{◌≡◌, ℕ, ◌+◌, ◌^◌, ◌<◌, ◌≤◌, ◌&&◌, max, true, false, nat_lt, List, [], ◌∷◌, length, map}
use Rattle.std.proofs.Common.{sum, Option, refl, sym, ap, ap₂, ◌∙◌, subst, arith}
use Rattle.std.specs.declared.num.NonZeroU64.{NonZeroU64}
use Rattle.std.proofs.lemmas.Bool.{and_parts}
use Rattle.zarr_model.specs.Prelude.{Region, count, count_of, starts, sizes, whole, contains, is_in, boundary_grid}
use Rattle.zarr_model.specs.Prelude.{IsChunk, is_too_large, largest, largest_lengths, sums_fit}
use Rattle.zarr_model.proofs.RegionLaws.{first_is}
use Rattle.zarr_model.proofs.LargestLaws.{no_more_elements, largest_chunk, ends_of, all_below, each_end_fits}
use Rattle.zarr_model.proofs.LargestLaws.{last_chunk}
use Rattle.zarrs_array_subset.specs.Boxes.{is_box}
use Rattle.zarrs_chunk_grid.specs.ChunkGrid.{AllFit}
use Rattle.zarr_basics.specs.Axes.{axis_lengths, lengths_of, largest_of}
use Rattle.zarr_basics.specs.Largest.{AreLargest}
use Rattle.zarr_basics.specs.Lengths.{nonzeros}
use Rattle.zarr_basics.specs.Limits.{is_large_chunk, has_large_chunk}
use Rattle.zarr_basics.specs.LimitTests.{are_some}
use Rattle.zarr_basics.specs.declared.axis.BoundaryAxis.{BoundaryAxis}
use Rattle.zarr_basics.proofs.LimitLaws.{none_holds, large_box, large_by_count, first_chunk, first_inside}

-- where there are lengths, the largest is no 0
largest_some : (lengths : List NonZeroU64) → 0 < length (nonzeros lengths) →
    max 1 (largest (nonzeros lengths)) ≡ largest (nonzeros lengths)
largest_some [] h = absurd (omega arith)
largest_some (n ∷ lengths) h = omega (arith, n.ok)

same_largest : (axes : List BoundaryAxis) (chunk : List ℕ) → IsChunk (boundary_grid (lengths_of axes)) chunk →
    largest_of axes ≡ largest_lengths (lengths_of axes)
same_largest [] chunk h = refl
same_largest (axis ∷ axes) [] h = cc
same_largest (axis ∷ axes) (c ∷ chunk) h =
    let parts = and_parts (is_in c (record { start = 0; size = length (axis_lengths axis) }))
    (contains (whole (boundary_grid (lengths_of axes)).grid_shape) chunk) h in
    let below : c < length (axis_lengths axis) = first_is c (length (axis_lengths axis)) parts.0 in
    ap₂ (λ n ns. n ∷ ns) (largest_some axis.lengths.items (omega arith)) (same_largest axes chunk parts.1)

pub are_largest : (axes : List BoundaryAxis) → AreLargest (boundary_grid (lengths_of axes)) (largest_of axes)
are_largest axes = record {
  bound = λ chunk h. subst (λ ns. count ((boundary_grid (lengths_of axes)).chunk_box chunk) ≤ count_of ns)
      (sym (same_largest axes chunk h)) (no_more_elements (lengths_of axes) chunk h);
  reached = λ chunk h.
      let (most, is_chunk, are) = largest_chunk (lengths_of axes) chunk h in
      (most, is_chunk, are ∙ sym (same_largest axes chunk h));
}

-- boxes by their ends
box_by_ends : (box : Region) → is_box (starts box) (sizes box) ≡ all_below (ends_of box)
box_by_ends [] = refl
box_by_ends (span ∷ box) = ap (λ b. nat_lt (span.start + span.size) (2 ^ 64) && b) (box_by_ends box)

sums_below : (lengths : List (List ℕ)) → all_below (map sum lengths) ≡ sums_fit lengths
sums_below [] = refl
sums_below (own ∷ lengths) = ap (λ b. nat_lt (sum own) (2 ^ 64) && b) (sums_below lengths)

each_box : (lengths : List (List ℕ)) → sums_fit lengths ≡ true → AllFit (boundary_grid lengths)
each_box lengths fit chunk h = box_by_ends ((boundary_grid lengths).chunk_box chunk) ∙ each_end_fits lengths chunk fit h

module _ (axes : List BoundaryAxis) (size : Option ℕ) where
  pub no_chunks : are_some (boundary_grid (lengths_of axes)).grid_shape ≡ false →
      has_large_chunk (boundary_grid (lengths_of axes)) size ≡ false
  no_chunks none =
      none_holds (boundary_grid (lengths_of axes)) (is_large_chunk (boundary_grid (lengths_of axes)) size) none

  pub past_end : are_some (boundary_grid (lengths_of axes)).grid_shape ≡ true → sums_fit (lengths_of axes) ≡ false →
      has_large_chunk (boundary_grid (lengths_of axes)) size ≡ true
  past_end some past =
      let grid = boundary_grid (lengths_of axes) in
      let (last, is_chunk, are) =
      last_chunk (lengths_of axes) (first_chunk grid.grid_shape) (first_inside grid.grid_shape some) in
      large_box (boundary_grid (lengths_of axes)) size last is_chunk
      (box_by_ends ((boundary_grid (lengths_of axes)).chunk_box last)
      ∙ (ap all_below are ∙ (sums_below (lengths_of axes) ∙ past)))

  pub all_within : are_some (boundary_grid (lengths_of axes)).grid_shape ≡ true → sums_fit (lengths_of axes) ≡ true →
      has_large_chunk (boundary_grid (lengths_of axes)) size ≡ is_too_large size (count_of (largest_of axes))
  all_within some fit = large_by_count (boundary_grid (lengths_of axes)) (largest_of axes) (are_largest axes) size
      (each_box (lengths_of axes) fit) some
