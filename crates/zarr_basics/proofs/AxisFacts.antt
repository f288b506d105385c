-- Which chunk of a grid of boundaries holds an index, and where it is.
use Rattle.std.proofs.Common.{◌≡◌, ℕ, zero, suc, ◌+◌, ◌^◌, ◌<◌, ◌≤◌, ◌&&◌, true, nat_lt, max, List, [], ◌∷◌, length}
use Rattle.std.proofs.Common.{map, take, sum, slice_index, get_or, refl, sym, ap, ap₂, ◌∙◌, subst, arith}
use Rattle.std.specs.List.{list_all}
use Rattle.std.proofs.lemmas.Bool.{and_parts, and_from}
use Rattle.std.proofs.lemmas.List.{take_all}
use Rattle.std.proofs.lemmas.List.Sums.{sum_by_more}
use Rattle.std.specs.declared.num.NonZeroU64.{NonZeroU64}
use Rattle.zarr_model.specs.Region.{starts, sizes, whole, contains, is_in}
use Rattle.zarr_model.specs.Grid.{boundary_axis, boundary_grid}
use Rattle.zarr_model.proofs.RegionLaws.{span_in, first_is}
use Rattle.zarr_model.specs.Prelude.{cuts, are_cut, chunk_at, IsRising, largest, sums_fit}
use Rattle.zarr_model.proofs.LaidLaws.{AllPositive, starts_rise, starts_get}
use Rattle.zarr_model.proofs.LandingLaws.{finds_chunk, chunk_below}
use Rattle.zarr_model.proofs.AxisLaws.{Finds}
use Rattle.zarr_basics.specs.Lengths.{nonzeros}
use Rattle.zarr_basics.specs.Axes.{axis_lengths, axis_starts, lengths_of, chunks_at, starts_at, lengths_at}
use Rattle.zarr_basics.specs.declared.axis.BoundaryAxis.{BoundaryAxis}

nonzeros_positive : (lengths : List NonZeroU64) → AllPositive (nonzeros lengths)
nonzeros_positive [] k h = absurd (omega arith)
nonzeros_positive (n ∷ lengths) zero h = n.ok
nonzeros_positive (n ∷ lengths) (suc k) h = nonzeros_positive lengths k (omega arith)

pub axis_rises : (axis : BoundaryAxis) → IsRising (axis_starts axis)
axis_rises axis =
    subst IsRising (sym axis.begin) (starts_rise 0 (axis_lengths axis) (nonzeros_positive axis.lengths.items))

pub finds_of : (n : ℕ) (axis : BoundaryAxis) → cuts n (axis_lengths axis) ≡ true →
    Finds n (boundary_axis (axis_lengths axis)) (chunk_at (axis_starts axis))
finds_of n axis cut = subst (λ s. Finds n (boundary_axis (axis_lengths axis)) (chunk_at s)) (sym axis.begin)
    (finds_chunk n (axis_lengths axis) cut)

pub axis_below : (axis : BoundaryAxis) (index : ℕ) → chunk_at (axis_starts axis) index ≤ index
axis_below axis index = subst (λ s. chunk_at s index ≤ index) (sym axis.begin)
    (chunk_below (axis_lengths axis) index (nonzeros_positive axis.lengths.items))

pub length-nonzeros : (lengths : List NonZeroU64) → length (nonzeros lengths) ≡ length lengths
length-nonzeros [] = refl
length-nonzeros (n ∷ lengths) = ap suc (length-nonzeros lengths)

pub counts_are : (axes : List BoundaryAxis) →
    map (λ axis. length axis.lengths.items) axes ≡ (boundary_grid (lengths_of axes)).grid_shape
counts_are [] = refl
counts_are (axis ∷ axes) = ap₂ (λ n ns. n ∷ ns) (sym (length-nonzeros axis.lengths.items)) (counts_are axes)

pub same_rank : (shape : List ℕ) (axes : List BoundaryAxis) → are_cut shape (lengths_of axes) ≡ true →
    length shape ≡ length axes
same_rank [] [] e = refl
same_rank [] (axis ∷ axes) e = cc
same_rank (n ∷ shape) [] e = cc
same_rank (n ∷ shape) (axis ∷ axes) e =
    ap suc (same_rank shape axes (and_parts (cuts n (axis_lengths axis)) (are_cut shape (lengths_of axes)) e).1)

pub chunks_hold : (shape : List ℕ) (axes : List BoundaryAxis) (indices : List ℕ) →
    are_cut shape (lengths_of axes) ≡ true → contains (whole shape) indices ≡ true →
    (contains (whole (boundary_grid (lengths_of axes)).grid_shape) (chunks_at axes indices) ≡ true)
    × (contains ((boundary_grid (lengths_of axes)).chunk_box (chunks_at axes indices)) indices ≡ true)
chunks_hold [] [] [] e h = (refl, refl)
chunks_hold [] [] (i ∷ indices) e h = cc
chunks_hold [] (axis ∷ axes) indices e h = cc
chunks_hold (n ∷ shape) [] indices e h = cc
chunks_hold (n ∷ shape) (axis ∷ axes) [] e h = cc
chunks_hold (n ∷ shape) (axis ∷ axes) (i ∷ indices) e h =
    let cut = and_parts (cuts n (axis_lengths axis)) (are_cut shape (lengths_of axes)) e in
    let parts = and_parts (is_in i (record { start = 0; size = n })) (contains (whole shape) indices) h in
    let at = (finds_of n axis cut.0).found i (first_is i n parts.0) in
    let rest = chunks_hold shape axes indices cut.1 parts.1 in (
      and_from _ _ (span_in (chunk_at (axis_starts axis) i) (record { start = 0; size = length (axis_lengths axis) })
          (omega arith) (omega (arith, at.0))) rest.0,
      and_from _ _ (span_in i (record {
        start = sum (take (chunk_at (axis_starts axis) i) (axis_lengths axis));
        size = slice_index (axis_lengths axis) (chunk_at (axis_starts axis) i);
      }) at.1 at.2) rest.1,
    )

-- where a chunk of the grid begins, and its lengths
pub starts_are : (axes : List BoundaryAxis) (chunk : List ℕ) →
    contains (whole (boundary_grid (lengths_of axes)).grid_shape) chunk ≡ true →
    starts_at axes chunk ≡ starts ((boundary_grid (lengths_of axes)).chunk_box chunk)
starts_are [] [] h = refl
starts_are [] (c ∷ chunk) h = cc
starts_are (axis ∷ axes) [] h = cc
starts_are (axis ∷ axes) (c ∷ chunk) h =
    let parts = and_parts (is_in c (record { start = 0; size = length (axis_lengths axis) }))
    (contains (whole (boundary_grid (lengths_of axes)).grid_shape) chunk) h in
    let begin : get_or (axis_starts axis) c 0 ≡ 0 + sum (take c (axis_lengths axis)) = ap (λ s. get_or s c 0) axis.begin
    ∙ starts_get 0 (axis_lengths axis) c (first_is c (length (axis_lengths axis)) parts.0) in
    let same : get_or (axis_starts axis) c 0 ≡ sum (take c (axis_lengths axis)) = omega (arith, begin) in
    ap₂ (λ n ns. n ∷ ns) same (starts_are axes chunk parts.1)

length_is : (lengths : List ℕ) (c : ℕ) → c < length lengths → get_or lengths c 1 ≡ slice_index lengths c
length_is [] c h = absurd (omega arith)
length_is (n ∷ lengths) zero h = refl
length_is (n ∷ lengths) (suc c) h = length_is lengths c (omega arith)

pub lengths_are : (axes : List BoundaryAxis) (chunk : List ℕ) →
    contains (whole (boundary_grid (lengths_of axes)).grid_shape) chunk ≡ true →
    lengths_at axes chunk ≡ sizes ((boundary_grid (lengths_of axes)).chunk_box chunk)
lengths_are [] [] h = refl
lengths_are [] (c ∷ chunk) h = cc
lengths_are (axis ∷ axes) [] h = cc
lengths_are (axis ∷ axes) (c ∷ chunk) h =
    let parts = and_parts (is_in c (record { start = 0; size = length (axis_lengths axis) }))
    (contains (whole (boundary_grid (lengths_of axes)).grid_shape) chunk) h in
    ap₂ (λ n ns. n ∷ ns) (length_is (axis_lengths axis) c (first_is c (length (axis_lengths axis)) parts.0))
    (lengths_are axes chunk parts.1)

-- the largest of the lengths so far
largest_more : (lengths : List NonZeroU64) (k : ℕ) (own : NonZeroU64) → k < length lengths →
    own ≡ get_or lengths k own →
    largest (nonzeros (take (k + 1) lengths)) ≡ max (largest (nonzeros (take k lengths))) own.value
largest_more [] k own h is = absurd (omega arith)
largest_more (n ∷ lengths) zero own h is = let same : n.value ≡ own.value = ap (λ m. m.value) (sym is) in
    omega (arith, same)
largest_more (n ∷ lengths) (suc k) own h is =
    let rest : largest (nonzeros (take (k + 1) lengths)) ≡ max (largest (nonzeros (take k lengths))) own.value =
    largest_more lengths k own (omega arith) is in
    ap (λ m. largest (nonzeros (take m (n ∷ lengths)))) (let e : suc k + 1 ≡ suc (k + 1) = omega arith in e)
    ∙ (let e : max n.value (largest (nonzeros (take (k + 1) lengths))) ≡
    max (max n.value (largest (nonzeros (take k lengths)))) own.value = omega (arith, rest) in e)

module _ (lengths : List NonZeroU64) (k most : ℕ) (own : NonZeroU64) (below : k < length lengths)
    (is : own ≡ get_or lengths k own) (before : most ≡ largest (nonzeros (take k lengths))) where
  pub one_larger : most < own.value → own.value ≡ largest (nonzeros (take (k + 1) lengths))
  one_larger h = omega (arith, largest_more lengths k own below is, before, h)

  pub none_larger : own.value ≤ most → most ≡ largest (nonzeros (take (k + 1) lengths))
  none_larger h = omega (arith, largest_more lengths k own below is, before, h)

pub ruleset of_largest = (one_larger, none_larger)

-- the last chunk ends where all lengths together do
last_end : (lengths : List ℕ) (last : ℕ) → suc last ≡ length lengths →
    sum (take last lengths) + slice_index lengths last ≡ sum lengths
last_end lengths last e =
    let below : last < length lengths = omega arith in
    omega (
      arith,
      sum_by_more (λ n. n) lengths last 0 below,
      ap sum (take_all (last + 1) lengths (let all : length lengths ≤ last + 1 = omega arith in all)),
    )

pub axis_end : (axis : BoundaryAxis) (last : ℕ) → suc last ≡ length (axis_lengths axis) →
    get_or (axis_starts axis) last 0 + get_or (axis_lengths axis) last 1 ≡ sum (axis_lengths axis)
axis_end axis last e =
    let below : last < length (axis_lengths axis) = omega arith in
    omega (
      arith,
      ap (λ s. get_or s last 0) axis.begin,
      starts_get 0 (axis_lengths axis) last below,
      length_is (axis_lengths axis) last below,
      last_end (axis_lengths axis) last e,
    )

pub all_fit : (axes : List BoundaryAxis) →
    list_all (λ axis. nat_lt (sum (axis_lengths axis)) (2 ^ 64)) axes ≡ sums_fit (lengths_of axes)
all_fit [] = refl
all_fit (axis ∷ axes) = ap (λ b. nat_lt (sum (axis_lengths axis)) (2 ^ 64) && b) (all_fit axes)

pub ruleset of_indices = (chunks_hold)

pub ruleset of_boxes = (starts_are, lengths_are)
