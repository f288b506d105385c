-- When some chunk of a regular grid is too large: all chunks have the same lengths, and the last one ends where all do.
use Rattle.std.proofs.Common.{◌≡◌, ℕ, suc, ◌+◌, ◌-◌, ◌*◌, ◌/◌, ◌^◌, ◌<◌, ◌≤◌, nat_lt, ◌&&◌, true, false, List, [], ◌∷◌}
use Rattle.std.proofs.Common.{length, map, Option, refl, sym, ap, ap₂, ◌∙◌, arith}
use Rattle.std.specs.declared.num.NonZeroU64.{NonZeroU64}
use Rattle.std.proofs.lemmas.Bool.{and_parts, and_from, ltb-true, lt-ltb}
use Rattle.std.proofs.Math.Nat.{suc-mul, mul-le-mul_right}
use Rattle.zarr_model.specs.Region.{Region, count, count_of, starts, sizes, whole, contains, is_in}
use Rattle.zarr_model.specs.Grid.{box_of_axes, regular_axes, regular_grid}
use Rattle.zarr_model.specs.Command.{is_too_large}
use Rattle.zarr_model.proofs.RegionLaws.{span_in}
use Rattle.zarr_model.proofs.GridLaws.{first_index}
use Rattle.zarrs_array_subset.specs.Boxes.{is_box}
use Rattle.zarr_basics.specs.Largest.{AreLargest}
use Rattle.zarr_basics.specs.Lengths.{nonzeros}
use Rattle.zarr_basics.specs.Limits.{is_large_chunk, has_large_chunk}
use Rattle.zarr_basics.specs.LimitTests.{are_some}
use Rattle.zarr_basics.proofs.AxisFacts.{length-nonzeros}
use Rattle.zarr_basics.proofs.LimitLaws.{none_holds, large_box, large_by_count}
use Rattle.zarr_basics.specs.RegularEnds.{chunk_ends_fit}
use Rattle.zarr_basics.proofs.RegularFacts.{sizes_are}

-- the last chunk
abbrev lasts_of : List ℕ → List ℕ
lasts_of counts = map (λ n. n - 1) counts

last_inside : (counts : List ℕ) → are_some counts ≡ true → contains (whole counts) (lasts_of counts) ≡ true
last_inside [] e = refl
last_inside (n ∷ counts) e =
    let parts = and_parts (nat_lt 0 n) (are_some counts) e in
    let some : 0 < n = ltb-true 0 n parts.0 in
    and_from _ _ (span_in (n - 1) (record { start = 0; size = n }) (omega arith) (omega arith))
    (last_inside counts parts.1)

-- numbers of chunks, and boxes
abbrev grid_counts : List ℕ → List ℕ → List ℕ
grid_counts shape lengths = (regular_grid shape lengths).grid_shape

abbrev box_in : List ℕ → List ℕ → List ℕ → Region
box_in shape lengths chunk = box_of_axes (regular_axes shape lengths) chunk

-- the last chunk's box ends where all chunks together do
last_box : (shape lengths : List ℕ) → length shape ≡ length lengths → are_some (grid_counts shape lengths) ≡ true →
    is_box (starts (box_in shape lengths (lasts_of (grid_counts shape lengths)))) (sizes (box_in shape lengths
    (lasts_of (grid_counts shape lengths)))) ≡ chunk_ends_fit (grid_counts shape lengths) lengths
last_box [] [] rank e = refl
last_box [] (p ∷ lengths) rank e = absurd (omega arith)
last_box (n ∷ shape) [] rank e = absurd (omega arith)
last_box (n ∷ shape) (p ∷ lengths) rank e =
    let count = (n + (p - 1)) / p in
    let parts = and_parts (nat_lt 0 count) (are_some (grid_counts shape lengths)) e in
    let some : 0 < count = ltb-true 0 count parts.0 in
    let whole_rows : suc (count - 1) * p ≡ count * p =
    ap (λ m. m * p) (let s : suc (count - 1) ≡ count = omega arith in s) in
    let end : (count - 1) * p + p ≡ count * p = omega (arith, whole_rows, suc-mul (count - 1) p) in
    ap₂ (λ a b. nat_lt a (2 ^ 64) && b) end (last_box shape lengths (omega arith) parts.1)

-- and every chunk's box then ends before
every_box : (shape lengths chunk : List ℕ) → length shape ≡ length lengths → chunk_ends_fit (grid_counts shape lengths)
    lengths ≡ true → contains (whole (grid_counts shape lengths)) chunk ≡ true →
    is_box (starts (box_in shape lengths chunk)) (sizes (box_in shape lengths chunk)) ≡ true
every_box [] [] [] rank e h = refl
every_box [] [] (c ∷ chunk) rank e h = cc
every_box [] (p ∷ lengths) chunk rank e h = absurd (omega arith)
every_box (n ∷ shape) [] chunk rank e h = absurd (omega arith)
every_box (n ∷ shape) (p ∷ lengths) [] rank e h = cc
every_box (n ∷ shape) (p ∷ lengths) (c ∷ chunk) rank e h =
    let count = (n + (p - 1)) / p in
    let fits = and_parts (nat_lt (count * p) (2 ^ 64)) (chunk_ends_fit (grid_counts shape lengths) lengths) e in
    let parts =
    and_parts (is_in c (record { start = 0; size = count })) (contains (whole (grid_counts shape lengths)) chunk) h in
    let below : c < count = first_index c count parts.0 in
    let rows : suc c * p ≤ count * p = mul-le-mul_right p (let one : suc c ≤ count = omega arith in one) in
    let top : count * p < 2 ^ 64 = ltb-true (count * p) (2 ^ 64) fits.0 in
    and_from _ _ (lt-ltb (c * p + p) (2 ^ 64) (omega (arith, rows, suc-mul c p, top)))
    (every_box shape lengths chunk (omega arith) fits.1 parts.1)

-- each chunk has the lengths of the chunk shape
pub are_largest : (shape : List ℕ) (lengths : List NonZeroU64) → length shape ≡ length lengths →
    AreLargest (regular_grid shape (nonzeros lengths)) (nonzeros lengths)
are_largest shape lengths rank = record {
  bound = λ chunk h. let same : count ((regular_grid shape (nonzeros lengths)).chunk_box chunk) ≡
      count_of (nonzeros lengths) = ap count_of (sizes_are shape lengths chunk rank h) in omega (arith, same);
  reached = λ chunk h. (chunk, h, sizes_are shape lengths chunk rank h);
}

module _ (shape : List ℕ) (lengths : List NonZeroU64) (rank : length shape ≡ length lengths) (size : Option ℕ) where
  as_numbers : length shape ≡ length (nonzeros lengths)
  as_numbers = rank ∙ sym (length-nonzeros lengths)

  pub no_chunks : are_some (grid_counts shape (nonzeros lengths)) ≡ false →
      has_large_chunk (regular_grid shape (nonzeros lengths)) size ≡ false
  no_chunks none = none_holds (regular_grid shape (nonzeros lengths))
      (is_large_chunk (regular_grid shape (nonzeros lengths)) size) none

  pub past_end : are_some (grid_counts shape (nonzeros lengths)) ≡ true →
      chunk_ends_fit (grid_counts shape (nonzeros lengths)) (nonzeros lengths) ≡ false →
      has_large_chunk (regular_grid shape (nonzeros lengths)) size ≡ true
  past_end some past = large_box (regular_grid shape (nonzeros lengths)) size
      (lasts_of (grid_counts shape (nonzeros lengths))) (last_inside (grid_counts shape (nonzeros lengths)) some)
      (last_box shape (nonzeros lengths) as_numbers some ∙ past)

  pub all_within : are_some (grid_counts shape (nonzeros lengths)) ≡ true →
      chunk_ends_fit (grid_counts shape (nonzeros lengths)) (nonzeros lengths) ≡ true →
      has_large_chunk (regular_grid shape (nonzeros lengths)) size ≡ is_too_large size (count_of (nonzeros lengths))
  all_within some fits =
      large_by_count (regular_grid shape (nonzeros lengths)) (nonzeros lengths) (are_largest shape lengths rank) size
      (λ chunk h. every_box shape (nonzeros lengths) chunk as_numbers fits h) some
