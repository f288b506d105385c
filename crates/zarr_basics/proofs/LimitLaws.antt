-- What holds of some chunk of a grid, or of none, and which chunk tells.
use Rattle.std.proofs.Common.{◌≡◌, ℕ, ◌<◌, nat_lt, not, ◌&&◌, ◌||◌, Bool, true, false, List, [], ◌∷◌, map, Option, refl}
use Rattle.std.proofs.Common.{sym, ap, ap₂, ◌∙◌, subst, arith}
use Rattle.std.specs.List.{list_any}
use Rattle.std.proofs.lemmas.Bool.{true≢false, and_parts, and_from, ltb-true, lt-ltb}
use Rattle.std.proofs.lemmas.List.Folds.{list_any_at, list_any_none}
use Rattle.zarr_model.specs.Region.{count, count_of, starts, sizes, whole, contains, is_in, place, tuple_at}
use Rattle.zarr_model.specs.Grid.{Grid, IsChunk, chunks}
use Rattle.zarr_model.specs.Command.{is_too_large}
use Rattle.zarr_model.proofs.RegionLaws.{length-tuples, get_or-tuples, place_below, tuple_at-place, contains-tuple_at}
use Rattle.zarr_model.proofs.RegionLaws.{span_in, first_is}
use Rattle.zarrs_array_subset.specs.Boxes.{is_box}
use Rattle.zarrs_chunk_grid.specs.ChunkGrid.{AllFit}
use Rattle.zarr_basics.specs.Largest.{AreLargest, Grows}
use Rattle.zarr_basics.specs.Limits.{is_large_chunk, has_large_chunk}
use Rattle.zarr_basics.specs.LimitTests.{are_some}
use Rattle.zarr_basics.proofs.SizeLaws.{too_large_grows}

-- what is so of one chunk, or of every one
module _ (grid : Grid) (test : List ℕ → Bool) where
  pub some_chunk : (chunk : List ℕ) → contains (whole grid.grid_shape) chunk ≡ true → test chunk ≡ true →
      list_any test (chunks grid) ≡ true
  some_chunk chunk inside holds =
      let at = place (whole grid.grid_shape) chunk in
      let below : at < count (whole grid.grid_shape) = place_below (whole grid.grid_shape) chunk inside in
      list_any_at test (chunks grid) at [] (subst (λ n. at < n) (sym (length-tuples (whole grid.grid_shape))) below)
      (ap test (get_or-tuples (whole grid.grid_shape) at [] below ∙ tuple_at-place (whole grid.grid_shape) chunk inside)
      ∙ holds)

  pub no_chunk : ((chunk : List ℕ) → contains (whole grid.grid_shape) chunk ≡ true → test chunk ≡ false) →
      list_any test (chunks grid) ≡ false
  no_chunk never = list_any_none test (chunks grid) (λ k d h.
      let below : k < count (whole grid.grid_shape) = subst (λ n. k < n) (length-tuples (whole grid.grid_shape)) h in
      ap test (get_or-tuples (whole grid.grid_shape) k d below)
      ∙ never (tuple_at (whole grid.grid_shape) k) (contains-tuple_at (whole grid.grid_shape) k below))

-- so where none is too large, each is small
pub small_chunk : (grid : Grid) (size : Option ℕ) (chunk : List ℕ) → has_large_chunk grid size ≡ false →
    contains (whole grid.grid_shape) chunk ≡ true →
    (is_box (starts (grid.chunk_box chunk)) (sizes (grid.chunk_box chunk)) ≡ true) ×
    (is_too_large size (count (grid.chunk_box chunk)) ≡ false)
small_chunk grid size chunk none inside = go (is_box (starts (grid.chunk_box chunk)) (sizes (grid.chunk_box chunk)))
    (is_too_large size (count (grid.chunk_box chunk))) refl refl
  where
    large : (b : Bool) → is_large_chunk grid size chunk ≡ true → b ≡ false
    large b e = absurd (true≢false (sym (some_chunk grid (is_large_chunk grid size) chunk inside e) ∙ none))

    go : (fits large : Bool) → is_box (starts (grid.chunk_box chunk)) (sizes (grid.chunk_box chunk)) ≡ fits →
        is_too_large size (count (grid.chunk_box chunk)) ≡ large → (fits ≡ true) × (large ≡ false)
    go true false f l = (refl, refl)
    go true true f l = (refl, large true (ap₂ (λ x y. not x || y) f l))
    go false l f m = absurd (true≢false (sym (some_chunk grid (is_large_chunk grid size) chunk inside
        (ap (λ x. not x || is_too_large size (count (grid.chunk_box chunk))) f)) ∙ none))

pub all_fit : (grid : Grid) (size : Option ℕ) → has_large_chunk grid size ≡ false → AllFit grid
all_fit grid size none chunk inside = (small_chunk grid size chunk none inside).0

-- a grid with a chunk has some in each dimension, and where there are some in each, the first one is a chunk
pub some_in_each : (counts chunk : List ℕ) → contains (whole counts) chunk ≡ true → are_some counts ≡ true
some_in_each [] [] h = refl
some_in_each [] (c ∷ chunk) h = cc
some_in_each (n ∷ counts) [] h = cc
some_in_each (n ∷ counts) (c ∷ chunk) h =
    let parts = and_parts (is_in c (record { start = 0; size = n })) (contains (whole counts) chunk) h in
    let below : c < n = first_is c n parts.0 in
    and_from _ _ (lt-ltb 0 n (omega arith)) (some_in_each counts chunk parts.1)

abbrev pub first_chunk : List ℕ → List ℕ
first_chunk counts = map (λ n. 0) counts

pub first_inside : (counts : List ℕ) → are_some counts ≡ true → contains (whole counts) (first_chunk counts) ≡ true
first_inside [] e = refl
first_inside (n ∷ counts) e =
    let parts = and_parts (nat_lt 0 n) (are_some counts) e in
    let some : 0 < n = ltb-true 0 n parts.0 in
    and_from _ _ (span_in 0 (record { start = 0; size = n }) (omega arith) (omega arith)) (first_inside counts parts.1)

-- so nothing holds of a chunk of a grid without one
pub none_holds : (grid : Grid) (test : List ℕ → Bool) → are_some grid.grid_shape ≡ false →
    list_any test (chunks grid) ≡ false
none_holds grid test none =
    no_chunk grid test (λ chunk h. absurd (true≢false (sym (some_in_each grid.grid_shape chunk h) ∙ none)))

-- a chunk whose box has no room is too large
pub large_box : (grid : Grid) (size : Option ℕ) (chunk : List ℕ) → IsChunk grid chunk →
    is_box (starts (grid.chunk_box chunk)) (sizes (grid.chunk_box chunk)) ≡ false → has_large_chunk grid size ≡ true
large_box grid size chunk is_chunk past = some_chunk grid (is_large_chunk grid size) chunk is_chunk
    (ap (λ b. not b || is_too_large size (count (grid.chunk_box chunk))) past)

-- a largest chunk tells what holds of some chunk, and grows with the number of elements
module _ (grid : Grid) (lengths : List ℕ) (largest : AreLargest grid lengths) where
  pub decided_at : (test : ℕ → Bool) → Grows test → (chunk : List ℕ) → IsChunk grid chunk →
      list_any (λ c. test (count (grid.chunk_box c))) (chunks grid) ≡ test (count_of lengths)
  decided_at test grows chunk h = go (test (count_of lengths)) refl
    where
      go : (b : Bool) → test (count_of lengths) ≡ b → list_any (λ c. test (count (grid.chunk_box c))) (chunks grid) ≡ b
      go true e =
          let (most, is_chunk, are) = largest.reached chunk h in
          some_chunk grid (λ c. test (count (grid.chunk_box c))) most is_chunk (ap (λ ns. test (count_of ns)) are ∙ e)
      go false e = no_chunk grid (λ c. test (count (grid.chunk_box c)))
          (λ other inside. grows (count (grid.chunk_box other)) (count_of lengths) (largest.bound other inside) e)

  pub decided : (test : ℕ → Bool) → Grows test → list_any (λ c. test (count (grid.chunk_box c))) (chunks grid) ≡
      (are_some grid.grid_shape && test (count_of lengths))
  decided test grows = go (are_some grid.grid_shape) refl
    where
      go : (b : Bool) → are_some grid.grid_shape ≡ b → list_any (λ c. test (count (grid.chunk_box c))) (chunks grid) ≡
          (are_some grid.grid_shape && test (count_of lengths))
      go true s = decided_at test grows (first_chunk grid.grid_shape) (first_inside grid.grid_shape s)
          ∙ sym (ap (λ b. b && test (count_of lengths)) s)
      go false s =
          none_holds grid (λ c. test (count (grid.chunk_box c))) s ∙ sym (ap (λ b. b && test (count_of lengths)) s)

  -- where all boxes have room, it tells whether some chunk is too large
  pub large_by_count : (size : Option ℕ) → AllFit grid → are_some grid.grid_shape ≡ true →
      has_large_chunk grid size ≡ is_too_large size (count_of lengths)
  large_by_count size fit some = go (is_too_large size (count_of lengths)) refl
    where
      by_count : (chunk : List ℕ) → IsChunk grid chunk →
          is_large_chunk grid size chunk ≡ is_too_large size (count (grid.chunk_box chunk))
      by_count chunk h = ap (λ b. not b || is_too_large size (count (grid.chunk_box chunk))) (fit chunk h)

      go : (b : Bool) → is_too_large size (count_of lengths) ≡ b → has_large_chunk grid size ≡ b
      go true e =
          let (most, is_chunk, are) =
          largest.reached (first_chunk grid.grid_shape) (first_inside grid.grid_shape some) in
          some_chunk grid (is_large_chunk grid size) most is_chunk
          (by_count most is_chunk ∙ (ap (λ ns. is_too_large size (count_of ns)) are ∙ e))
      go false e = no_chunk grid (is_large_chunk grid size) (λ other inside. by_count other inside
          ∙ too_large_grows size (count (grid.chunk_box other)) (count_of lengths) (largest.bound other inside) e)

  -- and where none is, the lengths are not
  pub largest_is_small : (size : Option ℕ) → are_some grid.grid_shape ≡ true → has_large_chunk grid size ≡ false →
      is_too_large size (count_of lengths) ≡ false
  largest_is_small size some none =
      let (most, is_chunk, are) = largest.reached (first_chunk grid.grid_shape) (first_inside grid.grid_shape some) in
      sym (ap (λ ns. is_too_large size (count_of ns)) are) ∙ (small_chunk grid size most none is_chunk).1
