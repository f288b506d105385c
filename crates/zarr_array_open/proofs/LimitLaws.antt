-- When the lengths of some chunk can't be stored: a largest one tells.
use Rattle.std.proofs.Common.{◌≡◌, ℕ, ◌+◌, ◌^◌, ◌<◌, ◌≤◌, nat_le, ◌||◌, ◌&&◌, Bool, true, false, List, length, None}
use Rattle.std.proofs.Common.{refl, sym, ap, ◌∙◌, arith}
use Rattle.std.proofs.lemmas.Bool.{true≢false, le-leb, leb-true, or_parts}
use Rattle.zarr_model.specs.Prelude.{count_of, Grid, IsChunk, is_too_large}
use Rattle.zarr_basics.specs.BasicGrid.{basic_grid}
use Rattle.zarr_basics.specs.Limits.{has_large_chunk}
use Rattle.zarr_basics.specs.declared.basic_grid.BasicGrid.{BasicGrid}
use Rattle.zarr_basics.specs.Largest.{AreLargest, Grows}
use Rattle.zarr_basics.proofs.LimitLaws.{decided, largest_is_small}
use Rattle.zarr_basics.proofs.LimitLaws as limits
use Rattle.zarr_array_open.specs.Sizes.{have_chunks, is_long_chunk, has_long_chunk}

-- a test that a number does not pass
pub not_above : (limit n : ℕ) → nat_le limit n ≡ false → n < limit
not_above limit n h = below_or_above
  where
    no : limit ≤ n → ⊥
    no above = let both : true ≡ false = sym (le-leb limit n above) ∙ h in cc

    below_or_above : n < limit
    below_or_above = omega (arith, no)

few_of : (n : ℕ) → is_too_large None n ≡ false → n < 2 ^ 64
few_of n h = let few = not_above (2 ^ 64) (n + 1) h in omega (arith, few)

-- the test of a number of elements, with a fill value
abbrev is_long : List ℕ → ℕ → Bool
is_long filler n = nat_le (2 ^ 32) n || nat_le (2 ^ 32) (length filler)

long_grows : (filler : List ℕ) → Grows (is_long filler)
long_grows filler n m less none = go (nat_le (2 ^ 32) n) refl
  where
    parts : (nat_le (2 ^ 32) m ≡ false) × (nat_le (2 ^ 32) (length filler) ≡ false)
    parts = or_parts (nat_le (2 ^ 32) m) (nat_le (2 ^ 32) (length filler)) none

    go : (b : Bool) → nat_le (2 ^ 32) n ≡ b → is_long filler n ≡ false
    go false e = ap (λ t. t || nat_le (2 ^ 32) (length filler)) e ∙ parts.1
    go true e =
        let below : m < 2 ^ 32 = not_above (2 ^ 32) m parts.0 in
        let above : 2 ^ 32 ≤ n = leb-true (2 ^ 32) n e in
        absurd (omega (arith, below, above, less))

-- a largest chunk tells, where there is one
pub long_is : (grid : Grid) (filler lengths : List ℕ) → AreLargest grid lengths →
    has_long_chunk grid filler ≡ (have_chunks grid.grid_shape && is_long filler (count_of lengths))
long_is grid filler lengths largest = decided grid lengths largest (is_long filler) (long_grows filler)

-- where none is, a chunk is not
pub short_chunk : (grid : Grid) (filler chunk : List ℕ) → has_long_chunk grid filler ≡ false → IsChunk grid chunk →
    is_long_chunk grid filler chunk ≡ false
short_chunk grid filler chunk none is_chunk = go (is_long_chunk grid filler chunk) refl
  where
    go : (b : Bool) → is_long_chunk grid filler chunk ≡ b → is_long_chunk grid filler chunk ≡ false
    go false e = e
    go true e = absurd (true≢false (sym (limits.some_chunk grid (is_long_chunk grid filler) chunk is_chunk e) ∙ none))

-- what the tests of the code say
module _ (grid : BasicGrid) (filler lengths : List ℕ) (largest : AreLargest (basic_grid grid) lengths)
    (b : Bool) (is : b ≡ have_chunks (basic_grid grid).grid_shape) where
  by_tests : has_long_chunk (basic_grid grid) filler ≡ (b && is_long filler (count_of lengths))
  by_tests =
      long_is (basic_grid grid) filler lengths largest ∙ ap (λ some. some && is_long filler (count_of lengths)) (sym is)

  pub count_of_some : b ≡ true → has_large_chunk (basic_grid grid) None ≡ false → count_of lengths < 2 ^ 64
  count_of_some some none =
      few_of (count_of lengths) (largest_is_small (basic_grid grid) lengths largest None (sym is ∙ some) none)

  pub long_by_count : (number : ℕ) → number ≡ count_of lengths → b ≡ true → nat_le (2 ^ 32) number ≡ true →
      nat_le (2 ^ 32) number ≡ has_long_chunk (basic_grid grid) filler
  long_by_count number counts some e =
      e ∙ sym (by_tests ∙ (ap (λ some. some && is_long filler (count_of lengths)) some
      ∙ (ap (is_long filler) (sym counts) ∙ ap (λ t. t || nat_le (2 ^ 32) (length filler)) e)))

  pub long_by_fill : (number : ℕ) → number ≡ count_of lengths → b ≡ true → nat_le (2 ^ 32) number ≡ false →
      nat_le (2 ^ 32) (length filler) ≡ has_long_chunk (basic_grid grid) filler
  long_by_fill number counts some e =
      sym (by_tests ∙ (ap (λ some. some && is_long filler (count_of lengths)) some
      ∙ (ap (is_long filler) (sym counts) ∙ ap (λ t. t || nat_le (2 ^ 32) (length filler)) e)))

-- where there is no chunk, none is long
pub long_of_none : (grid : BasicGrid) (filler : List ℕ) (b : Bool) → b ≡ have_chunks (basic_grid grid).grid_shape →
    b ≡ false → false ≡ has_long_chunk (basic_grid grid) filler
long_of_none grid filler b is none =
    sym (limits.none_holds (basic_grid grid) (is_long_chunk (basic_grid grid) filler) (sym is ∙ none))
