-- Boxes in a whole shape.
use Rattle.std.proofs.Common.{◌≡◌, ℕ, ◌*◌, ◌+◌, ◌≤◌, ◌<◌, ◌^◌, List, []}
use Rattle.std.proofs.Common.{◌∷◌, length, true, ap, ap₂, sym, ◌∙◌, refl, nat_le, ◌&&◌, arith}
use Rattle.std.proofs.lemmas.List.{length-map}
use Rattle.std.proofs.lemmas.Bool.{and_parts, and_from, leb-true, le-leb}
use Rattle.std.proofs.Math.Nat.{mul-le-mul_right, mul-le-mul_left}
use Rattle.zarr_model.specs.Region.{Region, whole, count, count_of, sizes, ends_within}
use Rattle.zarr_model.proofs.RegionLaws.{rank_within, count_within}
use Rattle.zarrs_array_subset.specs.Boxes.{is_within}
use Rattle.zarrs_chunk_grid_iterators.proofs.RunShapes.{run_low}
use Rattle.zarrs_chunk_grid_iterators.specs.Runs.{run_size}

-- its number of elements fits where the shape's bytes do
pub part_fits : (region : Region) (shape : List ℕ) (size len : ℕ) → 0 < size → len < 2 ^ 64 →
    ends_within region shape ≡ true → len ≡ count_of shape * size →
    (count region < 2 ^ 64) × (count region * size < 2 ^ 64)
part_fits region shape size len some fits h e =
    let low : count region ≤ count_of shape = count_within region shape h in
    let a : count region * size ≤ count_of shape * size = mul-le-mul_right size low in
    let b : count region * 1 ≤ count region * size =
    mul-le-mul_left (count region) (let c : 1 ≤ size = omega (arith, some) in c) in
    (omega (arith, a, b, fits, e), omega (arith, a, fits, e))

-- a box in a box of the shape is in the shape
pub within_ends : (region within : Region) (shape : List ℕ) → is_within region within ≡ true →
    ends_within within shape ≡ true → ends_within region shape ≡ true
within_ends [] [] [] a h = h
within_ends [] [] (n ∷ shape) a h = cc
within_ends [] (b ∷ within) shape a h = cc
within_ends (a ∷ region) [] shape e h = cc
within_ends (a ∷ region) (b ∷ within) [] e h = cc
within_ends (a ∷ region) (b ∷ within) (n ∷ shape) e h =
    let parts =
    and_parts (nat_le b.start a.start && nat_le (a.start + a.size) (b.start + b.size)) (is_within region within) e in
    let ends = and_parts (nat_le b.start a.start) (nat_le (a.start + a.size) (b.start + b.size)) parts.0 in
    let outer = and_parts (nat_le (b.start + b.size) n) (ends_within within shape) h in
    let low : a.start + a.size ≤ b.start + b.size = leb-true (a.start + a.size) (b.start + b.size) ends.1 in
    let high : b.start + b.size ≤ n = leb-true (b.start + b.size) n outer.0 in
    and_from (nat_le (a.start + a.size) n) (ends_within region shape)
    (le-leb (a.start + a.size) n (omega (arith, low, high))) (within_ends region within shape parts.1 outer.1)

pub part_rank : (outer region : Region) → ends_within region (sizes outer) ≡ true → length outer ≡ length region
part_rank outer region h = sym (rank_within region (sizes outer) h ∙ length-map outer (λ span. span.size))

-- a box is within a whole shape where it ends within that
pub within_whole : (region : Region) (shape : List ℕ) → is_within region (whole shape) ≡ ends_within region shape
within_whole [] [] = refl
within_whole [] (n ∷ shape) = refl
within_whole (span ∷ region) [] = refl
within_whole (span ∷ region) (n ∷ shape) =
    ap₂ (λ a b. a && b) (from_none (span.start) (span.start + span.size) n) (within_whole region shape)
  where
    from_none : (a b n : ℕ) → (nat_le 0 a && nat_le b (0 + n)) ≡ nat_le b n
    from_none a b n = ap₂ (λ x m. x && nat_le b m) (le-leb 0 a (omega arith)) (let e : 0 + n ≡ n = omega arith in e)

pub part_within : (outer region : Region) → outer ≡ whole (sizes outer) → ends_within region (sizes outer) ≡ true →
    is_within region outer ≡ true
part_within outer region is h = ap (is_within region) is ∙ (within_whole region (sizes outer) ∙ h)

-- a factor fits where the product does
pub factor_fits : (n size len : ℕ) → 0 < size → len < 2 ^ 64 → len ≡ n * size → n < 2 ^ 64
factor_fits n size len some fits e =
    let a : n * 1 ≤ n * size = mul-le-mul_left n (let c : 1 ≤ size = omega (arith, some) in c) in
    omega (arith, a, fits, e)

pub run_fits : (shape : List ℕ) (region : Region) (size len run : ℕ) → len < 2 ^ 64 → len ≡ count region * size →
    run ≡ run_size shape region → run * size < 2 ^ 64
run_fits shape region size len run fits e is =
    let a : run * size ≤ count region * size =
    mul-le-mul_right size (let low : run ≤ count region = omega (arith, is, run_low shape region) in low) in
    omega (arith, a, fits, e)
