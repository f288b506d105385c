-- A shape that is cut into equal parts.
use Rattle.std.proofs.Common.{◌≡◌, ℕ, suc, ◌+◌, ◌-◌, ◌*◌, ◌/◌, ◌%◌, ◌<◌, ◌≤◌, true, ◌==◌, ◌&&◌, nat_le, List, []}
use Rattle.std.proofs.Common.{◌∷◌, refl, arith, eqb-true}
use Rattle.std.proofs.lemmas.Bool.{and_parts, and_from, le-leb, leb-true}
use Rattle.std.proofs.lemmas.Nat.{le-div}
use Rattle.std.proofs.Math.Nat.{mul-le-mul_right, div-add-mod', suc-mul, lt_of_mul-lt-mul_right, mul-pos}
use Rattle.zarrs_array_subset.proofs.Ravels.{factors}
use Rattle.zarrs_codec_traits.specs.Prelude.{whole, contains, ends_within, regular_grid, count_of, is_in}
use Rattle.zarr_model.specs.Grid.{box_of_axes, regular_axes}
use Rattle.zarr_model.proofs.RegionLaws.{first_is}
use Rattle.zarr_array_open.specs.Sharding.{are_inner_lengths}

-- a part of a length that is cut into equal ones ends within it
part_within : (c n p : ℕ) → 0 < p → n % p ≡ 0 → c < (n + (p - 1)) / p → c * p + p ≤ n
part_within c n p some even below =
    let q = n / p in
    let k = (n + (p - 1)) / p in
    let whole : q * p ≡ n = omega (arith, div-add-mod' n p, even) in
    let top : k * p ≤ n + (p - 1) = omega (arith, div-add-mod' (n + (p - 1)) p) in
    let up : suc c * p ≤ k * p = mul-le-mul_right p (let h : suc c ≤ k = omega (arith, below) in h) in
    let less : c * p < q * p = omega (arith, whole, top, up, suc-mul c p, some) in
    let before : suc c ≤ q = lt_of_mul-lt-mul_right p less in
    let under : suc c * p ≤ q * p = mul-le-mul_right p before in
    omega (arith, whole, under, suc-mul c p)

-- so each part of a shape does
pub cut_within : (shape dims chunk : List ℕ) → are_inner_lengths shape dims ≡ true → contains (whole (regular_grid shape
    dims).grid_shape) chunk ≡ true → ends_within (box_of_axes (regular_axes shape dims) chunk) shape ≡ true
cut_within [] [] [] cut h = refl
cut_within [] [] (c ∷ chunk) cut h = cc
cut_within [] (p ∷ dims) chunk cut h = cc
cut_within (n ∷ shape) [] chunk cut h = cc
cut_within (n ∷ shape) (p ∷ dims) [] cut h = cc
cut_within (n ∷ shape) (p ∷ dims) (c ∷ chunk) cut h =
    let cuts = and_parts (nat_le 1 p && (n % p == 0)) (are_inner_lengths shape dims) cut in
    let own = and_parts (nat_le 1 p) (n % p == 0) cuts.0 in
    let parts = and_parts (is_in c (record { start = 0; size = (n + (p - 1)) / p }))
    (contains (whole (regular_grid shape dims).grid_shape) chunk) h in
    let some : 0 < p = (let least : 1 ≤ p = leb-true 1 p own.0 in omega (arith, least)) in
    and_from _ _ (le-leb (c * p + p) n (part_within c n p some (eqb-true (n % p) 0 own.1)
    (first_is c ((n + (p - 1)) / p) parts.0))) (cut_within shape dims chunk cuts.1 parts.1)

-- a shape with an element has a part
pub cut_some : (shape dims : List ℕ) → are_inner_lengths shape dims ≡ true → 0 < count_of shape →
    0 < count_of (regular_grid shape dims).grid_shape
cut_some [] [] cut some = omega arith
cut_some [] (p ∷ dims) cut some = cc
cut_some (n ∷ shape) [] cut some = cc
cut_some (n ∷ shape) (p ∷ dims) cut some =
    let cuts = and_parts (nat_le 1 p && (n % p == 0)) (are_inner_lengths shape dims) cut in
    let own = and_parts (nat_le 1 p) (n % p == 0) cuts.0 in
    let least : 1 ≤ p = leb-true 1 p own.0 in
    let both = factors n (count_of shape) some in
    let one : 1 ≤ (n + (p - 1)) / p =
    le-div 1 (n + (p - 1)) p (omega (arith, least)) (let more : 0 < n = both.0 in omega (arith, more)) in
    mul-pos (omega (arith, one)) (cut_some shape dims cuts.1 both.1)
