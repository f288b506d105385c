-- Which chunk of a regular grid holds an index, and where it is.
use Rattle.std.proofs.Common.{◌≡◌, ℕ, suc, ◌+◌, ◌-◌, ◌*◌, ◌/◌, ◌^◌, min, ◌<◌, ◌≤◌, true, List, [], ◌∷◌, length, get_or}
use Rattle.std.proofs.Common.{refl, ap, ap₂, arith}
use Rattle.std.specs.declared.num.NonZeroU64.{NonZeroU64}
use Rattle.std.proofs.lemmas.Bool.{and_parts, and_from}
use Rattle.std.proofs.lemmas.Nat.{le-div}
use Rattle.std.proofs.Math.Nat.{suc-mul, mul-le-mul_right, div-add-mod', mod-lt}
use Rattle.zarr_model.specs.Region.{starts, sizes, whole, contains, is_in}
use Rattle.zarr_model.specs.Grid.{box_of_axes, regular_axes, regular_grid}
use Rattle.zarr_model.proofs.RegionLaws.{span_in, first_is}
use Rattle.zarr_basics.specs.Lengths.{nonzeros}
use Rattle.zarr_basics.specs.RegularGrid.{quotients, products}

row_holds : (i p : ℕ) → 0 < p → (i / p * p ≤ i) × (i < i / p * p + p)
row_holds i p some = (omega (arith, div-add-mod' i p), omega (arith, div-add-mod' i p, mod-lt i some))

below_count : (c p n : ℕ) → 0 < p → c * p < n → c < (n + (p - 1)) / p
below_count c p n some less = let h : suc c ≤ (n + (p - 1)) / p =
    le-div (suc c) (n + (p - 1)) p some (omega (arith, suc-mul c p)) in omega arith

pub quotients_hold : (shape : List ℕ) (lengths : List NonZeroU64) (indices : List ℕ) → length shape ≡ length lengths →
    contains (whole shape) indices ≡ true →
    (contains (whole (regular_grid shape (nonzeros lengths)).grid_shape) (quotients indices lengths) ≡ true)
    × (contains (box_of_axes (regular_axes shape (nonzeros lengths)) (quotients indices lengths)) indices ≡ true)
quotients_hold [] [] [] rank h = (refl, refl)
quotients_hold [] [] (i ∷ indices) rank h = cc
quotients_hold [] (p ∷ lengths) indices rank h = absurd (omega arith)
quotients_hold (n ∷ shape) [] indices rank h = absurd (omega arith)
quotients_hold (n ∷ shape) (p ∷ lengths) [] rank h = cc
quotients_hold (n ∷ shape) (p ∷ lengths) (i ∷ indices) rank h =
    let parts = and_parts (is_in i (record { start = 0; size = n })) (contains (whole shape) indices) h in
    let less : i < n = first_is i n parts.0 in
    let row : (i / p.value * p.value ≤ i) × (i < i / p.value * p.value + p.value) = row_holds i p.value p.ok in
    let counted : i / p.value < (n + (p.value - 1)) / p.value =
    below_count (i / p.value) p.value n p.ok (omega arith) in
    let rest = quotients_hold shape lengths indices (omega arith) parts.1 in (
      and_from _ _ (span_in (i / p.value) (record { start = 0; size = (n + (p.value - 1)) / p.value }) (omega arith)
          (omega arith)) rest.0,
      and_from _ _ (span_in i (record { start = i / p.value * p.value; size = p.value }) row.0 row.1) rest.1,
    )

-- a chunk begins where its indices times the lengths are, which fits 64 bits, and has these lengths
pub origin_is : (shape : List ℕ) (lengths : List NonZeroU64) (chunk : List ℕ) → length shape ≡ length lengths →
    ((k : ℕ) → k < length shape → get_or shape k 0 < 2 ^ 64) →
    contains (whole (regular_grid shape (nonzeros lengths)).grid_shape) chunk ≡ true →
    products chunk lengths ≡ starts (box_of_axes (regular_axes shape (nonzeros lengths)) chunk)
origin_is [] [] [] rank small h = refl
origin_is [] [] (c ∷ chunk) rank small h = cc
origin_is [] (p ∷ lengths) chunk rank small h = absurd (omega arith)
origin_is (n ∷ shape) [] chunk rank small h = absurd (omega arith)
origin_is (n ∷ shape) (p ∷ lengths) [] rank small h = cc
origin_is (n ∷ shape) (p ∷ lengths) (c ∷ chunk) rank small h =
    let parts = and_parts (is_in c (record { start = 0; size = (n + (p.value - 1)) / p.value }))
    (contains (whole (regular_grid shape (nonzeros lengths)).grid_shape) chunk) h in
    let below : c < (n + (p.value - 1)) / p.value = first_is c ((n + (p.value - 1)) / p.value) parts.0 in
    let rows : suc c * p.value ≤ (n + (p.value - 1)) / p.value * p.value =
    mul-le-mul_right p.value (let one : suc c ≤ (n + (p.value - 1)) / p.value = omega arith in one) in
    let end : c * p.value < n =
    omega (arith, rows, suc-mul c p.value, div-add-mod' (n + (p.value - 1)) p.value, p.ok) in
    let first : n < 2 ^ 64 = small 0 (omega arith) in
    let here : min (c * p.value) (2 ^ 64 - 1) ≡ c * p.value = omega arith in
    ap₂ (λ start rest. start ∷ rest) here
    (origin_is shape lengths chunk (omega arith) (λ k less. small (suc k) (omega arith)) parts.1)

pub sizes_are : (shape : List ℕ) (lengths : List NonZeroU64) (chunk : List ℕ) → length shape ≡ length lengths →
    contains (whole (regular_grid shape (nonzeros lengths)).grid_shape) chunk ≡ true →
    sizes (box_of_axes (regular_axes shape (nonzeros lengths)) chunk) ≡ nonzeros lengths
sizes_are [] [] [] rank h = refl
sizes_are [] [] (c ∷ chunk) rank h = cc
sizes_are [] (p ∷ lengths) chunk rank h = absurd (omega arith)
sizes_are (n ∷ shape) [] chunk rank h = absurd (omega arith)
sizes_are (n ∷ shape) (p ∷ lengths) [] rank h = cc
sizes_are (n ∷ shape) (p ∷ lengths) (c ∷ chunk) rank h =
    ap (λ ns. p.value ∷ ns) (sizes_are shape lengths chunk (omega arith) (and_parts _ _ h).1)

pub ruleset of_indices = (quotients_hold)

pub ruleset of_boxes = (origin_is, sizes_are)
