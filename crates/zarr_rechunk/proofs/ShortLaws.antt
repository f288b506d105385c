-- Elements whose lengths can be stored: array bytes without a long one mean such, and such have array bytes without
-- one.
use Rattle.std.proofs.Common.{◌≡◌, ℕ, zero, suc, ◌+◌, ◌-◌, ◌*◌, ◌^◌, ◌<◌, ◌||◌, Bool, true, false, ◌==◌, nat_le, List}
use Rattle.std.proofs.Common.{[], ◌∷◌, length, map, take, drop, Some, refl, ap, ◌∙◌, subst, arith}
use Rattle.std.specs.List.{AllByRecursion}
use Rattle.std.proofs.lemmas.Bool.Decides.{nat_tests}
use Rattle.zarr_model.specs.Element.{Element, of_bytes, null, some, Kind, fixed, variable, optional, blank}
use Rattle.zarr_model.specs.ArrayBytes.{ArrayBytes, fixed_bytes, variable_bytes, optional_bytes, pieces}
use Rattle.zarr_model.specs.ArrayBytes.{between_offsets, are_offsets, masked, mask_over, meaning, bytes_of, held}
use Rattle.zarr_model.specs.ArrayBytes.{ends_from, array_bytes}
use Rattle.zarr_model.specs.Command.{has_long_step, has_long_element}
use Rattle.zarr_model.proofs.BytesLaws.{when_some}
use Rattle.zarrs_codec_slices.proofs.MaskLaws.{masked_parts}

-- an element of a kind is short: one of a fixed size, of which no length is stored, always is
abbrev IsShort : Kind → Element → Type 0
IsShort (fixed n) element = Unit {0}
IsShort variable element = length (bytes_of element) < 2 ^ 32
IsShort (optional kind) (of_bytes value) = Unit {0}
IsShort (optional kind) null = Unit {0}
IsShort (optional kind) (some element) = IsShort kind element

abbrev AreShort : Kind → List Element → Type 0
AreShort kind list = AllByRecursion (IsShort kind) list

-- array bytes of short elements
not_step : (from size : ℕ) → size < 2 ^ 32 → nat_le (from + 2 ^ 32) (from + size) ≡ false
not_step from size h = grind (arith, nat_tests)

blank_short : (kind : Kind) → IsShort kind (blank kind)
blank_short (fixed n) = tt
blank_short variable = omega arith
blank_short (optional kind) = tt

held_short : (kind : Kind) (list : List Element) → AreShort (optional kind) list → AreShort kind (map (held kind) list)
held_short kind [] all = tt
held_short kind (of_bytes value ∷ list) all = (blank_short kind, held_short kind list all.1)
held_short kind (null ∷ list) all = (blank_short kind, held_short kind list all.1)
held_short kind (some element ∷ list) all = (all.0, held_short kind list all.1)

short_steps : (place : ℕ) (list : List Element) → AreShort variable list →
    has_long_step (place ∷ ends_from place (map bytes_of list)) ≡ false
short_steps place [] all = refl
short_steps place (element ∷ list) all =
    ap (λ b. b || has_long_step ((place + length (bytes_of element))
    ∷ ends_from (place + length (bytes_of element)) (map bytes_of list)))
    (not_step place (length (bytes_of element)) all.0)
    ∙ short_steps (place + length (bytes_of element)) list all.1

none_is_long : (kind : Kind) (list : List Element) → AreShort kind list →
    has_long_element (array_bytes kind list) ≡ false
none_is_long (fixed n) list all = refl
none_is_long variable list all = short_steps 0 list all
none_is_long (optional kind) list all = none_is_long kind (map (held kind) list) (held_short kind list all)

-- what array bytes without a long element mean
neither : (a b : Bool) → (a || b) ≡ false → (a ≡ false) × (b ≡ false)
neither false b e = (refl, e)
neither true b e = cc

below_step : (from to : ℕ) → nat_le (from + 2 ^ 32) to ≡ false → to - from < 2 ^ 32
below_step from to e = grind (arith, nat_tests)

take_short : (n limit : ℕ) (xs : List ℕ) → n < limit → length (take n xs) < limit
take_short zero limit xs h = h
take_short (suc n) limit [] h = omega (arith, h)
take_short (suc n) (suc limit) (x ∷ xs) h = let inner : length (take n xs) < limit =
    take_short n limit xs (omega (arith, h)) in omega (arith, inner)
take_short (suc n) zero (x ∷ xs) h = absurd (omega (arith, h))

between_short : (offsets value : List ℕ) → has_long_step offsets ≡ false →
    AreShort variable (map of_bytes (between_offsets offsets value))
between_short [] value e = tt
between_short (from ∷ []) value e = tt
between_short (from ∷ to ∷ offsets) value e =
    let parts = neither (nat_le (from + 2 ^ 32) to) (has_long_step (to ∷ offsets)) e in (
      take_short (to - from) (2 ^ 32) (drop from value) (below_step from to parts.0),
      between_short (to ∷ offsets) value parts.1,
    )

pieces_short : (n : ℕ) (values : List (List ℕ)) → AreShort (fixed n) (map of_bytes values)
pieces_short n [] = tt
pieces_short n (value ∷ values) = (tt, pieces_short n values)

masked_short : (kind : Kind) (b : ℕ) (element : Element) → IsShort kind element →
    IsShort (optional kind) (masked b element)
masked_short kind zero element short = tt
masked_short kind (suc b) element short = short

mask_short : (kind : Kind) (mask : List ℕ) (list : List Element) → AreShort kind list →
    AreShort (optional kind) (mask_over mask list)
mask_short kind [] list all = tt
mask_short kind (b ∷ mask) [] all = tt
mask_short kind (b ∷ mask) (element ∷ list) all = (masked_short kind b element all.0, mask_short kind mask list all.1)

short_is_meant : (kind : Kind) (number : ℕ) (bytes : ArrayBytes) (list : List Element) →
    has_long_element bytes ≡ false → meaning kind number bytes ≡ Some list → AreShort kind list
short_is_meant (fixed n) number (fixed_bytes value) list short e =
    subst (AreShort (fixed n)) (when_some (length value == number * n) (map of_bytes (pieces number n value)) list e).1
    (pieces_short n (pieces number n value))
short_is_meant (fixed n) number (variable_bytes value offsets) list short e = cc
short_is_meant (fixed n) number (optional_bytes under mask) list short e = cc
short_is_meant variable number (fixed_bytes value) list short e = cc
short_is_meant variable number (variable_bytes value offsets) list short e =
    subst (AreShort variable) (when_some (are_offsets number (length value) offsets)
    (map of_bytes (between_offsets offsets value)) list e).1 (between_short offsets value short)
short_is_meant variable number (optional_bytes under mask) list short e = cc
short_is_meant (optional kind) number (fixed_bytes value) list short e = cc
short_is_meant (optional kind) number (variable_bytes value offsets) list short e = cc
short_is_meant (optional kind) number (optional_bytes under mask) list short e =
    let parts = masked_parts kind number mask under list e in
    subst (AreShort (optional kind)) parts.over
    (mask_short kind mask parts.list (short_is_meant kind number under parts.list short parts.inner))

-- array bytes of what others mean have no long element where those have none
pub still_short : (kind : Kind) (number : ℕ) (bytes : ArrayBytes) (list : List Element) → has_long_element bytes ≡
    false → meaning kind number bytes ≡ Some list → has_long_element (array_bytes kind list) ≡ false
still_short kind number bytes list short e = none_is_long kind list (short_is_meant kind number bytes list short e)
