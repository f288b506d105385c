-- Lengths that are not refused.
use Rattle.std.proofs.Common.{◌≡◌, ℕ, ◌+◌, ◌*◌, ◌==◌, true, false, List, length, get_or, ◌<◌, Option, Some}
use Rattle.std.proofs.Common.{None, arith, refl, eqb-true}
use Rattle.zarr_model.specs.Command.{Refusal, incompatible_dimensionality, subset_out_of_bounds, region_too_large}
use Rattle.zarr_model.specs.Command.{expected_fixed_length_bytes, expected_variable_length_bytes}
use Rattle.zarr_model.specs.Command.{expected_optional_bytes, invalid_mask, unexpected_chunk_decoded_size}
use Rattle.zarr_model.specs.Command.{invalid_variable_sized_array_offsets, element_too_long, or_then, has_long_element}
use Rattle.zarr_model.specs.Command.{bytes_refusal}
use Rattle.zarr_model.specs.ArrayBytes.{ArrayBytes, fixed_bytes, variable_bytes, optional_bytes}
use Rattle.zarr_model.proofs.RefusalLaws.{not_refused}
use Rattle.zarr_model.specs.Element.{fixed}
use Rattle.zarrs_codec_array_bytes.specs.Refusals.{lengths_refusal, fine, sized_answer}
use Rattle.zarrs_codec_array_bytes.specs.Levels.{is_fixed}
use Rattle.zarrs_codec_slices.specs.Picking.{AllBelow, gathered}
use Rattle.zarrs_codec_slices.proofs.ShortLaws.{gathered_short}

-- where two steps refuse nothing, neither does
pub first_none : (a b : Option Refusal) → or_then a b ≡ None → (a ≡ None) × (b ≡ None)
first_none None b e = (refl, e)
first_none (Some why) b e = cc

pub fixed_long : (size number : ℕ) (value : List ℕ) → lengths_refusal size number (fixed_bytes value) ≡ None →
    length value ≡ number * size
fixed_long size number value e = eqb-true _ _ (not_refused (length value == number * size) _ e)

pub variable_long : (size number : ℕ) (value offsets : List ℕ) →
    lengths_refusal size number (variable_bytes value offsets) ≡ None → length offsets ≡ number + 1
variable_long size number value offsets e = eqb-true _ _ (not_refused (length offsets == number + 1) _ e)

pub mask_long : (size number : ℕ) (under : ArrayBytes) (mask : List ℕ) →
    lengths_refusal size number (optional_bytes under mask) ≡ None → length mask ≡ number * 1
mask_long size number under mask e =
    let same : length mask ≡ number = eqb-true _ _ (not_refused (length mask == number) _ (first_none _ _ e).0) in
    omega (arith, same)

pub inner_long : (size number : ℕ) (under : ArrayBytes) (mask : List ℕ) →
    lengths_refusal size number (optional_bytes under mask) ≡ None → lengths_refusal size number under ≡ None
inner_long size number under mask e = (first_none _ _ e).1

-- indices below a count are below twice the count
pub below_twice : (number : ℕ) (indices : List ℕ) → AllBelow number indices → AllBelow (number + number) indices
below_twice number indices all = λ k h. let low : get_or indices k 0 < number = all k h in omega (arith, low)

-- no element is too long where elements are picked out of bytes without such a one
pub still_short : (size number m : ℕ) (picks : List ℕ) (old new : ArrayBytes) → lengths_refusal size number old ≡ None →
    lengths_refusal size m new ≡ None →
    has_long_element old ≡ false → has_long_element new ≡ false → AllBelow (number + m) picks →
    has_long_element (gathered size number picks old new) ≡ false
still_short size number m picks (fixed_bytes old) (fixed_bytes new) e f a b all = refl
still_short size number m picks (fixed_bytes old) (variable_bytes new to) e f a b all = a
still_short size number m picks (fixed_bytes old) (optional_bytes new over) e f a b all = a
still_short size number m picks (variable_bytes old from) (fixed_bytes new) e f a b all = a
still_short size number m picks (variable_bytes old from) (variable_bytes new to) e f a b all =
    gathered_short number m old from new to picks (variable_long size number old from e) (variable_long size m new to f)
    a b all
still_short size number m picks (variable_bytes old from) (optional_bytes new over) e f a b all = a
still_short size number m picks (optional_bytes old mask) (fixed_bytes new) e f a b all = a
still_short size number m picks (optional_bytes old mask) (variable_bytes new to) e f a b all = a
still_short size number m picks (optional_bytes old mask) (optional_bytes new over) e f a b all =
    still_short size number m picks old new (inner_long size number old mask e) (inner_long size m new over f) a b all

-- what is fine of lengths
pub sized_fine : (len expected : ℕ) (o : Option Refusal) → sized_answer len expected o ≡ fine → o ≡ None
sized_fine len expected None e = refl
sized_fine len expected (Some unexpected_chunk_decoded_size) e = cc
sized_fine len expected (Some incompatible_dimensionality) e = cc
sized_fine len expected (Some subset_out_of_bounds) e = cc
sized_fine len expected (Some region_too_large) e = cc
sized_fine len expected (Some expected_fixed_length_bytes) e = cc
sized_fine len expected (Some expected_variable_length_bytes) e = cc
sized_fine len expected (Some expected_optional_bytes) e = cc
sized_fine len expected (Some invalid_mask) e = cc
sized_fine len expected (Some invalid_variable_sized_array_offsets) e = cc
sized_fine len expected (Some element_too_long) e = cc

-- array bytes of a fixed kind that are valid
pub fixed_kind : (n number : ℕ) (raw : ArrayBytes) → bytes_refusal (fixed n) number raw ≡ None → is_fixed raw ≡ true
fixed_kind n number (fixed_bytes value) valid = refl
fixed_kind n number (variable_bytes value offsets) valid = cc
fixed_kind n number (optional_bytes under mask) valid = cc
