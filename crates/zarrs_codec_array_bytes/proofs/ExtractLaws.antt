-- Array bytes that are valid mean a list, are of its kind and have the lengths of its elements, so elements are taken
-- out of them.
use Rattle.std.proofs.Common.{◌≡◌, ◌⊎◌, ℕ, ◌*◌, Bool, true, false, List, Option, Some, None, is_some, length, ap, ap₂}
use Rattle.std.proofs.Common.{◌∙◌, inl, inr, refl, eq-eqb}
use Rattle.zarr_model.specs.Element.{Element, Kind, fixed, variable, optional, fixed_size}
use Rattle.zarr_model.specs.ArrayBytes.{ArrayBytes, fixed_bytes, variable_bytes, optional_bytes, meaning}
use Rattle.zarr_model.specs.Command.{Refusal, or_then, invalid_mask}
use Rattle.zarr_model.proofs.BytesLaws.{when_some, mask_length, refusal-meaning}
use Rattle.zarr_model.proofs.RefusalLaws.{kept, offsets_long}
use Rattle.zarrs_codec_error.specs.declared.error.CodecError.{CodecError}
use Rattle.zarrs_codec_error.specs.declared.error.CodecError.TheVariants as codec
use Rattle.zarrs_codec_slices.specs.Picking.{size_in}
use Rattle.zarrs_codec_slices.proofs.MaskLaws.{masked_parts}
use Rattle.zarrs_codec_array_bytes.specs.Refusals.{fine, told_by, first_answer, sized_answer, kind_refusal}
use Rattle.zarrs_codec_array_bytes.specs.Refusals.{lengths_refusal, lengths_answer, extract_answer, validity}
use Rattle.zarrs_codec_array_bytes.proofs.CheckLaws.{sized_fine}
use Rattle.zarrs_codec_array_bytes.proofs.ToldLaws.{says_some}

kind_kept : (kind : Kind) (number : ℕ) (raw : ArrayBytes) (xs : List Element) → meaning kind number raw ≡ Some xs →
    kind_refusal kind raw ≡ None
kind_kept (fixed n) number (fixed_bytes value) xs e = refl
kind_kept (fixed n) number (variable_bytes value offsets) xs e = cc
kind_kept (fixed n) number (optional_bytes under mask) xs e = cc
kind_kept variable number (fixed_bytes value) xs e = cc
kind_kept variable number (variable_bytes value offsets) xs e = refl
kind_kept variable number (optional_bytes under mask) xs e = cc
kind_kept (optional kind) number (fixed_bytes value) xs e = cc
kind_kept (optional kind) number (variable_bytes value offsets) xs e = cc
kind_kept (optional kind) number (optional_bytes under mask) xs e =
    let parts = masked_parts kind number mask under xs e in kind_kept kind number under parts.list parts.inner

pub lengths_kept : (kind : Kind) (number : ℕ) (raw : ArrayBytes) (xs : List Element) →
    meaning kind number raw ≡ Some xs → lengths_refusal (size_in (fixed_size kind)) number raw ≡ None
lengths_kept (fixed n) number (fixed_bytes value) xs e = kept _ _ (when_some _ _ _ e).0
lengths_kept (fixed n) number (variable_bytes value offsets) xs e = cc
lengths_kept (fixed n) number (optional_bytes under mask) xs e = cc
lengths_kept variable number (fixed_bytes value) xs e = cc
lengths_kept variable number (variable_bytes value offsets) xs e =
    kept _ _ (offsets_long number (length value) offsets (when_some _ _ _ e).0)
lengths_kept variable number (optional_bytes under mask) xs e = cc
lengths_kept (optional kind) number (fixed_bytes value) xs e = cc
lengths_kept (optional kind) number (variable_bytes value offsets) xs e = cc
lengths_kept (optional kind) number (optional_bytes under mask) xs e =
    let parts = masked_parts kind number mask under xs e in
    ap₂ or_then (kept _ invalid_mask (eq-eqb _ _ (mask_length number mask parts.mask_is)))
    (lengths_kept kind number under parts.list parts.inner)

-- array bytes that are valid mean a list
pub valid_list : (kind : Kind) (number : ℕ) (raw : ArrayBytes) → validity kind number raw ≡ fine →
    (xs : List Element) × (meaning kind number raw ≡ Some xs)
valid_list kind number raw valid =
    go (meaning kind number raw) refl ((refusal-meaning kind number raw).0 (sized_fine _ _ _ valid))
  where
    go : (o : Option (List Element)) → meaning kind number raw ≡ o → is_some (meaning kind number raw) ≡ true →
        (xs : List Element) × (meaning kind number raw ≡ Some xs)
    go (Some xs) is there = (xs, is)
    go None is there = absurd (let no : is_some (meaning kind number raw) ≡ false = ap is_some is in cc)

pub valid_long : (kind : Kind) (number : ℕ) (raw : ArrayBytes) → validity kind number raw ≡ fine →
    lengths_refusal (size_in (fixed_size kind)) number raw ≡ None
valid_long kind number raw valid = let means = valid_list kind number raw valid in
    lengths_kept kind number raw means.0 means.1

pub fine_extract : (kind : Kind) (fits : Bool) (number : ℕ) (raw : ArrayBytes) (xs : List Element) → fits ≡ true →
    meaning kind number raw ≡ Some xs → extract_answer kind fits number raw ≡ fine
fine_extract kind fits number raw xs inside e =
    let size = size_in (fixed_size kind) in
    ap₂ (λ (k : Option Refusal) (f : Bool). first_answer k f (lengths_answer size number raw))
    (kind_kept kind number raw xs e) inside
    ∙ ap (sized_answer _ (number * size)) (lengths_kept kind number raw xs e)

-- why elements are not taken out
pub extract_told : (kind : Kind) (fits : Bool) (number : ℕ) (raw : ArrayBytes) (xs : List Element) (e : CodecError) →
    fits ≡ true → meaning kind number raw ≡ Some xs
    → (e ≡ codec.OutOfMemory) ⊎ (told_by e ≡ extract_answer kind fits number raw) → e ≡ codec.OutOfMemory
extract_told kind fits number raw xs e inside is (inl memory) = memory
extract_told kind fits number raw xs e inside is (inr tells) =
    absurd (says_some e (tells ∙ fine_extract kind fits number raw xs inside is))
