-- What array bytes that mean a list are: of one kind, as long as the list, and sound.
use Rattle.std.proofs.Common.{◌≡◌, ℕ, ◌<◌, ◌==◌, ◌&&◌, Bool, true, false, if◌then◌else◌, nat_lt, List, []}
use Rattle.std.proofs.Common.{◌∷◌, length, Option, Some, None, IsSome, option_map, unwrap_or, arith, refl}
use Rattle.std.proofs.lemmas.Bool.{and_parts, and_from, lt-ltb}
use Rattle.zarr_model.specs.Element.{Element, Kind, fixed, variable, optional, fixed_size}
use Rattle.zarr_model.specs.ArrayBytes.{ArrayBytes, fixed_bytes, variable_bytes, optional_bytes, offsets_rise_to}
use Rattle.zarr_model.specs.ArrayBytes.{are_offsets, is_mask, mask_over, meaning}
use Rattle.zarr_model.specs.Command.{has_long_element}
use Rattle.zarr_model.proofs.BytesLaws.{when_some}
use Rattle.zarrs_codec_slices.specs.Picking.{size_in, stay_within}
use Rattle.zarrs_codec_slices.proofs.ValueLaws.{rising_within}
use Rattle.zarrs_codec_slices.proofs.MaskLaws.{masked_parts}
use Rattle.zarrs_codec_array_bytes.specs.Refusals.{holds_fixed}
use Rattle.zarrs_codec_array_bytes_parts.specs.Pairs.{are_alike}
use Rattle.zarrs_codec_array_bytes_parts.specs.OwnedArrayBytes.{are_sound}

-- the list that is meant
pub some_list : {A : Type 0} (o : Option (List A)) → IsSome o → o ≡ Some (unwrap_or o [])
some_list None h = cc
some_list (Some list) h = refl

pub alike_means : (kind : Kind) (n m : ℕ) (first second : ArrayBytes) (xs ys : List Element) →
    meaning kind n first ≡ Some xs → meaning kind m second ≡ Some ys → are_alike first second ≡ true
alike_means (fixed size) n m (fixed_bytes value) (fixed_bytes more) xs ys e f = refl
alike_means (fixed size) n m (fixed_bytes value) (variable_bytes more to) xs ys e f = cc
alike_means (fixed size) n m (fixed_bytes value) (optional_bytes more over) xs ys e f = cc
alike_means (fixed size) n m (variable_bytes value from) second xs ys e f = cc
alike_means (fixed size) n m (optional_bytes under mask) second xs ys e f = cc
alike_means variable n m (variable_bytes value from) (variable_bytes more to) xs ys e f = refl
alike_means variable n m (variable_bytes value from) (fixed_bytes more) xs ys e f = cc
alike_means variable n m (variable_bytes value from) (optional_bytes more over) xs ys e f = cc
alike_means variable n m (fixed_bytes value) second xs ys e f = cc
alike_means variable n m (optional_bytes under mask) second xs ys e f = cc
alike_means (optional kind) n m (optional_bytes under mask) (optional_bytes more over) xs ys e f =
    let a = masked_parts kind n mask under xs e in
    let b = masked_parts kind m over more ys f in
    alike_means kind n m under more a.list b.list a.inner b.inner
alike_means (optional kind) n m (optional_bytes under mask) (fixed_bytes more) xs ys e f = cc
alike_means (optional kind) n m (optional_bytes under mask) (variable_bytes more to) xs ys e f = cc
alike_means (optional kind) n m (fixed_bytes value) second xs ys e f = cc
alike_means (optional kind) n m (variable_bytes value from) second xs ys e f = cc

sound_offsets : (number : ℕ) (value offsets : List ℕ) → are_offsets number (length value) offsets ≡ true →
    (nat_lt 0 (length offsets) && stay_within (length value) offsets) ≡ true
sound_offsets number value [] e = cc
sound_offsets number value (first ∷ offsets) e =
    let parts = and_parts (length offsets == number) ((first == 0) && offsets_rise_to (length value) first offsets) e in
    and_from (nat_lt 0 (length (first ∷ offsets))) (stay_within (length value) (first ∷ offsets)) (lt-ltb 0
    (length (first ∷ offsets)) (omega arith))
    (rising_within (length value) first offsets
    (and_parts (first == 0) (offsets_rise_to (length value) first offsets) parts.1).1)

pub sound_means : (kind : Kind) (number : ℕ) (raw : ArrayBytes) (xs : List Element) →
    meaning kind number raw ≡ Some xs → are_sound raw ≡ true
sound_means (fixed n) number (fixed_bytes value) xs e = refl
sound_means (fixed n) number (variable_bytes value offsets) xs e = cc
sound_means (fixed n) number (optional_bytes under mask) xs e = cc
sound_means variable number (fixed_bytes value) xs e = cc
sound_means variable number (variable_bytes value offsets) xs e =
    sound_offsets number value offsets (when_some _ _ _ e).0
sound_means variable number (optional_bytes under mask) xs e = cc
sound_means (optional kind) number (fixed_bytes value) xs e = cc
sound_means (optional kind) number (variable_bytes value offsets) xs e = cc
sound_means (optional kind) number (optional_bytes under mask) xs e =
    let parts = masked_parts kind number mask under xs e in sound_means kind number under parts.list parts.inner

-- what stands under a mask means a list too
under_some : (kind : Kind) (number : ℕ) (under : ArrayBytes) (mask : List ℕ) →
    IsSome (meaning (optional kind) number (optional_bytes under mask)) → IsSome (meaning kind number under)
under_some kind number under mask h = go (is_mask number mask) (meaning kind number under) h
  where
    go : (t : Bool) (o : Option (List Element)) → IsSome (if t then option_map (mask_over mask) o else None) → IsSome o
    go false o h = cc
    go true None h = h
    go true (Some list) h = refl

-- elements of one size: they are held as such, with no offsets between them, and no length of one is stored
pub fixed_means : (kind : Kind) (number : ℕ) (raw : ArrayBytes) → 0 < size_in (fixed_size kind) →
    IsSome (meaning kind number raw) → holds_fixed raw ≡ true
fixed_means (fixed n) number (fixed_bytes value) some h = refl
fixed_means (fixed n) number (variable_bytes value offsets) some h = cc
fixed_means (fixed n) number (optional_bytes under mask) some h = cc
fixed_means variable number raw some h = absurd (omega arith)
fixed_means (optional kind) number (fixed_bytes value) some h = cc
fixed_means (optional kind) number (variable_bytes value offsets) some h = cc
fixed_means (optional kind) number (optional_bytes under mask) some h =
    fixed_means kind number under some (under_some kind number under mask h)

pub fixed_sound : (raw : ArrayBytes) → holds_fixed raw ≡ true → are_sound raw ≡ true
fixed_sound (fixed_bytes value) h = refl
fixed_sound (variable_bytes value offsets) h = cc
fixed_sound (optional_bytes under mask) h = fixed_sound under h

pub fixed_short : (raw : ArrayBytes) → holds_fixed raw ≡ true → has_long_element raw ≡ false
fixed_short (fixed_bytes value) h = refl
fixed_short (variable_bytes value offsets) h = cc
fixed_short (optional_bytes under mask) h = fixed_short under h
