-- Elements of any length as array bytes: their values, and what values decode to.
use Rattle.std.proofs.Common.{◌≡◌, ℕ, ◌*◌, ◌-◌, ◌^◌, ◌<◌, ◌≤◌, Bool, true, false, not, ◌&&◌, ◌==◌, nat_lt, List, []}
use Rattle.std.proofs.Common.{◌∷◌, length, map, Option, Some, None, IsSome, Result, Ok, Err, refl, sym, ap, ◌∙◌, subst}
use Rattle.std.proofs.Common.{arith, eqb-true}
use Rattle.std.proofs.lemmas.Bool.{and_parts, cond-true, ltb-true}
use Rattle.zarr_model.specs.Element.{Element, of_bytes, DataType, bool_type, int_type, uint_type, raw_type, string_type}
use Rattle.zarr_model.specs.Element.{bytes_type, optional_type, kind_of, variable, fixed_size}
use Rattle.zarr_model.specs.ArrayBytes.{ArrayBytes, fixed_bytes, variable_bytes, optional_bytes, between_offsets}
use Rattle.zarr_model.specs.ArrayBytes.{are_offsets, offsets_rise_to, meaning}
use Rattle.zarr_model.specs.Codec.{decode_vlen, vlen_value}
use Rattle.zarr_model.specs.Command.{bytes_refusal, has_long_step, invalid_variable_sized_array_offsets}
use Rattle.zarr_model.proofs.RefusalLaws.{not_refused}
use Rattle.zarrs_codec_slices.specs.Picking.{size_in, are_within}
use Rattle.zarrs_codec_slices.proofs.ValueLaws.{rising_within}
use Rattle.zarrs_codec_array_bytes.specs.Levels.{inner_length, is_variable}
use Rattle.zarrs_codec_array_bytes.specs.Refusals.{fine, validity}
use Rattle.zarrs_codec_array_bytes.proofs.CheckLaws.{sized_fine}
use Rattle.zarrs_codec_traits.specs.Words.{Gives}
use Rattle.zarr_codecs_to_bytes.specs.Values.{AreValues, HoldsElements, elements_between}
use Rattle.zarr_codecs_to_bytes.proofs.ValueLaws.{value_decodes}
use Rattle.serde_json.specs.Data.{no_members}
use Rattle.zarrs_plugin.specs.Making.{Unmade, unsupported, config, other, IsUnmade, Makes}
use Rattle.zarrs_plugin.specs.declared.error.PluginKind.{PluginKind}
use Rattle.zarrs_plugin.specs.declared.error.PluginCreateError.{PluginCreateError}
use Rattle.zarrs_plugin.specs.declared.error.PluginCreateError.TheVariants.{Unsupported, Config, Other, OutOfMemory}
use Rattle.zarr_codecs_to_bytes.specs.VlenCodec.{vlen_type_unserved, without_members}

-- how many offsets there are
pub few_offsets : (number : ℕ) (bytes offsets : List ℕ) → are_offsets number (length bytes) offsets ≡ true →
    number < 2 ^ 32 → length offsets ≤ 2 ^ 32
few_offsets number bytes [] all few = absurd (cc)
few_offsets number bytes (first ∷ offsets) all few =
    let counted =
    and_parts (length offsets == number) ((first == 0) && offsets_rise_to (length bytes) first offsets) all in
    omega (arith, eqb-true (length offsets) number counted.0, few)

pub own_number : (number : ℕ) (bytes offsets : List ℕ) → are_offsets number (length bytes) offsets ≡ true →
    length offsets - 1 ≡ number
own_number number bytes [] all = absurd (cc)
own_number number bytes (first ∷ offsets) all =
    let counted =
    and_parts (length offsets == number) ((first == 0) && offsets_rise_to (length bytes) first offsets) all in
    omega (arith, eqb-true (length offsets) number counted.0)

no_long : (long : Bool) → not long ≡ true → long ≡ false
no_long true e = cc
no_long false e = refl

-- offsets that are valid and short are those of values
pub own_values : (number : ℕ) (bytes offsets : List ℕ) → are_offsets number (length bytes) offsets ≡ true →
    (nat_lt number (2 ^ 32) && not (has_long_step offsets)) ≡ true → AreValues (length offsets - 1) bytes offsets
own_values number bytes offsets rise short = record {
  rise = subst (λ n. are_offsets n (length bytes) offsets ≡ true) (sym (own_number number bytes offsets rise)) rise;
  short = no_long (has_long_step offsets) (and_parts (nat_lt number (2 ^ 32)) (not (has_long_step offsets)) short).1;
}

pub decoded_again : (number : ℕ) (bytes offsets value : List ℕ) → are_offsets number (length bytes) offsets ≡ true →
    (nat_lt number (2 ^ 32) && not (has_long_step offsets)) ≡ true →
    value ≡ vlen_value (elements_between offsets bytes) →
    decode_vlen number value ≡ Some (elements_between offsets bytes)
decoded_again number bytes offsets value rise short is =
    let parts = and_parts (nat_lt number (2 ^ 32)) (not (has_long_step offsets)) short in
    ap (decode_vlen number) is
    ∙ value_decodes number bytes offsets (record { rise = rise; short = no_long (has_long_step offsets) parts.1 })
    (ltb-true number (2 ^ 32) parts.0)

-- array bytes that are valid
sound : (number : ℕ) (raw : ArrayBytes) → validity variable number raw ≡ fine → bytes_refusal variable number raw ≡ None
sound number raw valid =
    sized_fine (inner_length raw) (number * size_in (fixed_size variable)) (bytes_refusal variable number raw) valid

pub valid_variable : (number : ℕ) (raw : ArrayBytes) → validity variable number raw ≡ fine → is_variable raw ≡ true
valid_variable number (fixed_bytes value) valid = let no = sound number (fixed_bytes value) valid in cc
valid_variable number (variable_bytes value offsets) valid = refl
valid_variable number (optional_bytes under mask) valid = let no = sound number (optional_bytes under mask) valid in cc

pub valid_offsets : (number : ℕ) (value offsets : List ℕ) →
    validity variable number (variable_bytes value offsets) ≡ fine → are_offsets number (length value) offsets ≡ true
valid_offsets number value offsets valid =
    not_refused (are_offsets number (length value) offsets) invalid_variable_sized_array_offsets
    (sound number (variable_bytes value offsets) valid)

pub valid_meaning : (number : ℕ) (value offsets : List ℕ) → are_offsets number (length value) offsets ≡ true →
    meaning variable number (variable_bytes value offsets) ≡ Some (elements_between offsets value)
valid_meaning number value offsets rise = cond-true (are_offsets number (length value) offsets)
    (Some (map of_bytes (between_offsets offsets value))) None rise

-- offsets that rise to the end of their bytes
pub some_offsets : (number : ℕ) (value offsets : List ℕ) → AreValues number value offsets → 0 < length offsets
some_offsets number value [] all = absurd (let no = all.rise in cc)
some_offsets number value (first ∷ offsets) all = omega arith

pub all_within : (number : ℕ) (value offsets : List ℕ) → AreValues number value offsets →
    are_within value offsets ≡ true
all_within number value [] all = refl
all_within number value (first ∷ offsets) all =
    let counted =
    and_parts (length offsets == number) ((first == 0) && offsets_rise_to (length value) first offsets) all.rise in
    rising_within (length value) first offsets
    (and_parts (first == 0) (offsets_rise_to (length value) first offsets) counted.1).1

-- what a value decodes to, as array bytes
pub held_elements : (number : ℕ) (value bytes offsets : List ℕ) (raw : ArrayBytes) → HoldsElements number value bytes
    offsets → raw ≡ variable_bytes bytes offsets → Gives (meaning variable number raw) (decode_vlen number value)
held_elements number value bytes offsets raw holds is =
    let mean = ap (meaning variable number) is ∙ valid_meaning number bytes offsets holds.values.rise in
    record { same = mean ∙ sym holds.decoded; there = subst (λ (o : Option (List Element)). IsSome o) (sym mean) refl }

-- a type that is served has elements of any length
pub served_kind : (text : Bool) (data_type : DataType) → vlen_type_unserved text data_type ≡ None →
    kind_of data_type ≡ variable
served_kind text bool_type served = cc
served_kind text (int_type n) served = cc
served_kind text (uint_type n) served = cc
served_kind text (raw_type n) served = cc
served_kind text string_type served = refl
served_kind text bytes_type served = refl
served_kind text (optional_type inner) served = cc

-- what was made has an empty configuration
refused_without : (kind : PluginKind) (e : PluginCreateError) (wanted : Result Bool Unmade) → IsUnmade kind e wanted →
    IsUnmade kind e (without_members wanted)
refused_without kind (Unsupported error) (Ok text) told = absurd told
refused_without kind (Unsupported error) (Err (unsupported name)) told = told
refused_without kind (Unsupported error) (Err config) told = absurd told
refused_without kind (Unsupported error) (Err other) told = absurd told
refused_without kind Config (Ok text) told = absurd told
refused_without kind Config (Err (unsupported name)) told = absurd told
refused_without kind Config (Err config) told = tt
refused_without kind Config (Err other) told = absurd told
refused_without kind Other (Ok text) told = absurd told
refused_without kind Other (Err (unsupported name)) told = absurd told
refused_without kind Other (Err config) told = absurd told
refused_without kind Other (Err other) told = tt
refused_without kind OutOfMemory wanted told = tt

pub made_without : {X : Type 0} (kind : PluginKind) (text : X → Bool) (result : Result X PluginCreateError)
    (wanted : Result Bool Unmade) → Makes kind text result wanted →
    Makes kind (λ _. Some no_members) result (without_members wanted)
made_without kind text (Ok v) wanted made = ap without_members made
made_without kind text (Err e) wanted told = refused_without kind e wanted told
