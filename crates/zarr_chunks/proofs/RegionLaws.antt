-- Regions of a chunk that are filled.
use Rattle.std.proofs.Common.{◌≡◌, ℕ, zero, suc, ◌+◌, ◌≤◌, true, false, List, ◌∷◌, length, replicate, Some, Result, Ok}
use Rattle.std.proofs.Common.{Err, IfOk, MatchResult, Option, unwrap_or, sym, refl, ap, ◌∙◌, arith}
use Rattle.std.proofs.lemmas.Bool.{or_parts, or_from}
use Rattle.zarrs_codec_traits.specs.Prelude.{has_long_element, has_long_step, ends_from, Region, count, count_of}
use Rattle.zarrs_codec_traits.specs.Prelude.{ends_within, Level, raw_of, fill_bytes, type_of, lengths, level_of}
use Rattle.zarrs_codec_traits.specs.Prelude.{list_at, at_box, select}
use Rattle.std.specs.declared.num.NonZeroU64.{NonZeroU64}
use Rattle.zarr_model.specs.Element.{Element, Kind, DataType, fixed, variable, optional, kind_of, fill_element, null}
use Rattle.zarr_model.proofs.RegionLaws.{count_within}
use Rattle.zarrs_codec_slices.specs.Filling.{inner_fill, filled_with}
use Rattle.zarrs_codec_error.specs.declared.error.CodecError.{CodecError}
use Rattle.zarrs_codec_error.specs.declared.error.CodecError.TheVariants as codec
use Rattle.zarrs_codec_array_bytes.specs.declared.array_bytes.ArrayBytes as code
use Rattle.zarrs_data_type_bytes.specs.declared.fill_value.FillValue.{FillValue}
use Rattle.zarrs_data_type.specs.declared.data_type.DataType as names
use Rattle.zarrs_codec_traits.proofs.SelectLaws.{select-replicate}
use Rattle.zarr_codec_chain.specs.Chain.{blank_chunk}

-- fewer elements of a fill value that is not long are not long
steps_fewer : (few many place : ℕ) (fill : List ℕ) → few ≤ many → has_long_step (place ∷ ends_from place
    (replicate many fill)) ≡ false → has_long_step (place ∷ ends_from place (replicate few fill)) ≡ false
steps_fewer zero many place fill less short = refl
steps_fewer (suc few) zero place fill less short = absurd (omega (arith, less))
steps_fewer (suc few) (suc many) place fill less short =
    let parts = or_parts _ _ short in
    or_from _ _ parts.0 (steps_fewer few many (place + length fill) fill (omega (arith, less)) parts.1)

pub fewer_short : (kind : Kind) (few many : ℕ) (fill : List ℕ) → few ≤ many →
    has_long_element (filled_with kind many fill) ≡ false → has_long_element (filled_with kind few fill) ≡ false
fewer_short (fixed n) few many fill less short = refl
fewer_short variable few many fill less short = steps_fewer few many 0 fill less short
fewer_short (optional kind) few many fill less short = fewer_short kind few many (inner_fill kind fill) less short

-- a region of a list that is filled
pub filled_selects : (level : Level) (box : Region) (r : Result code.ArrayBytes CodecError) →
    ends_within box level.shape ≡ true →
    MatchResult r (λ v. list_at (at_box box level) (raw_of v) ≡ Some (replicate (count box) level.fill))
    (λ e. e ≡ codec.OutOfMemory) →
    MatchResult r (λ v. list_at (at_box box level) (raw_of v) ≡
    Some (select level.shape box (replicate (count_of level.shape) level.fill))) (λ e. e ≡ codec.OutOfMemory)
filled_selects level box (Ok v) inside is = is ∙ ap Some (sym (select-replicate level.shape box level.fill inside))
filled_selects level box (Err e) inside is = is

pub filled_less : (level : Level) (fill : List ℕ) (box : Region) (r : Result code.ArrayBytes CodecError) →
    ends_within box level.shape ≡ true → has_long_element (blank_chunk level fill) ≡ false →
    IfOk r (λ v. raw_of v ≡ filled_with (kind_of level.data_type) (count box) fill) →
    IfOk r (λ v. has_long_element (raw_of v) ≡ false)
filled_less level fill box (Ok v) inside short is = ap has_long_element is ∙ fewer_short (kind_of level.data_type)
    (count box) (count_of level.shape) fill (count_within box level.shape inside) short
filled_less level fill box (Err e) inside short is = tt

-- a shape, a data type and a fill value are those of a level
pub level_same : (shape : List NonZeroU64) (data_type : names.DataType) (value : FillValue) (level : Level) (fill :
    List ℕ) → lengths shape ≡ level.shape → type_of data_type ≡ level.data_type → fill_bytes value ≡ fill →
    fill_element (kind_of level.data_type) fill ≡ Some level.fill → level_of shape data_type value ≡ level
level_same shape data_type value level fill same_shape same_type same_fill denotes =
    ap (λ (s : List ℕ). record {
      shape = s;
      data_type = type_of data_type;
      fill = unwrap_or (fill_element (kind_of (type_of data_type)) (fill_bytes value)) null;
    }) same_shape
    ∙ (ap (λ (t : DataType).
    record { shape = level.shape; data_type = t; fill = unwrap_or (fill_element (kind_of t) (fill_bytes value)) null })
    same_type
    ∙ (ap (λ (f : List ℕ). record {
      shape = level.shape;
      data_type = level.data_type;
      fill = unwrap_or (fill_element (kind_of level.data_type) f) null;
    }) same_fill
    ∙ ap (λ (o : Option Element). record { shape = level.shape; data_type = level.data_type; fill = unwrap_or o null })
    denotes))
