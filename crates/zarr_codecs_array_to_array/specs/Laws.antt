-- The laws of the codecs, by cases.
use Rattle.std.specs.Prelude.{◌≡◌, ◌≤◌, ◌<◌, ◌^◌, ◌==◌, ℕ, Bool, true, List, length, replicate, Some, None, IsSome}
use Rattle.std.specs.Prelude.{refl}
use Rattle.std.proofs.Common.{sym, ◌∙◌, eqb-true, eq-eqb}
use Rattle.std.proofs.lemmas.Bool.{cond-true}
use Rattle.zarrs_codec_traits.specs.Prelude.{Region, count_of, ends_within, Element, DataType, kind_of, fill_element}
use Rattle.zarrs_codec_traits.specs.Prelude.{innermost_fill, AreBytes, IsFit, taken}
use Rattle.zarr_model.specs.Codec.{Level, KeepsCount, opposite}
use Rattle.zarr_model.proofs.ChainLaws.{offset-keeps_count, transpose-keeps_count}
use Rattle.zarrs_codec_traits.specs.Errors.{unsupported}
use Rattle.zarrs_data_type_bytes.specs.declared.codec_support.CodecName.TheVariants as names
use Rattle.zarr_codecs_elements.proofs.LevelLaws.{offset_serves, below_fills, below_denotes, below_proper, below_short}
use Rattle.zarr_codecs_elements.proofs.LevelLaws.{same_count, between_shapes}
use Rattle.zarr_codecs_elements.proofs.OrderLaws.{length-permuted}
use Rattle.zarr_codecs_elements.proofs.MovedLevelLaws.{rank_serves, fill_stays, count_kept, fit_kept, region_stays}
use Rattle.zarr_codecs_elements.proofs.MovedLevelLaws.{above_below}
use Rattle.zarr_codecs_array_to_array.specs.OffsetOf.{offset_of}
use Rattle.zarr_codecs_array_to_array.specs.OrderOf.{order_of}
use Rattle.zarr_codecs_array_to_array.specs.ArrayToArray.{ArrayToArray, offset, transpose, array_codec_of}
use Rattle.zarr_codecs_array_to_array.specs.ArrayToArray.{array_unserved_by, array_has_rank, type_below_by}
use Rattle.zarr_codecs_array_to_array.specs.ArrayToArray.{fill_below_by, shape_above_by}
use Rattle.zarr_codecs_array_to_array.specs.Views.{array_form}
use Rattle.zarr_codecs_array_to_array.specs.declared.array_to_array.BasicArrayToArray.{BasicArrayToArray}
use Rattle.zarr_codecs_array_to_array.specs.declared.array_to_array.BasicArrayToArray.TheVariants as arrays

-- a codec serves a level where it serves its type and its shape has the codec's rank
pub plain_array_serves : (codec : ArrayToArray) (shape : List ℕ) (type : DataType)
    → array_unserved_by codec None (Some type) ≡ None → array_has_rank (length shape) codec ≡ true
    → array_unserved_by codec (Some shape) (Some type) ≡ None
plain_array_serves (offset number) shape type served rank = served
plain_array_serves (transpose order) shape type served rank =
    cond-true (length shape == length order) None (Some (unsupported names.Transpose))
    (eq-eqb (length shape) (length order) (sym (eqb-true (length order) (length shape) rank)))

-- a codec keeps the type, and what it decodes has an element for each place
pub type_kept : (codec : ArrayToArray) (type : DataType) → type_below_by codec type ≡ type
type_kept (offset number) type = refl
type_kept (transpose order) type = refl

pub keeps_count : (codec : ArrayToArray) → KeepsCount (array_codec_of codec)
keeps_count (offset number) = offset-keeps_count number
keeps_count (transpose order) = transpose-keeps_count order

-- the level below has the type below, and the same rank
pub type_of_below : (codec : ArrayToArray) (level : Level)
    → ((array_codec_of codec).level_below level).data_type ≡ type_below_by codec level.data_type
type_of_below (offset number) level = refl
type_of_below (transpose order) level = refl

pub rank_below : (codec : ArrayToArray) (level : Level)
    → array_has_rank (length level.shape) codec ≡ true
    → length ((array_codec_of codec).level_below level).shape ≡ length level.shape
rank_below (offset number) level rank = refl
rank_below (transpose order) level rank =
    length-permuted order level.shape ∙ eqb-true (length order) (length level.shape) rank

-- the level below that of a codec, and that the codec serves a level
abbrev pub below_of : BasicArrayToArray → Level → Level
below_of c level = (array_codec_of (array_form c)).level_below level

abbrev pub ServesLevel : BasicArrayToArray → Level → Type 0
ServesLevel c level =
    array_unserved_by (array_form c) (Some level.shape) (Some level.data_type) ≡ None

-- a level that is served is so by a call that takes only some of it
pub served_parts : (c : BasicArrayToArray) (level : Level) (with_shape with_type : Bool)
    → ServesLevel c level → array_unserved_by (array_form c) (taken with_shape level.shape)
    (taken with_type level.data_type) ≡ None
served_parts (arrays.Offset codec) level with_shape with_type served =
    offset_serves level.data_type with_type served
served_parts (arrays.Transpose codec) level with_shape with_type served =
    rank_serves (order_of codec) level.shape with_shape served

-- what decodes has an element for each place, and every list decodes
pub list_counted : (c : BasicArrayToArray) (level : Level) (below xs : List Element)
    → length below ≡ count_of (below_of c level).shape
    → (array_codec_of (array_form c)).decode_list level below ≡ Some xs
    → length xs ≡ count_of level.shape
list_counted (arrays.Offset codec) level below xs long is =
    offset-keeps_count (offset_of codec) level below xs long is
list_counted (arrays.Transpose codec) level below xs long is =
    transpose-keeps_count (order_of codec) level below xs long is

pub list_decodes : (codec : ArrayToArray) (level : Level) (below : List Element)
    → IsSome ((array_codec_of codec).decode_list level below)
list_decodes (offset number) level below = refl
list_decodes (transpose order) level below = refl

-- the fill value below, its element, its bytes and its length
pub fill_decodes : (c : BasicArrayToArray) (level : Level) → ServesLevel c level
    → AreBytes level.fill → (array_codec_of (array_form c)).decode_list level
    (replicate (count_of (below_of c level).shape) (below_of c level).fill)
    ≡ Some (replicate (count_of level.shape) level.fill)
fill_decodes (arrays.Offset codec) level served proper =
    below_fills (offset_of codec) level proper
fill_decodes (arrays.Transpose codec) level served proper =
    fill_stays (order_of codec) level codec.orders served

pub fill_denotes : (c : BasicArrayToArray) (level : Level) (fill : List ℕ) → ServesLevel c level
    → fill_element (kind_of level.data_type) fill ≡ Some level.fill
    → fill_element (kind_of (below_of c level).data_type) (fill_below_by (array_form c) fill)
    ≡ Some (below_of c level).fill
fill_denotes (arrays.Offset codec) level fill served denotes =
    below_denotes (opposite (offset_of codec)) level.data_type fill level.fill served denotes
fill_denotes (arrays.Transpose codec) level fill served denotes = denotes

pub fill_proper : (c : BasicArrayToArray) (level : Level) (fill : List ℕ) → ServesLevel c level
    → fill_element (kind_of level.data_type) fill ≡ Some level.fill → AreBytes level.fill
    → AreBytes (below_of c level).fill
fill_proper (arrays.Offset codec) level fill served denotes proper =
    below_proper (opposite (offset_of codec)) level.data_type fill level.fill served denotes
fill_proper (arrays.Transpose codec) level fill served denotes proper = proper

pub fill_short : (c : BasicArrayToArray) (level : Level) (fill : List ℕ) → ServesLevel c level
    → length (innermost_fill (kind_of level.data_type) fill) < 2 ^ 32
    → length (innermost_fill (kind_of (below_of c level).data_type)
    (fill_below_by (array_form c) fill)) < 2 ^ 32
fill_short (arrays.Offset codec) level fill served short =
    below_short (opposite (offset_of codec)) level.data_type fill served short
fill_short (arrays.Transpose codec) level fill served short = short

-- the level below has no more elements, and fits where the level does
pub count_below : (c : BasicArrayToArray) (level : Level) → ServesLevel c level
    → count_of (below_of c level).shape ≤ count_of level.shape
count_below (arrays.Offset codec) level served = same_count level.shape
count_below (arrays.Transpose codec) level served =
    count_kept (order_of codec) level.shape codec.orders served

pub level_fits : (c : BasicArrayToArray) (level : Level) → ServesLevel c level
    → IsFit level.shape level.data_type
    → IsFit (below_of c level).shape (below_of c level).data_type
level_fits (arrays.Offset codec) level served fits = fits
level_fits (arrays.Transpose codec) level served fits =
    fit_kept (order_of codec) level.shape level.data_type codec.orders served fits

-- the box below lies within the shape below, and the shape above one below has it below
pub box_inside : (c : BasicArrayToArray) (level : Level) (box : Region) → ServesLevel c level
    → ends_within box level.shape ≡ true
    → ends_within ((array_codec_of (array_form c)).box_below level.shape box)
    (below_of c level).shape ≡ true
box_inside (arrays.Offset codec) level box served inside = inside
box_inside (arrays.Transpose codec) level box served inside =
    region_stays (order_of codec) level.shape box codec.orders served inside

pub shape_back : (c : BasicArrayToArray) (level : Level) (shape : List ℕ)
    → shape_above_by (array_form c) shape ≡ Some level.shape → (below_of c level).shape ≡ shape
shape_back (arrays.Offset codec) level shape is = between_shapes shape level.shape is
shape_back (arrays.Transpose codec) level shape is =
    above_below (order_of codec) shape level.shape codec.orders is
