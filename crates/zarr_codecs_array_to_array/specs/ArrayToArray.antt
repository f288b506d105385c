-- Array-to-array codecs as plain data: what each means, serves and is written as.
use Rattle.std.specs.Prelude.{ℕ, ℤ, ◌==◌, Bool, true, List, length, codes, Option, Some}
use Rattle.serde_json.specs.Data.{Members}
use Rattle.zarrs_codec_traits.specs.Prelude.{DataType, Unserved}
use Rattle.zarr_model.specs.Codec.{ArrayCodec, offset_codec, opposite, transpose_codec}
use Rattle.zarr_codecs_elements.specs.Numbers.{bytes_less}
use Rattle.zarr_codecs_elements.specs.Offset.{offset_unserved}
use Rattle.zarr_codecs_array_to_array.specs.Offset.{offset_members}
use Rattle.zarr_codecs_elements.specs.Moving.{rank_unserved, shape_above_of}
use Rattle.zarr_codecs_array_to_array.specs.Configuration.{order_members}

-- an offset that is added, or an order of dimensions
pub data ArrayToArray : Type 0 where
  offset : ℤ → ArrayToArray
  transpose : List ℕ → ArrayToArray

-- the codec of the model
abbrev pub array_codec_of : ArrayToArray → ArrayCodec
array_codec_of (offset number) = offset_codec number
array_codec_of (transpose order) = transpose_codec order

-- why a call with this shape and type, or without, is refused: an offset is added to whole numbers,
-- and an order goes with shapes of its own rank
abbrev pub array_unserved_by : ArrayToArray → Option (List ℕ) → Option DataType → Option Unserved
array_unserved_by (offset number) shape type = offset_unserved type
array_unserved_by (transpose order) shape type = rank_unserved order shape

-- whether shapes of this rank are served
abbrev pub array_has_rank : ℕ → ArrayToArray → Bool
array_has_rank rank (offset number) = true
array_has_rank rank (transpose order) = length order == rank

-- the type below, and the bytes of the fill value below
abbrev pub type_below_by : ArrayToArray → DataType → DataType
type_below_by (offset number) type = type
type_below_by (transpose order) type = type

abbrev pub fill_below_by : ArrayToArray → List ℕ → List ℕ
fill_below_by (offset number) fill = bytes_less (opposite number) fill
fill_below_by (transpose order) fill = fill

-- the shape above one below, where there is one
abbrev pub shape_above_by : ArrayToArray → List ℕ → Option (List ℕ)
shape_above_by (offset number) shape = Some shape
shape_above_by (transpose order) shape = shape_above_of order shape

-- the names and the configurations
abbrev pub array_name_by : ArrayToArray → List ℕ
array_name_by (offset number) = codes "zarr_basics.offset"
array_name_by (transpose order) = codes "transpose"

abbrev pub array_members_by : ArrayToArray → Members
array_members_by (offset number) = offset_members number
array_members_by (transpose order) = order_members order
