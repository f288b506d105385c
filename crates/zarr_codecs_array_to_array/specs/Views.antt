-- The codecs of the code as plain data.
use Rattle.zarr_codecs_array_to_array.specs.OffsetOf.{offset_of}
use Rattle.zarr_codecs_array_to_array.specs.OrderOf.{order_of}
use Rattle.zarr_codecs_array_to_array.specs.ArrayToArray.{ArrayToArray, offset, transpose}
use Rattle.zarr_codecs_array_to_array.specs.declared.array_to_array.BasicArrayToArray.{BasicArrayToArray}
use Rattle.zarr_codecs_array_to_array.specs.declared.array_to_array.BasicArrayToArray.TheVariants as arrays

abbrev pub array_form : BasicArrayToArray → ArrayToArray
array_form (arrays.Offset codec) = offset (offset_of codec)
array_form (arrays.Transpose codec) = transpose (order_of codec)
