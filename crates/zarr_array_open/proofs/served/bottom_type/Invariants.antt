use Rattle.std.proofs.Common.{◌≡◌, map, drop}
use Rattle.zarrs_data_type.specs.DataType.{type_of}
use Rattle.zarr_basics.specs.kinds.array_to_array.Views.{array_form}
use Rattle.zarr_array_open.specs.Opening.{bottom_type}
use Rattle.zarr_array_open.proofs.served.bottom_type.Given as goal

abbrev pub invariant-loop-codec : goal.invariant-loop-codec
invariant-loop-codec l = bottom_type (map array_form (drop l.codec-index l.codecs)) (type_of l.bottom) ≡
    bottom_type (map array_form l.codecs) (type_of l.data_type)
