use Rattle.std.proofs.Common.{map, arith}
use Rattle.zarrs_data_type.specs.DataType.{type_of}
use Rattle.zarr_basics.specs.kinds.array_to_array.Views.{array_form}
use Rattle.zarr_array_open.specs.Opening.{bottom_type}
use Rattle.zarr_array_open.specs.OpenError.{open_refusal_of}
use Rattle.zarr_array_open.proofs.ServingLaws.{bottom_more, bottom_fails}
use Rattle.zarr_array_open.proofs.served.bottom_type.Goals as goal

pub returns-in-Err : goal.returns-in-Err
returns-in-Err c = bottom_fails c.args.codecs.now c.loop-codec.codec-index c.codec-item.result
    (type_of c.loop-codec.bottom) (bottom_type (map array_form c.args.codecs.now) (type_of c.args.data_type.now))
    (open_refusal_of c.in-Err.error) (omega arith) c.codec-item.is c.loop-codec.invariant c.in-Err.ensures

pub loop-codec-preserved : goal.loop-codec-preserved
loop-codec-preserved c =
    bottom_more c.args.codecs.now c.loop-codec.codec-index c.codec-item.result (type_of c.loop-codec.bottom)
    (type_of c.in-Ok.below) (bottom_type (map array_form c.args.codecs.now) (type_of c.args.data_type.now))
    (omega arith) c.codec-item.is c.loop-codec.invariant c.in-Ok.ensures
