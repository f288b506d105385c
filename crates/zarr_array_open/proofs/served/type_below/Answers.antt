use Rattle.zarrs_data_type.specs.DataType.{type_of}
use Rattle.zarr_basics.specs.kinds.array_to_array.Views.{array_form}
use Rattle.zarr_array_open.proofs.ServingLaws.{below_made, below_refused}
use Rattle.zarr_array_open.proofs.served.type_below.Goals as goal

pub returns-in-Ok : goal.returns-in-Ok
returns-in-Ok c = below_made (array_form c.args.codec.now) (type_of c.args.data_type.now) c.in-Ok.below
    c.in-Ok.ensures.unserved c.in-Ok.ensures.value

pub returns-in-Err : goal.returns-in-Err
returns-in-Err c = rw c.from.ensures (below_refused (array_form c.args.codec.now) (type_of c.args.data_type.now)
    c.in-Err.error c.in-Err.ensures.unserved c.in-Err.ensures.value)
