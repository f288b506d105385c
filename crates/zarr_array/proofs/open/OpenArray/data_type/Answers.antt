use Rattle.zarr_array.proofs.SizeLaws.{some_size}
use Rattle.zarrs_data_type.specs.DataType.{type_of}
use Rattle.zarr_array.proofs.open.OpenArray.data_type.Goals as goal

pub returns-clause-sizes : goal.returns-clause-sizes
returns-clause-sizes c =
    λ n is. some_size c.args.self.now.parts (type_of c.data_type.result.now) n c.data_type.ensures is
