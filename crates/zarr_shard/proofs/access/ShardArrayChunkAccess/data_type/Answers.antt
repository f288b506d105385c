use Rattle.std.proofs.Common.{◌∙◌, ap}
use Rattle.zarrs_data_type.specs.DataType.{type_of}
use Rattle.zarr_array_open.specs.Parts.{documented_parts}
use Rattle.zarr_array_open.specs.declared.parts.ArrayParts.{ArrayParts}
use Rattle.zarr_array.proofs.SizeLaws.{some_size}
use Rattle.zarr_shard.proofs.access.ShardArrayChunkAccess.data_type.Goals as goal

pub returns-clause-sizes : goal.returns-clause-sizes
returns-clause-sizes c = λ n is. some_size c.args.self.now.codec.shard.inner (type_of c.data_type.result.now) n
    (c.data_type.ensures ∙ ap (λ (inner : ArrayParts). (documented_parts inner).data_type) c.inner.ensures) is
