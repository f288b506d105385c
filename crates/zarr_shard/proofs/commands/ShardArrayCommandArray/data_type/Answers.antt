use Rattle.std.proofs.Common.{◌∙◌, ap}
use Rattle.zarrs_data_type_names.specs.DataType.{type_of}
use Rattle.zarr_array_parts.specs.Parts.{documented}
use Rattle.zarr_array_parts.specs.declared.parts.ArrayParts.{ArrayParts}
use Rattle.zarr_array_regions.proofs.SizeLaws.{some_size}
use Rattle.zarr_shard.proofs.commands.ShardArrayCommandArray.data_type.Goals as goal

pub returns-clause-sizes : goal.returns-clause-sizes
returns-clause-sizes c = λ n is. some_size c.args.self.now.codec.shard.inner (type_of c.data_type.result.now) n (c.data_type.ensures ∙ ap (λ (inner : ArrayParts). (documented inner).data_type) c.inner.ensures) is
