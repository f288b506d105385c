-- The optional type that a struct of its own stands for.
use Rattle.zarr_model.specs.Element as Model
use Rattle.zarrs_data_type.specs.DataType.{type_of}
use Rattle.zarrs_data_type.specs.declared.optional.OptionalDataType.{OptionalDataType}

-- the type inside
abbrev pub inner_type : OptionalDataType → Model.DataType
inner_type o = type_of o.inner

-- the optional type itself
abbrev pub optional_type_seen : OptionalDataType → Model.DataType
optional_type_seen o = Model.optional_type (inner_type o)
