-- The optional type that a borrow of the type inside stands for.
use Rattle.zarr_model.specs.Element as Model
use Rattle.zarrs_data_type.specs.DataType.{type_of}
use Rattle.zarrs_data_type.specs.declared.optional_ref.OptionalRef.{OptionalRef}

-- the type inside
abbrev pub inner_ref_type : OptionalRef → Model.DataType
inner_ref_type o = type_of o.inner.now
