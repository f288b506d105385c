-- The data type of the model that a `DataType` stands for.
use Rattle.std.specs.Prelude.{ℕ, ◌==◌, nat_le, Bool, true, false, Option, Some, None}
use Rattle.zarr_model.specs.Element as Model
use Rattle.zarrs_data_type.specs.declared.data_type.DataType as types

-- each is the type of the model with that size
abbrev pub type_of : types.DataType → Model.DataType
type_of types.Bool = Model.bool_type
type_of types.Int8 = Model.int_type 1
type_of types.Int16 = Model.int_type 2
type_of types.Int32 = Model.int_type 4
type_of types.Int64 = Model.int_type 8
type_of types.UInt8 = Model.uint_type 1
type_of types.UInt16 = Model.uint_type 2
type_of types.UInt32 = Model.uint_type 4
type_of types.UInt64 = Model.uint_type 8
type_of (types.RawBits n) = Model.raw_type n
type_of types.String = Model.string_type
type_of types.Bytes = Model.bytes_type
type_of (types.Optional' pointer inner) = Model.optional_type (type_of inner)

-- the size of its elements, if all have one
abbrev pub size_of : Model.DataType → Option ℕ
size_of t = Model.fixed_size (Model.kind_of t)

-- it has nulls
abbrev pub is_optional_type : Model.DataType → Bool
is_optional_type (Model.optional_type inner) = true
is_optional_type _ = false

-- a raw type has at least one byte
abbrev pub is_type : Model.DataType → Bool
is_type (Model.raw_type n) = nat_le 1 n
is_type (Model.optional_type inner) = is_type inner
is_type _ = true

-- the type inside an optional one
abbrev pub inner_type_of : Model.DataType → Option Model.DataType
inner_type_of (Model.optional_type inner) = Some inner
inner_type_of _ = None

-- two types are the same
abbrev pub same_type : Model.DataType → Model.DataType → Bool
same_type Model.bool_type Model.bool_type = true
same_type (Model.int_type m) (Model.int_type n) = m == n
same_type (Model.uint_type m) (Model.uint_type n) = m == n
same_type (Model.raw_type m) (Model.raw_type n) = m == n
same_type Model.string_type Model.string_type = true
same_type Model.bytes_type Model.bytes_type = true
same_type (Model.optional_type inner) (Model.optional_type other) = same_type inner other
same_type _ _ = false
