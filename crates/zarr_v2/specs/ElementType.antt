-- The data types of version 2 arrays that are translated.
use Rattle.std.specs.Prelude.{ℕ, ◌==◌, Bool, true, false, if◌then◌else◌, List, [], ◌∷◌, Option, Some, None, codes}
use Rattle.zarr_model.specs.Element as model
use Rattle.zarrs_metadata_parts.specs.DataTypeV2.{DataTypeV2, simple, structured}
use Rattle.zarr_model.specs.declared.endianness.Endianness.{Endianness}
use Rattle.zarr_model.specs.declared.endianness.Endianness.TheVariants.{Little, Big}
use Rattle.zarr_v2.specs.declared.element_type.ElementType.{ElementType}
use Rattle.zarr_v2.specs.declared.element_type.ElementType.TheVariants.{Bool as BoolType, Int8, Int16, Int32, Int64}
use Rattle.zarr_v2.specs.declared.element_type.ElementType.TheVariants.{UInt8, UInt16, UInt32, UInt64}
use Rattle.zarr_v2.specs.declared.element_type.StoredType.{StoredType}

-- the data type of each
abbrev pub element_type : ElementType → model.DataType
element_type BoolType = model.bool_type
element_type Int8 = model.int_type 1
element_type Int16 = model.int_type 2
element_type Int32 = model.int_type 4
element_type Int64 = model.int_type 8
element_type UInt8 = model.uint_type 1
element_type UInt16 = model.uint_type 2
element_type UInt32 = model.uint_type 4
element_type UInt64 = model.uint_type 8

-- its name in documents of version 3
abbrev pub type_text : ElementType → List ℕ
type_text BoolType = codes "bool"
type_text Int8 = codes "int8"
type_text Int16 = codes "int16"
type_text Int32 = codes "int32"
type_text Int64 = codes "int64"
type_text UInt8 = codes "uint8"
type_text UInt16 = codes "uint16"
type_text UInt32 = codes "uint32"
type_text UInt64 = codes "uint64"

-- whole numbers of 1, 2, 4 or 8 bytes, by the digit
abbrev pub numbered : Bool → ℕ → Option ElementType
numbered true digit =
    if digit == 49 then Some Int8
    else if digit == 50 then Some Int16
    else if digit == 52 then Some Int32
    else if digit == 56 then Some Int64
    else None
numbered false digit =
    if digit == 49 then Some UInt8
    else if digit == 50 then Some UInt16
    else if digit == 52 then Some UInt32
    else if digit == 56 then Some UInt64
    else None

-- `b1`, or `i` or `u` with such a digit
abbrev pub lettered : ℕ → ℕ → Option ElementType
lettered letter digit =
    if letter == 98 then (if digit == 49 then Some BoolType else None)
    else if letter == 105 then numbered true digit
    else if letter == 117 then numbered false digit
    else None

-- a type of several bytes has the order of its mark, and one of one byte has none
abbrev pub with_order : ElementType → Option Endianness → Option StoredType
with_order element None = None
with_order element (Some order) = Some (record { element = element; order = Some order })

abbrev pub ordered_type : ElementType → Option Endianness → Option StoredType
ordered_type BoolType mark = Some (record { element = BoolType; order = None })
ordered_type Int8 mark = Some (record { element = Int8; order = None })
ordered_type UInt8 mark = Some (record { element = UInt8; order = None })
ordered_type element mark = with_order element mark

-- the marks `|`, `<` and `>`
abbrev pub marked : ℕ → ElementType → Option StoredType
marked mark element =
    if mark == 124 then ordered_type element None
    else if mark == 60 then ordered_type element (Some Little)
    else if mark == 62 then ordered_type element (Some Big)
    else None

abbrev pub marked_if : ℕ → Option ElementType → Option StoredType
marked_if mark None = None
marked_if mark (Some element) = marked mark element

-- a mark, a letter and a digit
abbrev pub element_of_text : List ℕ → Option StoredType
element_of_text [] = None
element_of_text (mark ∷ []) = None
element_of_text (mark ∷ (letter ∷ [])) = None
element_of_text (mark ∷ (letter ∷ (digit ∷ []))) = marked_if mark (lettered letter digit)
element_of_text (mark ∷ (letter ∷ (digit ∷ (more ∷ rest)))) = None

abbrev pub stored_type_of : DataTypeV2 → Option StoredType
stored_type_of (simple text) = element_of_text text
stored_type_of (structured fields) = None
