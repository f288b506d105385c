-- The built-in names of data types.
use Rattle.std.specs.Prelude.{List, [], ◌∷◌, codes}
use Rattle.zarrs_data_type.specs.declared.data_type.kind.DataTypeKind as kinds
use Rattle.zarrs_data_type.specs.declared.data_type.kind.DataTypeKind.TheVariants.{Bool, Int8, Int16, Int32, Int64}
use Rattle.zarrs_data_type.specs.declared.data_type.kind.DataTypeKind.TheVariants.{UInt8, UInt16, UInt32, UInt64}
use Rattle.zarrs_data_type.specs.declared.data_type.kind.DataTypeKind.TheVariants.{RawBits, String, Bytes, Optional}
use Rattle.zarrs_plugin.specs.NamePattern.{Pattern, exact, letter_digits}

-- 114 is the letter r
abbrev pub builtin_data_types : List (Pattern × kinds.DataTypeKind)
builtin_data_types =
    (exact (codes "bool"), Bool)
    ∷ (exact (codes "int8"), Int8) ∷ (exact (codes "int16"), Int16)
    ∷ (exact (codes "int32"), Int32) ∷ (exact (codes "int64"), Int64)
    ∷ (exact (codes "uint8"), UInt8) ∷ (exact (codes "uint16"), UInt16)
    ∷ (exact (codes "uint32"), UInt32) ∷ (exact (codes "uint64"), UInt64)
    ∷ (exact (codes "string"), String)
    ∷ (exact (codes "bytes"), Bytes) ∷ (exact (codes "variable_length_bytes"), Bytes)
    ∷ (exact (codes "zarrs.optional"), Optional)
    ∷ (letter_digits 114, RawBits) ∷ []
