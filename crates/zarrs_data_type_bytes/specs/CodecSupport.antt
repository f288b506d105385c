-- Which data types codecs serve, and as what.
use Rattle.std.specs.Prelude.{◌≡◌, ℕ, zero, suc, ◌==◌, if◌then◌else◌, Bool, true, false, Option, Some, None, option_map}
use Rattle.std.specs.Prelude.{Result, Ok, Err}
use Rattle.zarr_model.specs.Element.{DataType, bool_type, int_type, uint_type}
use Rattle.zarr_model.specs.Codec.{component_size}
use Rattle.zarrs_data_type_bytes.specs.declared.codec_support.CodecName.{CodecName}
use Rattle.zarrs_data_type_bytes.specs.declared.codec_support.DataTypeCodecError.{DataTypeCodecError}
use Rattle.zarrs_data_type_bytes.specs.declared.codec_support.DataTypeCodecError.TheVariants.{UnsupportedDataType}
use Rattle.zarrs_data_type_bytes.specs.declared.codec_traits.bitround.BitroundElementType.{BitroundElementType}
use Rattle.zarrs_data_type_bytes.specs.declared.codec_traits.bitround.BitroundElementType.TheVariants as bitround
use Rattle.zarrs_data_type_bytes.specs.declared.codec_traits.bitround.BitroundSupport.{BitroundSupport}
use Rattle.zarrs_data_type_bytes.specs.declared.codec_traits.fixedscaleoffset.FixedScaleOffsetElementType.{
  FixedScaleOffsetElementType,
}
use Rattle.zarrs_data_type_bytes.specs.declared.codec_traits.fixedscaleoffset.FixedScaleOffsetElementType.TheVariants as scaled
use Rattle.zarrs_data_type_bytes.specs.declared.codec_traits.fixedscaleoffset.FixedScaleOffsetFloatType.{
  FixedScaleOffsetFloatType,
}
use Rattle.zarrs_data_type_bytes.specs.declared.codec_traits.fixedscaleoffset.FixedScaleOffsetFloatType.TheVariants as float
use Rattle.zarrs_data_type_bytes.specs.declared.codec_traits.fixedscaleoffset.FixedScaleOffsetSupport.{
  FixedScaleOffsetSupport,
}
use Rattle.zarrs_data_type_bytes.specs.declared.codec_traits.packbits.PackBitsSupport.{PackBitsSupport}
use Rattle.zarrs_data_type_bytes.specs.declared.codec_traits.pcodec.PcodecElementType.{PcodecElementType}
use Rattle.zarrs_data_type_bytes.specs.declared.codec_traits.pcodec.PcodecElementType.TheVariants as pcodec
use Rattle.zarrs_data_type_bytes.specs.declared.codec_traits.pcodec.PcodecSupport.{PcodecSupport}
use Rattle.zarrs_data_type_bytes.specs.declared.codec_traits.zfp.ZfpEncoding.{ZfpEncoding}
use Rattle.zarrs_data_type_bytes.specs.declared.codec_traits.zfp.ZfpEncoding.TheVariants as zfp
use Rattle.zarrs_data_type_bytes.specs.declared.codec_traits.zfp.ZfpNativeType.{ZfpNativeType}
use Rattle.zarrs_data_type_bytes.specs.declared.codec_traits.zfp.ZfpNativeType.TheVariants as native
use Rattle.zarrs_data_type_bytes.specs.declared.codec_traits.zfp.ZfpSupport.{ZfpSupport}

-- the support that a codec asked for is that of its table, or the table has none and the error
-- names the codec
abbrev pub Supports : {S X : Type 0} → (S → X) → CodecName → Result S DataTypeCodecError →
    Option X → Type 0
Supports seen name (Ok support) entry = entry ≡ Some (seen support)
Supports seen name (Err (UnsupportedDataType named)) entry = (entry ≡ None) × (named ≡ name)

-- one of four for whole numbers of 1, 2, 4 and 8 bytes, and none for those of other sizes
abbrev pub by_size : {X : Type 0} → X → X → X → X → ℕ → Option X
by_size one two four eight n =
    if n == 1 then Some one else if n == 2 then Some two else if n == 4 then Some four
    else if n == 8 then Some eight else None

abbrev pub at_least_one : ℕ → Option ℕ
at_least_one zero = None
at_least_one (suc n) = Some (suc n)

-- `bytes`: the size of a component in bytes, where a type has components
abbrev pub bytes_table : DataType → Option ℕ
bytes_table data_type = at_least_one (component_size data_type)

-- `bitround`: whole numbers of one size are rounded alike, signed or not
abbrev pub bitround_table : DataType → Option BitroundElementType
bitround_table (int_type n) = by_size bitround.Int8 bitround.Int16 bitround.Int32 bitround.Int64 n
bitround_table (uint_type n) = by_size bitround.Int8 bitround.Int16 bitround.Int32 bitround.Int64 n
bitround_table _ = None

abbrev pub bitround_size : BitroundElementType → ℕ
bitround_size bitround.Int8 = 1
bitround_size bitround.Int16 = 2
bitround_size bitround.Int32 = 4
bitround_size bitround.Int64 = 8

abbrev pub rounds_as : BitroundSupport → BitroundElementType
rounds_as support = support.element_type

-- `fixedscaleoffset`
abbrev pub fixedscaleoffset_table : DataType → Option FixedScaleOffsetElementType
fixedscaleoffset_table (int_type n) = by_size scaled.I8 scaled.I16 scaled.I32 scaled.I64 n
fixedscaleoffset_table (uint_type n) = by_size scaled.U8 scaled.U16 scaled.U32 scaled.U64 n
fixedscaleoffset_table _ = None

abbrev pub scaled_size : FixedScaleOffsetElementType → ℕ
scaled_size scaled.I8 = 1
scaled_size scaled.I16 = 2
scaled_size scaled.I32 = 4
scaled_size scaled.I64 = 8
scaled_size scaled.U8 = 1
scaled_size scaled.U16 = 2
scaled_size scaled.U32 = 4
scaled_size scaled.U64 = 8
scaled_size scaled.F32 = 4
scaled_size scaled.F64 = 8

abbrev pub scaled_float : FixedScaleOffsetElementType → FixedScaleOffsetFloatType
scaled_float scaled.I8 = float.F32
scaled_float scaled.I16 = float.F32
scaled_float scaled.I32 = float.F64
scaled_float scaled.I64 = float.F64
scaled_float scaled.U8 = float.F32
scaled_float scaled.U16 = float.F32
scaled_float scaled.U32 = float.F64
scaled_float scaled.U64 = float.F64
scaled_float scaled.F32 = float.F32
scaled_float scaled.F64 = float.F64

abbrev pub scales_as : FixedScaleOffsetSupport → FixedScaleOffsetElementType
scales_as support = support.element_type

-- `packbits`: how many bits a component has, how many components an element has, and whether they
-- are signed
pub record Packing : Type 0 where
  pub component_bits : ℕ
  pub components : ℕ
  pub is_signed : Bool

abbrev pub packing : Bool → ℕ → Packing
packing signed bits = record { component_bits = bits; components = 1; is_signed = signed }

abbrev pub packbits_table : DataType → Option Packing
packbits_table bool_type = Some (packing false 1)
packbits_table (int_type n) = option_map (packing true) (by_size 8 16 32 64 n)
packbits_table (uint_type n) = option_map (packing false) (by_size 8 16 32 64 n)
packbits_table _ = None

abbrev pub packs_as : PackBitsSupport → Packing
packs_as support = record {
  component_bits = support.component_size_bits;
  components = support.num_components;
  is_signed = support.sign_extension;
}

-- `pcodec`: the elements that are compressed, and how many of them an element is
pub record Compressing : Type 0 where
  pub element_type : PcodecElementType
  pub per_element : ℕ

abbrev pub one_of : PcodecElementType → Compressing
one_of kind = record { element_type = kind; per_element = 1 }

abbrev pub pcodec_by_size : PcodecElementType → PcodecElementType → PcodecElementType → ℕ →
    Option Compressing
pcodec_by_size two four eight n =
    if n == 2 then Some (one_of two) else if n == 4 then Some (one_of four)
    else if n == 8 then Some (one_of eight) else None

abbrev pub pcodec_table : DataType → Option Compressing
pcodec_table (int_type n) = pcodec_by_size pcodec.I16 pcodec.I32 pcodec.I64 n
pcodec_table (uint_type n) = pcodec_by_size pcodec.U16 pcodec.U32 pcodec.U64 n
pcodec_table _ = None

abbrev pub pcodec_size : PcodecElementType → ℕ
pcodec_size pcodec.U16 = 2
pcodec_size pcodec.U32 = 4
pcodec_size pcodec.U64 = 8
pcodec_size pcodec.I16 = 2
pcodec_size pcodec.I32 = 4
pcodec_size pcodec.I64 = 8
pcodec_size pcodec.F16 = 2
pcodec_size pcodec.F32 = 4
pcodec_size pcodec.F64 = 8

abbrev pub compresses_as : PcodecSupport → Compressing
compresses_as support = record {
  element_type = support.element_type;
  per_element = support.elements_per_element;
}

-- `zfp`
abbrev pub zfp_table : DataType → Option ZfpEncoding
zfp_table (int_type n) = by_size zfp.Int8 zfp.Int16 zfp.Int32 zfp.Int64 n
zfp_table (uint_type n) = by_size zfp.UInt8 zfp.UInt16 zfp.UInt32 zfp.UInt64 n
zfp_table _ = None

abbrev pub zfp_native : ZfpEncoding → ZfpNativeType
zfp_native zfp.Int8 = native.Int32
zfp_native zfp.Int16 = native.Int32
zfp_native zfp.Int32 = native.Int32
zfp_native zfp.Int64 = native.Int64
zfp_native zfp.UInt8 = native.Int32
zfp_native zfp.UInt16 = native.Int32
zfp_native zfp.UInt32 = native.Int32
zfp_native zfp.UInt64 = native.Int64
zfp_native zfp.Float32 = native.Float
zfp_native zfp.Float64 = native.Double

abbrev pub encodes_as : ZfpSupport → ZfpEncoding
encodes_as support = support.encoding
