-- Which data types an offset is added to.
use Rattle.std.specs.Prelude.{Option, Some, None, option_and_then}
use Rattle.zarr_model.specs.Element.{DataType, bool_type, int_type, uint_type, raw_type, string_type, bytes_type}
use Rattle.zarr_model.specs.Element.{optional_type}
use Rattle.zarrs_data_type_bytes.specs.declared.codec_support.CodecName.TheVariants as names
use Rattle.zarrs_codec_traits.specs.Errors.{Unserved, unsupported}

-- whole numbers are served
abbrev pub offset_type_unserved : DataType → Option Unserved
offset_type_unserved (int_type n) = None
offset_type_unserved (uint_type n) = None
offset_type_unserved bool_type = Some (unsupported names.Offset)
offset_type_unserved (raw_type n) = Some (unsupported names.Offset)
offset_type_unserved string_type = Some (unsupported names.Offset)
offset_type_unserved bytes_type = Some (unsupported names.Offset)
offset_type_unserved (optional_type inner) = Some (unsupported names.Offset)

-- why a call with this type, or with none, is refused
abbrev pub offset_unserved : Option DataType → Option Unserved
offset_unserved data_type = option_and_then offset_type_unserved data_type
