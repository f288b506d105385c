-- How a data type supports the codec `bytes`.
use Rattle.std.specs.Prelude.{ℕ}
use Rattle.zarrs_data_type_bytes.specs.declared.codec_traits.bytes.BytesSupport.{BytesSupport}

-- the size of its components in bytes
abbrev pub component_of : BytesSupport → ℕ
component_of support = support.component_size
