-- The codecs that documents name.
use Rattle.std.specs.Prelude.{ℕ, zero, suc, true, false, if◌then◌else◌, Option, Some, None, option_map, Result, Ok, Err}
use Rattle.serde_json.specs.Data.{object, Members, depth}
use Rattle.zarrs_codec_traits.specs.Prelude.{is_none_or_empty, Extension, or_config}
use Rattle.zarrs_plugin.specs.Making.{Unmade, unsupported, config, Makes}
use Rattle.zarrs_plugin.specs.Registry.{Names, find}
use Rattle.zarrs_plugin.specs.declared.error.PluginCreateError.{PluginCreateError}
use Rattle.zarrs_plugin.specs.declared.error.PluginKind.TheVariants as kinds
use Rattle.zarr_codecs_to_bytes.specs.BytesCodec.{byte_order_in}
use Rattle.zarr_codecs_array_to_array.specs.Offset.{offset_in}
use Rattle.zarr_codecs_array_to_array.specs.Configuration.{order_in as dimensions_in}
use Rattle.zarr_codecs_array_to_array.specs.ArrayToArray.{ArrayToArray, offset, transpose}
use Rattle.zarr_codecs_array_to_array.specs.Views.{array_form}
use Rattle.zarr_codecs_array_to_array.specs.declared.array_to_array.BasicArrayToArray.{BasicArrayToArray}
use Rattle.zarr_codecs.specs.Plain.{Plain, plain_bytes, plain_vlen, plain_optional}
use Rattle.zarr_codecs.specs.Inner.{inner_in}
use Rattle.zarr_codecs.specs.Views.{plain_of}
use Rattle.zarr_codecs.specs.declared.codecs.BasicArrayToBytes.{BasicArrayToBytes}
use Rattle.zarrs_codec_traits.specs.declared.codec.Codec.{Codec}
use Rattle.zarrs_codec_traits.specs.declared.codec.Codec.TheVariants as code
use Rattle.zarr_codecs.specs.BytesToBytes.{BytesToBytes, checksum, byte_form}
use Rattle.zarr_codecs.specs.declared.bytes_to_bytes.BasicBytesToBytes.{BasicBytesToBytes}
use Rattle.zarr_codecs.specs.declared.codec_kind.CodecKind.{CodecKind}
use Rattle.zarr_codecs.specs.declared.codec_kind.CodecKind.TheVariants as kind

-- a codec by name, of each of the three types
pub data CodecForm : Type 0 where
  array_codec : ArrayToArray → CodecForm
  to_bytes : Plain → CodecForm
  byte_codec : BytesToBytes → CodecForm

abbrev pub form_of : Codec BasicArrayToArray BasicArrayToBytes BasicBytesToBytes → CodecForm
form_of (code.ArrayToArray codec) = array_codec (array_form codec)
form_of (code.ArrayToBytes codec) = to_bytes (plain_of codec)
form_of (code.BytesToBytes codec) = byte_codec (byte_form codec)

-- the configurations of `bytes`, of an offset and of an order of dimensions, and of a codec that
-- has none, or an empty one
abbrev pub bytes_form : Option Members → Result CodecForm Unmade
bytes_form configuration =
    or_config (option_map (λ order. to_bytes (plain_bytes order)) (byte_order_in configuration))

abbrev pub offset_form : Option Members → Result CodecForm Unmade
offset_form configuration =
    or_config (option_map (λ number. array_codec (offset number)) (offset_in configuration))

abbrev pub transpose_form : Option Members → Result CodecForm Unmade
transpose_form configuration =
    or_config (option_map (λ order. array_codec (transpose order)) (dimensions_in configuration))

abbrev pub if_none : CodecForm → Option Members → Result CodecForm Unmade
if_none form configuration =
    or_config (if is_none_or_empty configuration then Some form else None)

-- optional elements over the codec inside, which has to be an array-to-bytes one
abbrev pub optional_over : Result CodecForm Unmade → Result CodecForm Unmade
optional_over (Ok (to_bytes inner)) = Ok (to_bytes (plain_optional inner))
optional_over (Ok (array_codec codec)) = Err config
optional_over (Ok (byte_codec codec)) = Err config
optional_over (Err why) = Err why

abbrev pub optional_form_by : (Extension → Result CodecForm Unmade) → Option Extension
    → Result CodecForm Unmade
optional_form_by made None = Err config
optional_form_by made (Some inner) = optional_over (made inner)

-- the configurations of each kind, with the codecs that they say; the codec inside another is made
-- by its own name
abbrev pub kind_form : (Extension → Result CodecForm Unmade) → CodecKind → Option Members
    → Result CodecForm Unmade
kind_form made kind.Bytes configuration = bytes_form configuration
kind_form made kind.VlenUtf8 configuration = if_none (to_bytes (plain_vlen true)) configuration
kind_form made kind.VlenBytes configuration = if_none (to_bytes (plain_vlen false)) configuration
kind_form made kind.Optional configuration = optional_form_by made (inner_in configuration)
kind_form made kind.Offset configuration = offset_form configuration
kind_form made kind.Transpose configuration = transpose_form configuration
kind_form made kind.Sha256 configuration = if_none (byte_codec checksum) configuration

abbrev pub form_by : (Extension → Result CodecForm Unmade) → Option CodecKind → Extension
    → Result CodecForm Unmade
form_by made None e = Err (unsupported e.name)
form_by made (Some kind) e = kind_form made kind e.configuration

-- how deep a configuration nests
abbrev pub nesting : Option Members → ℕ
nesting None = 0
nesting (Some ms) = depth (object ms)

-- the codec of an extension with fewer levels of configurations than this
abbrev pub form_within : ℕ → Names CodecKind → Extension → Result CodecForm Unmade
form_within zero names e = Err config
form_within (suc levels) names e = form_by (form_within levels names) (find e.name names) e

-- the codec of an extension, by the names of a registry
abbrev pub codec_named : Names CodecKind → Extension → Result CodecForm Unmade
codec_named names e = form_within (suc (nesting e.configuration)) names e

-- the codec of a kind with a configuration
abbrev pub codec_form : Names CodecKind → CodecKind → Option Members → Result CodecForm Unmade
codec_form names kind configuration =
    kind_form (form_within (nesting configuration) names) kind configuration

-- the codec that is said was made, or why it was refused
abbrev pub MakesForm :
    Result (Codec BasicArrayToArray BasicArrayToBytes BasicBytesToBytes) PluginCreateError
    → Result CodecForm Unmade → Type 0
MakesForm result form = Makes kinds.Codec form_of result form
