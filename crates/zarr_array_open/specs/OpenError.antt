-- Errors of opening: why a document is refused, and errors of the crates below.
use Rattle.std.specs.Prelude.{◌≡◌, ℕ, List, codes, Option, Some, None}
use Rattle.zarrs_metadata_values.specs.declared.error.MetadataError.{MetadataError}
use Rattle.zarrs_metadata_values.specs.declared.error.MetadataError.TheVariants as Read
use Rattle.zarrs_plugin.specs.declared.error.PluginCreateError as Made
use Rattle.zarrs_plugin.specs.declared.error.PluginCreateError.TheVariants as Unmade
use Rattle.zarrs_codec_error.specs.declared.error.CodecError.{CodecError}
use Rattle.zarrs_codec_error.specs.declared.error.CodecError.TheVariants as codec
use Rattle.zarr_array_open.specs.Opening.{OpenRefusal, invalid_json, float_number, invalid_metadata}
use Rattle.zarr_array_open.specs.Opening.{unsupported_version, unsupported_field, plugin_unsupported, plugin_create}
use Rattle.zarr_array_open.specs.Opening.{invalid_fill, chain_order, unsupported_data_type, endianness_missing}
use Rattle.zarr_array_open.specs.Opening.{chunk_too_large, open_refusal_name, OpenAnswer, not_opened}
use Rattle.zarr_array_open.specs.declared.open_error.OpenError.{OpenError}
use Rattle.zarr_array_open.specs.declared.open_error.OpenError.TheVariants.{InvalidJson, FloatNumber, InvalidMetadata}
use Rattle.zarr_array_open.specs.declared.open_error.OpenError.TheVariants.{UnsupportedVersion, UnsupportedField}
use Rattle.zarr_array_open.specs.declared.open_error.OpenError.TheVariants.{PluginUnsupportedError, PluginCreateError}
use Rattle.zarr_array_open.specs.declared.open_error.OpenError.TheVariants.{DataTypeFillValueMetadataError, ChainOrder}
use Rattle.zarr_array_open.specs.declared.open_error.OpenError.TheVariants.{UnsupportedDataTypeCodec, EndiannessMissing}
use Rattle.zarr_array_open.specs.declared.open_error.OpenError.TheVariants.{ChunkTooLarge, OutOfMemory}

-- why a document is refused, but for want of memory
abbrev pub open_refusal_of : OpenError → Option OpenRefusal
open_refusal_of InvalidJson = Some invalid_json
open_refusal_of FloatNumber = Some float_number
open_refusal_of InvalidMetadata = Some invalid_metadata
open_refusal_of UnsupportedVersion = Some unsupported_version
open_refusal_of UnsupportedField = Some unsupported_field
open_refusal_of PluginUnsupportedError = Some plugin_unsupported
open_refusal_of PluginCreateError = Some plugin_create
open_refusal_of DataTypeFillValueMetadataError = Some invalid_fill
open_refusal_of ChainOrder = Some chain_order
open_refusal_of UnsupportedDataTypeCodec = Some unsupported_data_type
open_refusal_of EndiannessMissing = Some endianness_missing
open_refusal_of ChunkTooLarge = Some chunk_too_large
open_refusal_of OutOfMemory = None

-- the name of an error of opening
abbrev pub refusal_or_memory : Option OpenRefusal → List ℕ
refusal_or_memory None = codes "OutOfMemory"
refusal_or_memory (Some why) = open_refusal_name why

abbrev pub open_error_name : OpenError → List ℕ
open_error_name error = refusal_or_memory (open_refusal_of error)

-- a text is refused by this, or memory ran out
abbrev pub IsRefusedBy : Option OpenRefusal → OpenAnswer → Type 0
IsRefusedBy None answer = Unit {0}
IsRefusedBy (Some why) answer = answer ≡ not_opened why

-- a document that is not read
abbrev pub unread_as : MetadataError → OpenError
unread_as Read.InvalidJson = InvalidJson
unread_as Read.FloatNumber = FloatNumber
unread_as Read.InvalidMetadata = InvalidMetadata
unread_as Read.OutOfMemory = OutOfMemory

-- an extension that is not made
abbrev pub open_unmade_as : Made.PluginCreateError → OpenError
open_unmade_as (Unmade.Unsupported error) = PluginUnsupportedError
open_unmade_as Unmade.Config = PluginCreateError
open_unmade_as Unmade.Other = PluginCreateError
open_unmade_as Unmade.OutOfMemory = OutOfMemory

-- a codec that does not serve what comes to it
abbrev pub unserved_as : CodecError → OpenError
unserved_as codec.OutOfMemory = OutOfMemory
unserved_as codec.EndiannessMissing = EndiannessMissing
unserved_as _ = UnsupportedDataTypeCodec
