-- What the parts of a sharded array stand for.
use Rattle.std.specs.Prelude.{◌≡◌, map, Option, Some, None, Result, Ok, Err}
use Rattle.zarrs_metadata_values.specs.declared.error.MetadataError.{MetadataError}
use Rattle.zarrs_metadata_values.specs.declared.error.MetadataError.TheVariants as Read
use Rattle.zarr_basics.specs.Lengths.{nonzeros}
use Rattle.zarr_basics.specs.BasicGrid.{basic_shape}
use Rattle.zarr_codecs.specs.CodecForm.{form_of}
use Rattle.zarr_array_open.specs.Opening.{OpenRefusal}
use Rattle.zarr_array_open.specs.OpenError.{open_refusal_of}
use Rattle.zarr_array_open.specs.Parts.{documented_parts}
use Rattle.zarr_array_open.specs.declared.open_error.OpenError.{OpenError}
use Rattle.zarr_array_open.specs.declared.open_error.OpenError.TheVariants.{PluginCreateError, OutOfMemory}
use Rattle.zarr_array_open.specs.ShardDocument.{ShardForm, ShardDocument, sharded}
use Rattle.zarr_array_open.specs.ShardOpening.{ShardCodecs, DocumentCodec, sharding, other, ShardAnswer, opened}
use Rattle.zarr_array_open.specs.ShardOpening.{not_opened}
use Rattle.zarr_array_open.specs.declared.inner_codecs.InnerCodecs.{InnerCodecs}
use Rattle.zarr_array_open.specs.declared.inner_codecs.MadeCodec.{MadeCodec}
use Rattle.zarr_array_open.specs.declared.inner_codecs.MadeCodec.TheVariants as made
use Rattle.zarr_array_open.specs.declared.shard.Shard.{Shard}
use Rattle.zarr_array_open.specs.declared.shard_parts.ShardParts.{ShardParts}

-- the error of a configuration that is not read
abbrev pub unconfigured_as : MetadataError → OpenError
unconfigured_as Read.OutOfMemory = OutOfMemory
unconfigured_as Read.InvalidJson = PluginCreateError
unconfigured_as Read.FloatNumber = PluginCreateError
unconfigured_as Read.InvalidMetadata = PluginCreateError

-- codecs that are made
abbrev pub codecs_seen : InnerCodecs → ShardCodecs
codecs_seen shard = record {
  chunk_shape = shard.chunk_shape.items;
  inner_shape = nonzeros shard.inner_shape.items;
  codecs = map form_of shard.codecs.items;
  checked = shard.checked;
}

abbrev pub made_codec_seen : MadeCodec → DocumentCodec
made_codec_seen (made.Sharding shard) = sharding (codecs_seen shard)
made_codec_seen (made.Other codec) = other (form_of codec)

-- how a chunk keeps inner chunks
abbrev pub shard_form : Shard → ShardForm
shard_form shard = record { inner = documented_parts shard.inner; checked = shard.checked }

-- the document of a sharded array
abbrev pub sharded_document : ShardParts → ShardDocument
sharded_document array = sharded (basic_shape array.grid) (shard_form array.shard)

-- a text is refused by this, or memory ran out
abbrev pub IsShardRefusedBy : Option OpenRefusal → ShardAnswer → Type 0
IsShardRefusedBy None answer = Unit {0}
IsShardRefusedBy (Some why) answer = answer ≡ not_opened why

-- opening gave the array of the document, or the refusal of the text
abbrev pub OpensShardPartsAs : Result ShardParts OpenError → ShardAnswer → Type 0
OpensShardPartsAs (Ok array) answer = answer ≡ opened (sharded_document array)
OpensShardPartsAs (Err error) answer = IsShardRefusedBy (open_refusal_of error) answer
