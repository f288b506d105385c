-- An array's codecs with the levels of a chunk, as contracts see them.
use Rattle.std.specs.Prelude.{◌==◌, length}
use Rattle.zarr_codec_chain.specs.Prelude.{count_of, Boxing}
use Rattle.zarr_codec_chain.specs.Chain.{ServesChunks, first_level, bottom_level, decoded}
use Rattle.zarr_codec_chain.specs.declared.levels.ChunkLevels.{ChunkLevels}
use Rattle.zarr_chunks.specs.Fetch.{chain_content, chunk_says}
use Rattle.zarr_chunks.specs.Regions.{Requesting, region_request, stored_request, given_bytes}
use Rattle.zarr_chunks.specs.Seen.{ChainSeen}
use Rattle.zarr_codecs.specs.Plain.{takes_by, request_by}
use Rattle.zarr_codecs.specs.Views.{plain_of}
use Rattle.zarr_codecs.specs.declared.codecs.BasicArrayToBytes.{BasicArrayToBytes}
use Rattle.zarr_array_open.specs.kinds.array_to_array.declared.array_to_array.BasicArrayToArray.{BasicArrayToArray}
use Rattle.zarr_array_open.specs.Chain.{BasicChain}
use Rattle.zarr_array_open.specs.Codecs.{array_meaning, array_unserved, list_meaning, list_unserved, list_says}
use Rattle.zarr_array_open.specs.Codecs.{bytes_meaning, bytes_codec_says}

-- the ranges that an array-to-bytes codec asks for
abbrev pub list_request : Requesting BasicArrayToBytes
list_request codec dims type box = request_by (plain_of codec) dims type box

-- the box below an array-to-array codec
abbrev pub box_below : Boxing BasicArrayToArray
box_below codec dims box = (array_meaning codec).box_below dims box

-- what calls on a chunk say of an array's codecs at these levels
abbrev pub basic_seen : BasicChain → ChunkLevels → ChainSeen
basic_seen chain levels = record {
  level = first_level levels;
  decode = decoded array_meaning list_meaning bytes_meaning chain levels;
  content = chain_content array_meaning list_meaning bytes_meaning chain levels;
  says = chunk_says list_says bytes_meaning bytes_codec_says chain levels;
  given = given_bytes bytes_meaning chain;
  request = region_request list_request box_below chain levels;
  stored = stored_request chain;
  bare = length chain.array_codecs.items == 0;
  serves = ServesChunks array_meaning array_unserved list_unserved chain levels;
  takes = takes_by (plain_of chain.to_bytes) (count_of (bottom_level levels).shape);
}
