-- No error of a region of a shard is a fault of a store.
use Rattle.std.proofs.Common.{ℕ, true, List, length, Option, Some, None}
use Rattle.zarrs_codec_traits.specs.Prelude.{Region, Options, IsNoFault}
use Rattle.zarrs_codec_error.specs.declared.error.CodecError.{CodecError}
use Rattle.zarr_codecs_to_bytes.specs.Crc32cCodec.{number_no_fault}
use Rattle.zarr_shard_codec.specs.Index.{index_in, pair_at, part_of}
use Rattle.zarr_shard_codec.specs.NoFault.{range_error_no_fault, found_no_fault}
use Rattle.zarr_shard_codec.specs.Placing.{inner_number}
use Rattle.zarr_shard_codec.specs.Region.{own_part}
use Rattle.zarr_shard_codec.specs.ReadRegion.{region_says_by, says_from, region_says}
use Rattle.zarr_shard_codec.specs.declared.shard_codec.ShardCodec.{ShardCodec}

module _ (codec : ShardCodec) (under : Options) (region : Region) (value : List ℕ) (e : CodecError) where
  by_no_fault : (index : Option (List ℕ)) → region_says_by codec under region value index e → IsNoFault e
  by_no_fault None is = number_no_fault true value e is
  by_no_fault (Some index) says =
      let pair = pair_at index (inner_number codec says.chunk) in
      found_no_fault codec under (part_of value pair) (length value) pair e says.said

  from_no_fault : (part : Option (List ℕ)) → says_from codec under region value part e → IsNoFault e
  from_no_fault None is = range_error_no_fault _ e is
  from_no_fault (Some part) says = by_no_fault (index_in codec.shard.checked under.validate_checksums part) says

  pub region_no_fault : region_says codec under region value e → IsNoFault e
  region_no_fault says = from_no_fault (own_part codec value) says
