-- The configuration of the codec of shards, as it is read.
use Rattle.zarrs_metadata_parts.specs.MetadataV3.{extensions_seen}
use Rattle.zarr_basics.specs.Lengths.{nonzeros}
use Rattle.zarr_array_open.specs.Sharding.{Sharding}
use Rattle.zarr_array_open.specs.declared.configuration.ShardingConfiguration.{ShardingConfiguration}

-- the shape of the inner chunks, their codecs, and whether the index has a checksum
abbrev pub sharding_seen : ShardingConfiguration → Sharding
sharding_seen read = record {
  inner_shape = nonzeros read.inner_shape.items;
  codecs = extensions_seen read.codecs.items;
  checked = read.checked;
}
