-- A pair of the code as one of the definitions.
use Rattle.zarr_shard_codec.specs.Index.{Pair as Model}
use Rattle.zarr_shard_codec.specs.declared.pair.Pair.{Pair}

abbrev pub pair_seen : Pair → Model
pair_seen pair = record { offset = pair.offset; size = pair.size }
