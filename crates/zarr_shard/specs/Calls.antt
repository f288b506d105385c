-- What commands on a sharded array cost, and which errors tell of its chunks.
use Rattle.std.specs.Prelude.{List, Option}
use Rattle.zarr_model.specs.Prelude.{Region, Options, Shown, Command}
use Rattle.zarr_array.specs.Access.{by_part}
use Rattle.zarr_array.specs.Tells.{TellsOfSome}
use Rattle.zarr_array.specs.declared.command_error.SessionErrorKind.{SessionErrorKind}
use Rattle.zarr_array.specs.Costs.{CostsOn}
use Rattle.zarr_array.specs.Ended.{Ended}
use Rattle.zarr_array_open.specs.ShardDocument.{ShardDocument}
use Rattle.zarr_shard.specs.Access.{shard_cost, shard_chunk_says}
use Rattle.zarr_shard.specs.ShardArray.{describe_sharded, described_shards}
use Rattle.zarr_shard.specs.declared.array.ShardArray.{ShardArray}

-- commands that ran, of which all accepted ones read, cost what reading by parts costs
abbrev pub CostsOfReads : ShardDocument → Options → List Command → Shown → Shown → Ended → Type 0
CostsOfReads document options commands before now ended =
    CostsOn (by_part (shard_cost document)) (describe_sharded document) options commands before now
    ended

-- an error of a command, which may read a region, tells why the value of a chunk does not decode
abbrev pub TellsOfShards : ShardArray → Option Region → Options → Shown → SessionErrorKind → Type 0
TellsOfShards array region options now kind =
    TellsOfSome region (described_shards array) (shard_chunk_says array.codec) options now kind
