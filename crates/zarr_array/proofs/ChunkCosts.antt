-- Where one call fetches a chunk, commands cost so.
use Rattle.std.proofs.Common.{Bool, List}
use Rattle.zarr_model.specs.Prelude.{Options, Shown, Command, Description}
use Rattle.zarr_array.specs.Access.{by_chunk}
use Rattle.zarr_array.specs.Costs.{CostsOn}
use Rattle.zarr_array.specs.Ended.{Ended}
use Rattle.zarr_array.specs.Runs.{RunsOn, Runs}

pub runs_by_chunk : (alone : Bool) (array : Description) (options : Options) (commands : List Command)
    (before now : Shown) (ended : Ended) → RunsOn array options commands before now ended →
    CostsOn (by_chunk alone) array options commands before now ended → Runs array options commands before now ended
runs_by_chunk alone array options commands before now ended runs costs =
    record { on = runs; asks = costs.asks; stopped = costs.stopped }

pub ruleset by_chunks = (runs_by_chunk)
