-- What the commands of a run cost.
use Rattle.std.specs.Prelude.{◌≡◌, false, List}
use Rattle.zarr_model.specs.Prelude.{Options, Content, Command, all_puts, counted}
use Rattle.zarr_array.specs.Costs.{read_cost, OnlyReads}
use Rattle.zarr_array.specs.Pays.{Pays, costs_of}
use Rattle.zarr_cli.specs.Run.{RunCosts, Counts, shown_by}
use Rattle.zarr_array_open.specs.ShardDocument.{ShardDocument}
use Rattle.zarr_shard.specs.Access.{shard_cost}
use Rattle.zarr_shard.specs.ShardArray.{describe_sharded}

-- Commands put or erase once each chunk that an accepted write or erase changes; and where all that
-- are accepted read, they ask and take what reading the regions of the chunks costs that they meet.
pub record CostsShard (document : ShardDocument) (options : Options) (commands : List Command)
    (store : Content) (before now : Counts) : Type 0 where
  pub puts : now.puts ≡ counted before.puts (all_puts (describe_sharded document) commands)
  pub reads : OnlyReads (describe_sharded document) commands
      → Pays (costs_of (read_cost (shard_cost document)
      (describe_sharded document) options store) commands) (shown_by store before)
      (shown_by store now)

abbrev pub shard_costs : ShardDocument → RunCosts
shard_costs document = record { once = false; ran = CostsShard document }
