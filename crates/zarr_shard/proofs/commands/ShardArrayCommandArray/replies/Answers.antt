use Rattle.std.proofs.Common.{map}
use Rattle.zarr_array.specs.Access.{by_part}
use Rattle.zarr_array.specs.boxes.Command.{command_of}
use Rattle.zarr_cli_runs.specs.Commands.{CostsRun}
use Rattle.zarrs_codec_traits.specs.Views.{options_of}
use Rattle.zarr_cli.proofs.RunLemmas.{array_did}
use Rattle.zarr_shard.specs.Access.{shard_cost}
use Rattle.zarr_shard.specs.Costs.{shard_costs}
use Rattle.zarr_shard.specs.ShardArray.{documented_shards, described_shards}
use Rattle.zarr_shard.proofs.commands.ShardArrayCommandArray.replies.Goals as goal

pub returns-clause-did : goal.returns-clause-did
returns-clause-did g c =
    let array = c.args.self.now in
    let options = options_of c.args.options.now in
    let commands = map command_of c.args.commands.now in
    let before = g.S.Store.shown c.args.store.now in
    let now = g.S.Store.shown c.replies_of.new.store in
    array_did (shard_costs (documented_shards array)) (described_shards array) options commands before now
    (CostsRun (by_part (shard_cost (documented_shards array))) (described_shards array) options commands before now)
    (λ paid puts.
    record { puts = puts; reads = λ reads. record { asks = (paid reads).asks; taken = (paid reads).taken } })
    c.replies_of.result c.replies_of.ensures.costs c.replies_of.ensures.did
