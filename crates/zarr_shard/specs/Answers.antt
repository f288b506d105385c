-- What a run over a sharded document owes.
use Rattle.std.specs.Prelude.{◌≡◌, ℕ, List, [], Some}
use Rattle.zarr_model.specs.Prelude.{Rose}
use Rattle.zarr_cli_runs.specs.Ending.{Ending, IsOrMemory}
use Rattle.zarr_cli_runs.specs.Ending as end
use Rattle.zarr_cli.specs.Seen.{ProgramSeen}
use Rattle.zarr_cli.specs.Words.{Settings}
use Rattle.zarr_shard.specs.Says.{input_says, stops, IsOfInput}
use Rattle.zarr_shard.specs.Run.{ShardRun, IsOfRun, RunsLines, SameButSharded}

-- what a run owes over a source that tells its bytes, which are the input
pub record AnswersShard (settings : Settings) (input : List ℕ) (before now : ProgramSeen)
    (ending : Ending) : Type 0 where
  -- an ending by the input is the first that it calls for; and where the source did not fail, what
  -- it calls for is answered, but for want of memory
  pub cause : IsOfInput ending → input_says input ≡ stops ending
  pub exactly : (called_for : Ending) → input_says input ≡ stops called_for →
      ¬ Rose before.source.faults now.source.faults → IsOrMemory ending called_for
  -- replies, a front of them, a damaged chunk and a fault of the store come of a run in form alone
  pub in_form : IsOfRun ending → ShardRun input
  -- of which, unless the source failed, all is owed that a run of its lines owes: the replies of
  -- one plain array, which is left, by what the chunks of the sharded document mean
  pub lines : (run : ShardRun input) → ¬ (ending ≡ end.read_fault) →
      RunsLines run.document settings input before now ending
  -- done: the source has no byte left
  pub read_whole : ending ≡ end.done → now.source.left ≡ Some []
  -- after every end: all keys but those of key lines and of chunks that an accepted command changes
  -- are as before
  pub unchanged : SameButSharded input before.store.content now.store.content
