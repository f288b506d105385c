-- Commands that ran.
use Rattle.std.proofs.Common.{◌≡◌, ℕ, Bool, List, map, Option, Some, None, Ok, Err, refl}
use Rattle.zarr_model.specs.Prelude.{Rose, IsHonest, Command, Description, Answer}
use Rattle.zarr_model.specs.Prelude.{layout, all_puts, counted, LeavesKeys, ServesArray, RefusesRight, SeesNoDamage}
use Rattle.zarr_model.specs.Prelude.{AnswersUndamaged, RanOver, Shown, Options}
use Rattle.zarr_array.specs.boxes.Command.{answer_of}
use Rattle.zarr_array.specs.Session.{FailsAt, FailsBy}
use Rattle.zarr_array.specs.Costs.{CostsOn}
use Rattle.zarr_array.specs.declared.error.SessionError.{SessionError}
use Rattle.zarr_array.specs.Access.{Costs, by_chunk, by_part, is_once}
use Rattle.zarr_array.specs.Stored.{StoresForAll}
use Rattle.zarr_array.specs.boxes.declared.command.Reply.{Reply}
use Rattle.zarr_array.specs.declared.command_error.SessionErrorKind.{SessionErrorKind}
use Rattle.zarr_array.specs.declared.command_error.SessionErrorKind.TheVariants.{NotOpened, ChunkDecode}
use Rattle.zarr_cli_runs.specs.Commands.{CostsRun, IsRunFault, session_status, RepliedBy}
use Rattle.zarr_cli_runs.specs.declared.status.Status.{Status}
use Rattle.zarr_cli_runs.specs.declared.status.Status.TheVariants.{Done, BadWords, BadInput, Document, Chunk, Store}
use Rattle.zarr_cli_runs.specs.declared.status.Status.TheVariants.{Read, Write, TooLong, OutOfMemory}
use Rattle.zarr_cli_runs.proofs.BetweenLaws.{noticed_seen}
use Rattle.zarr_array.specs.declared.command_error.SessionErrorKind.TheVariants as Kind
use Rattle.zarr_array.proofs.RunsLaws.{wholly_honest}

pub replied_by :
    (array : Description) (options : Options) (commands : List Command) (before now : Shown) (held : List Reply) →
    AnswersUndamaged array options commands before.content (map answer_of held) →
    RanOver array options commands before.content now.content (map answer_of held) →
    (IsHonest (layout array options) before.content →
    ServesArray array options commands before.content now.content (map answer_of held)) →
    StoresForAll array options commands before.content now.content →
    LeavesKeys array options commands before.content now.content → SeesNoDamage array options commands before.content →
    RefusesRight array commands (map answer_of held) →
    now.puts ≡ counted before.puts (all_puts array commands) → RepliedBy array options commands before now held
replied_by array options commands before now held answers over serves stored keys undamaged refusals puts = record {
  matched = λ meant means. answers means.0 meant means.1;
  mended = record { keeps = over.keeps; whole = over.whole; keys = keys };
  left = record {
    array_left = λ meant means. (serves means.honest).left.array_left meant means;
    whole_chunks =
        λ meant means. (serves (wholly_honest array options before.content meant means)).left.whole_chunks meant means;
    presence = λ meant chunk means is_chunk.
        (serves (wholly_honest array options before.content meant means)).left.presence meant chunk means is_chunk;
    keys = keys;
  };
  stored = stored;
  undamaged = undamaged;
  refusals = refusals;
  puts = puts;
}

-- what commands cost does not depend on their answers
pub costs_so : (costs : Costs) (description : Description) (options : Options) (commands : List Command)
    (before now : Shown) (answers : List Answer) → CostsOn costs description options commands before now (Ok answers) →
    CostsRun costs description options commands before now
costs_so (by_chunk alone) description options commands before now answers paid =
    record { asks = paid.asks; stopped = tt; taken = paid.taken }
costs_so (by_part cost) description options commands before now answers paid = paid

-- an error has the reading calls up to its place, where one call fetches a chunk
pub failed_by : (costs : Costs) (description : Description) (options : Options) (commands : List Command)
    (before now : Shown) (error : SessionError) → FailsAt description options commands before now error.at error.kind →
    CostsOn costs description options commands before now (Err error) →
    FailsBy (is_once costs) description options commands before now error.at error.kind
failed_by (by_chunk alone) description options commands before now error fails paid =
    record { on = fails; asks = λ told. paid.stopped }
failed_by (by_part cost) description options commands before now error fails paid =
    record { on = fails; asks = λ told. cc }

-- why commands ended early
pub run_fault : (once : Bool) (description : Description) (options : Options) (commands : List Command)
    (before now : Shown) (at : Option (ℕ × ℕ)) (kind : SessionErrorKind) →
    FailsBy once description options commands before now at kind →
    IsRunFault once description options commands before now (session_status kind)
run_fault once description options commands before now at (NotOpened error) fails = absurd fails.on.cause
run_fault once description options commands before now None (ChunkDecode key error) fails = absurd fails.on.cause.0
run_fault once description options commands before now (Some place) (ChunkDecode key error) fails = (
  noticed_seen description options commands before.content now.content key place.0 place.1 fails.on.cause.0
      fails.on.cause.1,
  fails.on.cause.0.6,
  (Some place, ChunkDecode key error, refl, fails),
)
run_fault once description options commands before now at Kind.Store fails = fails.on.cause.0
run_fault once description options commands before now at Kind.OutOfMemory fails = tt

-- where no damage is seen, and the store does not fail, memory alone is wanting
only_memory : (once : Bool) (description : Description) (options : Options) (commands : List Command)
    (before now : Shown) (status : Status) → IsRunFault once description options commands before now status →
    SeesNoDamage description options commands before.content → ¬ Rose before.faults now.faults → status ≡ OutOfMemory
only_memory once description options commands before now (Chunk key) fault unseen calm =
    absurd (unseen.no_key key fault.0)
only_memory once description options commands before now Store fault unseen calm = absurd (calm fault)
only_memory once description options commands before now OutOfMemory fault unseen calm = refl
only_memory once description options commands before now Done fault unseen calm = absurd fault
only_memory once description options commands before now BadWords fault unseen calm = absurd fault
only_memory once description options commands before now (BadInput line) fault unseen calm = absurd fault
only_memory once description options commands before now (Document error) fault unseen calm = absurd fault
only_memory once description options commands before now Read fault unseen calm = absurd fault
only_memory once description options commands before now Write fault unseen calm = absurd fault
only_memory once description options commands before now TooLong fault unseen calm = absurd fault

pub run_memory : (once : Bool) (description : Description) (options : Options) (commands : List Command)
    (before now : Shown) (at : Option (ℕ × ℕ)) (kind : SessionErrorKind) →
    FailsBy once description options commands before now at kind → SeesNoDamage description options commands
    before.content → ¬ Rose before.faults now.faults → session_status kind ≡ OutOfMemory
run_memory once description options commands before now at kind fails =
    only_memory once description options commands before now (session_status kind)
    (run_fault once description options commands before now at kind fails)
