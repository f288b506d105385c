-- A run that is made from a number: its array, its summary, and what it leaves.
use Rattle.std.specs.Prelude.{◌≡◌, ℕ, ◌+◌, List, length, Option, Some, None}
use Rattle.std.specs.List.{sum_by}
use Rattle.zarr_model.specs.Prelude.{Element, Array, Options, Content, Command, Refusal, Description, refusal, replies}
use Rattle.zarr_model.specs.Prelude.{all_asks, all_puts, counted, LeavesArray, SeesNoDamage, Shown}
use Rattle.zarrs_storage.specs.Store.{ListsKeys}
use Rattle.zarr_cli_runs.specs.array.parts.Document.{describe}
use Rattle.zarr_array.specs.Stored.{StoresForAll}
use Rattle.zarr_cli_runs.specs.Commands.{MeansUndamaged, LeavesUndamaged}
use Rattle.zarr_cli_runs.specs.Document.{made_document}
use Rattle.zarr_cli_runs.specs.Summary.{summary_lines, summary_text}

-- the array that the commands are for
unfoldable pub made_array : Description
made_array = describe made_document

-- 1 for a refusal, and 0 for none
abbrev pub refusal_count : Option Refusal → ℕ
refusal_count None = 0
refusal_count (Some why) = 1

-- how many of some commands have a refusal
abbrev pub refused_among : Description → List Command → ℕ
refused_among description commands =
    sum_by (λ command. refusal_count (refusal description command)) commands

-- the text of a run: the summary of the replies from an array, and of how many keys a store holds
abbrev pub IsSummary : Description → List Command → Array Element → Content → List ℕ → Type 0
IsSummary description commands array store output = (keys : List (List ℕ)) × ListsKeys store keys
    × (output ≡ summary_text (replies description commands array) (length keys))

-- what a summary says over any store: its seven lines have these numbers
pub record CountsAnswers (description : Description) (commands : List Command) (store : Content)
    (output : List ℕ) : Type 0 where
  pub ok : ℕ
  pub done : ℕ
  pub elements : ℕ
  pub keys : List (List ℕ)
  pub text : List ℕ
  -- each command has its reply, and exactly those that have a refusal are refused
  pub each : ok + done + refused_among description commands ≡ length commands
  -- the keys are those of the store
  pub listed : ListsKeys store keys
  pub lines : output ≡ summary_lines ok done (refused_among description commands) elements
      (length keys) text

-- commands ran to their end over a store, and this was printed
pub record SumsUp (description : Description) (options : Options) (commands : List Command)
    (old new : Content) (output : List ℕ) : Type 0 where
  -- the summary of the replies of one plain array that the store meant without the damage that was
  -- not met, and of the keys at the end
  pub summed : (array : Array Element) → MeansUndamaged description options commands old array →
      IsSummary description commands array new output
  -- whatever the store meant, its lines are those of a summary
  pub numbers : CountsAnswers description commands new output
  -- the store is left as that array's, without damage and with it, and what was stored decodes so
  -- under all options
  pub mended : LeavesUndamaged description options commands old new
  pub left : LeavesArray description options commands old new
  pub stored : StoresForAll description options commands old new
  -- each value that was met decodes, but for reads of parts whose pieces are there
  pub undamaged : SeesNoDamage description options commands old

-- commands were run over a store, and this is their summary, at the cost of the calls they make
pub record SumsAll (description : Description) (options : Options) (commands : List Command)
    (before now : Shown) (text : List ℕ) : Type 0 where
  pub sums : SumsUp description options commands before.content now.content text
  pub asks : now.asks ≡ counted before.asks (all_asks description commands + 1)
  pub puts : now.puts ≡ counted before.puts (all_puts description commands)
