-- A run of lines: what it prints, what it costs, and what it leaves in the store.
use Rattle.std.specs.Prelude.{◌≡◌, ℕ, Bool, true, false, List, ◌++◌}
use Rattle.zarr_model.specs.Prelude.{Element, Array, Content, with_keys, Options, Shown, all_asks, all_puts, counted}
use Rattle.zarr_model.specs.Prelude.{Command, Description, replies, LeavesArray, SeesNoDamage, IsDamageSeen, SetsSome}
use Rattle.zarr_cli_runs.specs.lines.Text.{replies_text}
use Rattle.zarr_cli_runs.specs.array.Stored.{StoresForAll}
use Rattle.zarr_cli_runs.specs.array.parts.Document.{ArrayDocument, describe}
use Rattle.zarr_cli_runs.specs.Keys.{IsDump, IsDumpAsks}
use Rattle.zarr_cli_runs.specs.Commands.{TakesRun, IsChangedKey, MeansUndamaged, LeavesUndamaged, EndsAtDamage}
use Rattle.zarr_cli.specs.Words.{Settings}
use Rattle.zarr_cli.specs.Lines.{LinesRun, line_entries, IsKeyOf}

-- the text of a run: the replies to the commands from an array, and the final keys
abbrev pub IsOutput : Description → List Command → Array Element → Bool → Content → List ℕ → Type 0
IsOutput description commands array dump store output = (keys : List ℕ) × IsDump dump store keys
    × (output ≡ replies_text (replies description commands array) ++ keys)

-- commands ran to their end over a store, and this was printed
pub record Prints (description : Description) (settings : Settings) (commands : List Command)
    (old new : Content) (output : List ℕ) : Type 0 where
  -- the replies of one plain array that the store meant without the damage that was not met, and
  -- the final keys
  pub replied : (array : Array Element) →
      MeansUndamaged description settings.options commands old array →
      IsOutput description commands array settings.dump new output
  -- the store is left as that array's, without damage and with it, and what was stored decodes so
  -- under all options
  pub mended : LeavesUndamaged description settings.options commands old new
  pub left : LeavesArray description settings.options commands old new
  pub stored : StoresForAll description settings.options commands old new
  -- each value that was met decodes, but for reads of parts whose pieces are there
  pub undamaged : SeesNoDamage description settings.options commands old
  -- whatever the store meant, its final keys stand at the end
  pub dumped : (front keys : List ℕ) × IsDump settings.dump new keys × (output ≡ front ++ keys)

-- lines in form went through from their key lines on, and wrote what passes the test: all of their
-- output, or a front of it
abbrev pub LinesWent : Description → Settings → List (List ℕ) → Content → Content →
    (List ℕ → Type 0) → Type 0
LinesWent description settings lines old new wrote = (run : LinesRun description lines)
    × (output : List ℕ) × Prints description settings run.commands
    (with_keys (line_entries lines) old) new output × wrote output

-- a damaged chunk ended commands: the first that one of them saw, whose value stands
pub record EndedByDamage (once : Bool) (description : Description) (options : Options)
    (commands : List Command) (before now : Shown) (key : List ℕ) : Type 0 where
  pub seen : IsDamageSeen description options commands before.content key
  pub stands : now.content key ≡ before.content key
  pub cut : EndsAtDamage once description options commands before now key

-- how often a store was asked, how many bytes it handed out, and its writing calls
pub record Counts : Type 0 where
  pub asks : ℕ
  pub taken : ℕ
  pub puts : ℕ

abbrev pub counts_of : Shown → Counts
counts_of store = record { asks = store.asks; taken = store.taken; puts = store.puts }

-- what an array says that commands cost: whether one reading call fetches a chunk, and what all
-- cost that ran, over a store, by the counts before and after
pub record RunCosts : Type 1 where
  pub once : Bool
  pub ran : Options → List Command → Content → Counts → Counts → Type 0

-- a store that shows this content and these counts
abbrev pub shown_by : Content → Counts → Shown
shown_by store counts = record {
  content = store;
  faults = 0;
  asks = counts.asks;
  taken = counts.taken;
  puts = counts.puts;
}

-- An opened array's commands ask once for each chunk that an accepted read or write meets, and put
-- or erase once each chunk that an accepted write or erase changes; where the codec `bytes` is all
-- of the chain they take exactly the bytes that they need, where presence before each is known.
pub record CostsOpen (document : ArrayDocument) (options : Options) (commands : List Command)
    (store : Content) (before now : Counts) : Type 0 where
  pub asks : now.asks ≡ counted before.asks (all_asks (describe document) commands)
  pub puts : now.puts ≡ counted before.puts (all_puts (describe document) commands)
  pub taken : TakesRun document options commands (shown_by store before) (shown_by store now)

abbrev pub open_costs : ArrayDocument → RunCosts
open_costs document = record { once = true; ran = CostsOpen document }

-- commands and then a dump, where it was asked for, cost so much
pub record CostsAll (costs : RunCosts) (settings : Settings) (commands : List Command)
    (before now : Shown) : Type 0 where
  pub mid : Counts
  pub commanded : costs.ran settings.options commands before.content (counts_of before) mid
  pub more : ℕ
  pub dumped : IsDumpAsks settings.dump now.content more
  pub asks : now.asks ≡ counted mid.asks more
  pub taken : settings.dump ≡ false → now.taken ≡ mid.taken
  pub puts : now.puts ≡ mid.puts

-- some first key lines are set, and the next one perhaps
abbrev pub SetsPart : List (List ℕ × List ℕ) → Content → Content → Type 0
SetsPart entries old new = (n : ℕ) × SetsSome entries n old new

-- Each key that is neither a key line's nor that of a chunk that an accepted command writes or
-- erases holds what it held. Where a line is out of form each key does.
abbrev pub SameButLines : Description → List (List ℕ) → Content → Content → Type 0
SameButLines description lines old new = (key : List ℕ) →
    ((run : LinesRun description lines) → ¬ IsKeyOf (line_entries lines) key
    × ¬ IsChangedKey description run.commands key) →
    new key ≡ old key
