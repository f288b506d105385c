-- The keys of a store and the lines of them: what they are, and what listing them owes.
use Rattle.std.specs.Prelude.{◌≡◌, ℕ, ◌+◌, ◌≤◌, Bool, true, false, List, [], ◌++◌, length, map, unwrap_or, Result, IfErr}
use Rattle.std.specs.Cmp.Lexicographic.{slice_cmp}
use Rattle.std.specs.Ordering.{nat_cmp}
use Rattle.std.specs.FinMap.{is_sorted, find}
use Rattle.zarr_model.specs.Prelude.{Content, Shown, counted, Rose}
use Rattle.zarr_cli_lines.specs.Text.{entries_text}
use Rattle.zarrs_storage.specs.declared.store.StorageError.{StorageError}
use Rattle.zarrs_storage.specs.declared.store.StorageError.TheVariants.{Failed}
use Rattle.zarr_cli_runs.specs.declared.status.Status.{Status}
use Rattle.zarr_cli_runs.specs.declared.status.Status.TheVariants.{Store, OutOfMemory}
use Rattle.zarrs_storage.specs.declared.store.StorageError.TheVariants as Storage

-- these are all keys of a store with their values, in the order of the keys' bytes
pub record ListsStore (store : Content) (entries : List (List ℕ × List ℕ)) : Type 0 where
  pub in_order : is_sorted (slice_cmp nat_cmp) entries ≡ true
  pub held : (key : List ℕ) → find (slice_cmp nat_cmp) key entries ≡ store key

-- the lines of the final keys, or none where they were not asked for
abbrev pub IsDump : Bool → Content → List ℕ → Type 0
IsDump false store dump = dump ≡ []
IsDump true store dump =
    (entries : List (List ℕ × List ℕ)) × ListsStore store entries × (dump ≡ entries_text entries)

-- the reading calls of a dump: one for the list of keys, and one for each key
abbrev pub IsDumpAsks : Bool → Content → ℕ → Type 0
IsDumpAsks false store asks = asks ≡ 0
IsDumpAsks true store asks =
    (entries : List (List ℕ × List ℕ)) × ListsStore store entries × (asks ≡ length entries + 1)

-- the calls of a dump, counted onto those before
abbrev pub CountsDump : Bool → ℕ → Shown → Shown → Type 0
CountsDump dump earlier before now = (more : ℕ) × IsDumpAsks dump now.content more
    × (now.asks ≡ counted before.asks (earlier + more))

-- the lines of the keys were appended to a text where they were asked for, and nothing was written
-- to the store
pub record Dumps (dump : Bool) (before now : Shown) (old_text new_text : List ℕ) : Type 0 where
  pub text : (keys : List ℕ) × IsDump dump now.content keys × (new_text ≡ old_text ++ keys)
  pub same : now.content ≡ before.content
  pub asks : CountsDump dump 0 before now
  pub puts : now.puts ≡ before.puts

-- the status of a call of the store that gave no answer, and was given no ranges
abbrev pub storage_status : StorageError → Status
storage_status Failed = Store
storage_status (Storage.InvalidByteRange error) = Store
storage_status Storage.OutOfMemory = OutOfMemory

-- listing the keys with their values ended early
abbrev pub IsDumpFault : Shown → Shown → Status → Type 0
IsDumpFault before now Store = Rose before.faults now.faults
IsDumpFault before now OutOfMemory = Unit {0}
IsDumpFault _ _ _ = ⊥

-- a store was only read, and where that ended early it failed or memory ran out
pub record ReadsKeys {T : Type 0} (before now : Shown) (result : Result T Status) : Type 0 where
  pub same : now.content ≡ before.content
  pub puts : now.puts ≡ before.puts
  pub later : before.faults ≤ now.faults
  pub fault : IfErr result (IsDumpFault before now)

-- keys of a store with their values
abbrev pub entries_at : Content → List (List ℕ) → List (List ℕ × List ℕ)
entries_at store keys = map (λ key. (key, unwrap_or (store key) [])) keys
