-- A store while its key lines are set, and what a run that sets them first leaves.
use Rattle.std.specs.Prelude.{◌≡◌, ◌≤◌, ◌⊎◌, ℕ, Bool, List, take, length, slice_get, Some, None}
use Rattle.zarr_model.specs.Codec.{Options}
use Rattle.zarr_model.specs.Store.{Content, with_keys}
use Rattle.zarr_model.specs.Command.{Command, Description}
use Rattle.zarr_model.specs.Session.{LeavesArray}
use Rattle.zarr_model.specs.Causes.{IsLeftAt}

-- the first n key lines are set, the next one's key is old, new or absent, and nothing else changed
pub record SetsSome (entries : List (List ℕ × List ℕ)) (n : ℕ) (old new : Content) : Type 0 where
  pub few : n ≤ length entries
  pub next : (entry : List ℕ × List ℕ) → slice_get entries n ≡ Some entry →
      (new entry.0 ≡ with_keys (take n entries) old entry.0)
      ⊎ ((new entry.0 ≡ Some entry.1) ⊎ (new entry.0 ≡ None))
  pub others : (key : List ℕ) →
      ((entry : List ℕ × List ℕ) → slice_get entries n ≡ Some entry → ¬ (key ≡ entry.0)) →
      new key ≡ with_keys (take n entries) old key

-- a run that ended by the store or for want of memory: while its key lines were set, at a place of
-- its commands, or behind them
abbrev pub EndsBetween : Description → Options → List (List ℕ × List ℕ) → List Command → Bool →
    Content → Content → Type 0
EndsBetween description options entries commands by_store old new =
    ((n : ℕ) × SetsSome entries n old new)
    ⊎ (((m : ℕ) × (k : ℕ) × IsLeftAt description options commands (with_keys entries old) new
    by_store (Some (m, k)))
    ⊎ LeavesArray description options commands (with_keys entries old) new)
