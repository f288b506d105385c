-- What a run that ended at a place had met before it.
use Rattle.std.specs.Prelude.{◌≡◌, ◌<◌, ◌⊎◌, ℕ, true, false, List, take, slice_get, Option, Some, None, IsSome}
use Rattle.std.specs.List.{list_any}
use Rattle.zarr_model.specs.Prelude.{Options, Content, chunk_content, Command, Description, layout, command_chunks}
use Rattle.zarr_model.specs.Prelude.{erases_chunk, passes_over, SeesNoDamage}

-- before chunk k of command m no damage was seen: not by the commands before it, and of its chunks
-- before k each value decodes or may be passed over, if no accepted command before erases the chunk
pub record HasDecoded (description : Description) (options : Options) (commands : List Command)
    (store : Content) (m k : ℕ) : Type 0 where
  pub before : SeesNoDamage description options (take m commands) store
  pub first : (command : Command) (number : ℕ) (chunk : List ℕ) →
      slice_get commands m ≡ Some command → number < k →
      slice_get (command_chunks description command) number ≡ Some chunk →
      list_any (erases_chunk description chunk) (take m commands) ≡ false →
      IsSome (chunk_content (layout description options) store chunk)
      ⊎ (passes_over description options store command chunk ≡ true)

-- the same at a place, or where no command had begun
abbrev pub AreDecoded : Description → Options → List Command → Content → Option (ℕ × ℕ) → Type 0
AreDecoded description options commands store None = Unit {0}
AreDecoded description options commands store (Some place) =
    HasDecoded description options commands store place.0 place.1
