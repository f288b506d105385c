-- What comes of making an extension from its metadata.
use Rattle.std.specs.Prelude.{◌≡◌, ℕ, List, Result, Ok, Err}
use Rattle.zarrs_plugin.specs.Error.{unsupported_seen}
use Rattle.zarrs_plugin.specs.declared.error.PluginKind.{PluginKind}
use Rattle.zarrs_plugin.specs.declared.error.PluginCreateError.{PluginCreateError}
use Rattle.zarrs_plugin.specs.declared.error.PluginCreateError.TheVariants.{Unsupported, Config, Other, OutOfMemory}

-- why none is made: its name is not known, its configuration is not of the form, or it asks for
-- what its kind does not have
pub data Unmade : Type 0 where
  unsupported : List ℕ → Unmade
  config : Unmade
  other : Unmade

-- an error says this of an extension of a kind; memory may run out of each
abbrev pub IsUnmade : {Y : Type 0} → PluginKind → PluginCreateError → Result Y Unmade → Type 0
IsUnmade kind (Unsupported error) (Err (unsupported name)) =
    unsupported_seen error ≡ record { name = name; kind = kind }
IsUnmade kind Config (Err config) = Unit {0}
IsUnmade kind Other (Err other) = Unit {0}
IsUnmade kind OutOfMemory expected = Unit {0}
IsUnmade kind _ _ = ⊥

-- what was made, as it is seen, is what is expected, or it was refused so
abbrev pub Makes : {X Y : Type 0} → PluginKind → (X → Y) → Result X PluginCreateError
    → Result Y Unmade → Type 0
Makes kind seen (Ok made) expected = expected ≡ Ok (seen made)
Makes kind seen (Err error) expected = IsUnmade kind error expected
