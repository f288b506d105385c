-- What an honest store has to do with damage.
use Rattle.std.specs.Prelude.{List}
use Rattle.zarr_model.specs.Prelude.{Element, Array, Options, Content, IsHonest, Means, Command, Description, layout}
use Rattle.zarr_model.specs.Prelude.{SeesNoDamage}
use Rattle.zarr_cli_runs.specs.Commands.{MeansUndamaged}

-- commands over an honest store see no damage, and the array that it means is the one that it means
-- without its damage
pub record IsWithoutDamage (description : Description) (options : Options)
    (commands : List Command) (store : Content) : Type 0 where
  pub unseen : IsHonest (layout description options) store →
      SeesNoDamage description options commands store
  pub alike : (array : Array Element) → Means (layout description options) store array →
      MeansUndamaged description options commands store array

abbrev pub HonestIsWithoutDamage : Type 0
HonestIsWithoutDamage = (description : Description) (options : Options)
    (commands : List Command) (store : Content) →
    IsWithoutDamage description options commands store
