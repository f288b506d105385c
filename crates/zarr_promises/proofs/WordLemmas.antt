-- Words that make no run from a number, or make one.
use Rattle.std.proofs.Common.{◌≡◌, ℕ, List, Option, Some, None, ◌⊎◌, inl, inr, refl}
use Rattle.zarr_model.specs.Prelude.{Options}
use Rattle.zarr_cli.specs.Words.{Settings, settings_of, MakesFrom, MakesNothing}

pub either_way : (words : List (List ℕ)) →
    MakesNothing words ⊎ ((number : ℕ) × (options : Options) × MakesFrom words number options)
either_way words = by_settings (settings_of words) refl
  where
    by_number : (settings : Settings) → settings_of words ≡ Some settings → (make : Option ℕ) → settings.make ≡ make →
        MakesNothing words ⊎ ((number : ℕ) × (options : Options) × MakesFrom words number options)
    by_number settings is None none = inl (inr (settings, (is, none)))
    by_number settings is (Some number) some = inr (number, settings.options, (settings, is, some, refl))

    by_settings : (found : Option Settings) → settings_of words ≡ found →
        MakesNothing words ⊎ ((number : ℕ) × (options : Options) × MakesFrom words number options)
    by_settings None is = inl (inl is)
    by_settings (Some settings) is = by_number settings is settings.make refl
