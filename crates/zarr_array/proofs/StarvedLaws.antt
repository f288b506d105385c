-- A chunk was not fetched: memory ran out, or what was asked for goes by another word.
use Rattle.std.proofs.Common.{◌≡◌, ℕ, List, Option, refl, subst, arith}
use Rattle.zarr_model.specs.Prelude.{Region, Options, Shown}
use Rattle.zarr_array.specs.Access.{Access}
use Rattle.zarr_array.specs.Fetch.{NotFetched}
use Rattle.zarr_array.specs.declared.command_error.SessionErrorKind.{SessionErrorKind}
use Rattle.zarr_array.specs.declared.command_error.SessionErrorKind.TheVariants.{OutOfMemory}
use Rattle.zarr_array.proofs.PaysLaws.{pays_nothing}

module _ (asked : Option Region) (array : Access) (options : Options) (chunk : List ℕ) where
  -- memory ran out before it
  pub starved_before : (store : Shown) → NotFetched asked array options chunk store store OutOfMemory
  starved_before store = record {
    same = λ key. refl;
    paid = pays_nothing array.costs store store refl;
    puts = refl;
    later = omega arith;
    failed = tt;
    told = tt;
  }

  pub asked_as : (other : Option Region) → asked ≡ other → (before now : Shown) (kind : SessionErrorKind) →
      NotFetched asked array options chunk before now kind → NotFetched other array options chunk before now kind
  asked_as other same before now kind fails = subst (λ a. NotFetched a array options chunk before now kind) same fails
