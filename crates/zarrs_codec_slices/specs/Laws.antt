-- Laws of elements that are picked and replaced, and of equality.
use Rattle.std.specs.Prelude.{◌≡◌, ◌↔◌, ℕ, List, true, Some, length, map, get_or}
use Rattle.zarr_model.specs.Element.{Element, null, Kind, optional}
use Rattle.zarr_model.specs.ArrayBytes.{ArrayBytes, optional_bytes, meaning}
use Rattle.zarrs_codec_slices.specs.Picking.{AllBelow, picked, replaced, last_given}
use Rattle.zarrs_codec_slices.specs.Same.{same_optional, IsSame}

-- the elements at places of an updated list are the last ones given there, else the old ones
abbrev pub ExtractsLast : Type 0
ExtractsLast = (indices places : List ℕ) (given list : List Element)
    → AllBelow (length list) places → picked null places (replaced indices given list)
    ≡ map (λ place. last_given place indices given (get_or list place null)) places

-- the test of optional array bytes is equality
abbrev pub IsTest : Type 0
IsTest = (m : List ℕ) (a : ArrayBytes) (k : List ℕ) (b : ArrayBytes)
    → (same_optional m a k b ≡ true) ↔ IsSame m a k b

-- equality is an equivalence
pub record IsEquivalence : Type 0 where
  pub same : (m : List ℕ) (a : ArrayBytes) → IsSame m a m a
  pub turned : (m : List ℕ) (a : ArrayBytes) (k : List ℕ) (b : ArrayBytes)
      → IsSame m a k b → IsSame k b m a
  pub joined : (m : List ℕ) (a : ArrayBytes) (k : List ℕ) (b : ArrayBytes)
      (l : List ℕ) (c : ArrayBytes) → IsSame m a k b → IsSame k b l c → IsSame m a l c

-- valid bytes of one kind and count are equal exactly where they mean the same list
abbrev pub IsListEquality : Type 0
IsListEquality = (kind : Kind) (number : ℕ) (m : List ℕ) (a : ArrayBytes) (k : List ℕ)
    (b : ArrayBytes) (xs ys : List Element)
    → meaning (optional kind) number (optional_bytes a m) ≡ Some xs
    → meaning (optional kind) number (optional_bytes b k) ≡ Some ys
    → IsSame m a k b ↔ (xs ≡ ys)
