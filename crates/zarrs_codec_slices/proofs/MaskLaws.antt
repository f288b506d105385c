-- What valid optional array bytes are made of.
use Rattle.std.proofs.Common.{◌≡◌, ℕ, Bool, true, false, if◌then◌else◌, List, Option, Some, None, option_map, refl}
use Rattle.zarr_model.specs.Element.{Element, Kind, optional}
use Rattle.zarr_model.specs.ArrayBytes.{ArrayBytes, optional_bytes, is_mask, mask_over, meaning}

pub record IsMasked (kind : Kind) (number : ℕ) (mask : List ℕ) (under : ArrayBytes) (xs : List Element) : Type 0 where
  pub list : List Element
  pub mask_is : is_mask number mask ≡ true
  pub inner : meaning kind number under ≡ Some list
  pub over : mask_over mask list ≡ xs

pub masked_parts : (kind : Kind) (number : ℕ) (mask : List ℕ) (under : ArrayBytes) (xs : List Element) →
    meaning (optional kind) number (optional_bytes under mask) ≡ Some xs → IsMasked kind number mask under xs
masked_parts kind number mask under xs e = go (is_mask number mask) refl (meaning kind number under) refl e
  where
    go : (t : Bool) → is_mask number mask ≡ t → (o : Option (List Element)) → meaning kind number under ≡ o →
        (if t then option_map (mask_over mask) o else None) ≡ Some xs → IsMasked kind number mask under xs
    go false t o is e = cc
    go true t None is e = cc
    go true t (Some list) is e =
        record { list = list; mask_is = t; inner = is; over = (let same : mask_over mask list ≡ xs = cc in same) }
