-- Elements of a kind, and the array bytes that mean them.
use Rattle.std.proofs.Common.{◌≡◌, ℕ, zero, suc, ◌+◌, ◌*◌, Bool, true, false, ◌==◌, if◌then◌else◌, List, [], ◌∷◌}
use Rattle.std.proofs.Common.{length, map, drop, Option, Some, None, option_map, refl, subst, arith, eqb-true}
use Rattle.std.proofs.Common.{length-take-le, length-drop}
use Rattle.std.specs.List.{AllByRecursion}
use Rattle.std.proofs.Math.Nat.{suc-mul}
use Rattle.zarr_model.specs.Element.{Element, of_bytes, Kind, fixed, variable, optional, IsOfKind}
use Rattle.zarr_model.specs.ArrayBytes.{ArrayBytes, fixed_bytes, variable_bytes, optional_bytes, pieces}
use Rattle.zarr_model.specs.ArrayBytes.{between_offsets, are_offsets, is_mask, masked, mask_over, meaning, array_bytes}
use Rattle.zarr_model.proofs.BytesLaws.{when_some, length-meaning, meaning-array_bytes}

pieces_of_kind : (k n : ℕ) (value : List ℕ) → length value ≡ k * n →
    AllByRecursion (IsOfKind (fixed n)) (map of_bytes (pieces k n value))
pieces_of_kind zero n value long = tt
pieces_of_kind (suc k) n value long =
    let more : length value ≡ n + k * n = omega (arith, long, suc-mul k n) in (
      length-take-le n value (omega (arith, more)),
      pieces_of_kind k n (drop n value) (omega (arith, more, length-drop n value)),
    )

values_of_kind : (values : List (List ℕ)) → AllByRecursion (IsOfKind variable) (map of_bytes values)
values_of_kind [] = tt
values_of_kind (value ∷ values) = (tt, values_of_kind values)

masked_of_kind : (kind : Kind) (b : ℕ) (element : Element) → IsOfKind kind element →
    IsOfKind (optional kind) (masked b element)
masked_of_kind kind zero element is = tt
masked_of_kind kind (suc b) element is = is

mask_of_kind : (kind : Kind) (mask : List ℕ) (list : List Element) → AllByRecursion (IsOfKind kind) list →
    AllByRecursion (IsOfKind (optional kind)) (mask_over mask list)
mask_of_kind kind [] list all = tt
mask_of_kind kind (b ∷ mask) [] all = tt
mask_of_kind kind (b ∷ mask) (element ∷ list) all =
    (masked_of_kind kind b element all.0, mask_of_kind kind mask list all.1)

pub meaning_of_kind : (kind : Kind) (number : ℕ) (bytes : ArrayBytes) (list : List Element) →
    meaning kind number bytes ≡ Some list → AllByRecursion (IsOfKind kind) list
meaning_of_kind (fixed n) number (fixed_bytes value) list e =
    let parts = when_some (length value == number * n) (map of_bytes (pieces number n value)) list e in
    subst (AllByRecursion (IsOfKind (fixed n))) parts.1 (pieces_of_kind number n value (eqb-true _ _ parts.0))
meaning_of_kind (fixed n) number (variable_bytes value offsets) list e = cc
meaning_of_kind (fixed n) number (optional_bytes under mask) list e = cc
meaning_of_kind variable number (fixed_bytes value) list e = cc
meaning_of_kind variable number (variable_bytes value offsets) list e =
    let parts =
    when_some (are_offsets number (length value) offsets) (map of_bytes (between_offsets offsets value)) list e in
    subst (AllByRecursion (IsOfKind variable)) parts.1 (values_of_kind (between_offsets offsets value))
meaning_of_kind variable number (optional_bytes under mask) list e = cc
meaning_of_kind (optional kind) number (fixed_bytes value) list e = cc
meaning_of_kind (optional kind) number (variable_bytes value offsets) list e = cc
meaning_of_kind (optional kind) number (optional_bytes under mask) list e =
    go (meaning_of_kind kind number under) (is_mask number mask) (meaning kind number under) refl e
  where
    go : ((below : List Element) → meaning kind number under ≡ Some below → AllByRecursion (IsOfKind kind) below) →
        (b : Bool) (o : Option (List Element)) → meaning kind number under ≡ o →
        (if b then option_map (mask_over mask) o else None) ≡ Some list → AllByRecursion (IsOfKind (optional kind)) list
    go inner false o is e = cc
    go inner true None is e = cc
    go inner true (Some below) is e =
        let same : mask_over mask below ≡ list = cc in
        subst (AllByRecursion (IsOfKind (optional kind))) same (mask_of_kind kind mask below (inner below is))

-- array bytes of what others mean, which mean the same
pub same_mean : (kind : Kind) (number : ℕ) (bytes : ArrayBytes) (list : List Element) →
    meaning kind number bytes ≡ Some list → meaning kind number (array_bytes kind list) ≡ Some list
same_mean kind number bytes list e =
    subst (λ n. meaning kind n (array_bytes kind list) ≡ Some list) (length-meaning kind number bytes list e)
    (meaning-array_bytes kind list (meaning_of_kind kind number bytes list e))
