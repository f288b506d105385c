-- Elements that are the same, lists of one element, and elements that may be there.
use Rattle.std.proofs.Common.{◌≡◌, ℕ, zero, suc, true, List, [], ◌∷◌, length, replicate, Option, Some, None, IsSome}
use Rattle.std.proofs.Common.{unwrap_or, refl, sym, ap, ap₂}
use Rattle.std.specs.List.{list_all}
use Rattle.std.proofs.lemmas.Bool.{and_parts, and_from}
use Rattle.std.proofs.lemmas.Slice.Eq.{bytes_eq-Decides}
use Rattle.zarr_model.specs.Element.{Element, of_bytes, null, some, same_element}

-- two elements are the same exactly where the test says so
pub same_is : (x y : Element) → same_element x y ≡ true → x ≡ y
same_is (of_bytes value) (of_bytes other) e = ap of_bytes ((bytes_eq-Decides value other).0 e)
same_is (of_bytes value) null e = cc
same_is (of_bytes value) (some other) e = cc
same_is null (of_bytes other) e = cc
same_is null null e = refl
same_is null (some other) e = cc
same_is (some x) (of_bytes other) e = cc
same_is (some x) null e = cc
same_is (some x) (some y) e = ap some (same_is x y e)

pub is_same : (x : Element) → same_element x x ≡ true
is_same (of_bytes value) = (bytes_eq-Decides value value).1 refl
is_same null = refl
is_same (some x) = is_same x

-- a list whose elements are all the same is that element, as often
pub each_same : (x : Element) (xs : List Element) → list_all (same_element x) xs ≡ true → xs ≡ replicate (length xs) x
each_same x [] all = refl
each_same x (y ∷ xs) all =
    let parts = and_parts (same_element x y) (list_all (same_element x) xs) all in
    ap₂ (λ (a : Element) (l : List Element). a ∷ l) (sym (same_is x y parts.0)) (each_same x xs parts.1)

pub all_same : (x : Element) (number : ℕ) → list_all (same_element x) (replicate number x) ≡ true
all_same x zero = refl
all_same x (suc number) =
    and_from (same_element x x) (list_all (same_element x) (replicate number x)) (is_same x) (all_same x number)

-- an element that is there is what it is unwrapped to
pub denoted : (o : Option Element) → IsSome o → o ≡ Some (unwrap_or o null)
denoted None there = cc
denoted (Some x) there = refl
