-- Lists of bytes and flags, their parts, and lists joined.
use Rattle.std.proofs.Common.{◌≡◌, ◌<◌, ℕ, zero, suc, Bool, true, List, [], ◌∷◌, ◌++◌, length, take, drop, get_or}
use Rattle.std.proofs.Common.{flat_map, refl, ap, ap₂, arith}
use Rattle.std.specs.List.{AllByRecursion, list_all}
use Rattle.std.proofs.lemmas.Bool.{and_parts, and_from}
use Rattle.zarr_model.specs.Element.{Element}
use Rattle.zarr_model.specs.ArrayBytes.{mask_over, masked}

-- lists that are made alike are joined alike
pub flat_map-same : {A B : Type 0} (f g : A → List B) → ((x : A) → f x ≡ g x) → (xs : List A) →
    flat_map f xs ≡ flat_map g xs
flat_map-same f g same [] = refl
flat_map-same f g same (x ∷ xs) = ap₂ (λ a b. a ++ b) (same x) (flat_map-same f g same xs)

-- a test of all holds at each place
pub list_all-at : (f : ℕ → Bool) (xs : List ℕ) (i : ℕ) → list_all f xs ≡ true → i < length xs → f (get_or xs i 0) ≡ true
list_all-at f [] i a h = absurd (omega arith)
list_all-at f (x ∷ xs) zero a h = (and_parts (f x) (list_all f xs) a).0
list_all-at f (x ∷ xs) (suc i) a h = list_all-at f xs i (and_parts (f x) (list_all f xs) a).1 (omega arith)

-- and of two lists that are joined
pub list_all_joined : (f : ℕ → Bool) (xs ys : List ℕ) → list_all f xs ≡ true → list_all f ys ≡ true →
    list_all f (xs ++ ys) ≡ true
list_all_joined f [] ys a b = b
list_all_joined f (x ∷ xs) ys a b = let parts = and_parts (f x) (list_all f xs) a in
    and_from (f x) (list_all f (xs ++ ys)) parts.0 (list_all_joined f xs ys parts.1 b)

-- the front of a list of bytes and its rest are bytes
pub bytes-take : (n : ℕ) (value : List ℕ) → AllByRecursion (λ b. b < 256) value →
    AllByRecursion (λ b. b < 256) (take n value)
bytes-take zero value all = tt
bytes-take (suc n) [] all = tt
bytes-take (suc n) (b ∷ value) all = (all.0, bytes-take n value all.1)

pub bytes-drop : (n : ℕ) (value : List ℕ) → AllByRecursion (λ b. b < 256) value →
    AllByRecursion (λ b. b < 256) (drop n value)
bytes-drop zero value all = all
bytes-drop (suc n) [] all = tt
bytes-drop (suc n) (b ∷ value) all = bytes-drop n value all.1

-- masks over elements, joined
pub mask_over-append : (mask over : List ℕ) (xs ys : List Element) → length mask ≡ length xs →
    mask_over (mask ++ over) (xs ++ ys) ≡ mask_over mask xs ++ mask_over over ys
mask_over-append [] over [] ys e = refl
mask_over-append [] over (x ∷ xs) ys e = absurd (omega (arith, e))
mask_over-append (b ∷ mask) over [] ys e = absurd (omega (arith, e))
mask_over-append (b ∷ mask) over (x ∷ xs) ys e =
    ap (λ rest. masked b x ∷ rest) (mask_over-append mask over xs ys (omega (arith, e)))
