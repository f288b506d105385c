-- The box of all elements.
use Rattle.std.proofs.Common.{◌≡◌, ℕ, ◌+◌, ◌≤◌, Bool, true, false, not, ◌&&◌, nat_le, if◌then◌else◌, List, [], ◌∷◌}
use Rattle.std.proofs.Common.{Option, Some, None, refl, sym, ap₂, subst, arith, eq-eqb}
use Rattle.std.proofs.lemmas.Bool.{le-leb}
use Rattle.zarr_model.specs.Region.{Region, whole, sizes, ends_within}
use Rattle.zarr_model.proofs.RegionLaws.{sizes_whole}
use Rattle.zarrs_codec.specs.Boxes.{same_lengths, is_all, smaller_box}

-- a whole shape lies within itself, and is all of it
pub whole_inside : (shape : List ℕ) → ends_within (whole shape) shape ≡ true
whole_inside [] = refl
whole_inside (n ∷ shape) = ap₂ (λ (a b : Bool). a && b) (let plus : 0 + n ≡ n = omega arith in subst (λ (m : ℕ).
    nat_le m n ≡ true) (sym plus) (le-leb n n (let same : n ≤ n = omega arith in same))) (whole_inside shape)

same_here : (shape : List ℕ) → same_lengths shape shape ≡ true
same_here [] = refl
same_here (n ∷ shape) = ap₂ (λ (a b : Bool). a && b) (eq-eqb n n refl) (same_here shape)

pub whole_is_all : (shape : List ℕ) → is_all shape (Some (whole shape)) ≡ true
whole_is_all shape = ap₂ (λ (a b : Bool). a && b) (whole_inside shape)
    (subst (λ (s : List ℕ). same_lengths s shape ≡ true) (sym (sizes_whole shape)) (same_here shape))

-- the box of all elements is no smaller one
pub all_not_smaller : {P : Type 0} (shape : List ℕ) (asked : Option Region) (box : Region) →
    smaller_box shape asked ≡ Some box → is_all shape asked ≡ true → P
all_not_smaller shape None box is all = cc
all_not_smaller {P} shape (Some asked) box is all =
    go (ends_within asked shape) (same_lengths (sizes asked) shape) is all
  where
    go : (inside same : Bool) → (if inside && not same then Some asked else None) ≡ Some box → inside && same ≡ true → P
    go true true is all = cc
    go true false is all = cc
    go false same is all = cc
