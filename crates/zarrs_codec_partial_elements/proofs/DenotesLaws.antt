-- Whether fill values of optional types denote elements.
use Rattle.std.proofs.Common.{◌≡◌, ℕ, zero, suc, ◌-◌, ◌<◌, ◌==◌, Bool, true, false, is_some, List, [], ◌∷◌, length}
use Rattle.std.proofs.Common.{take, slice_index, Option, Some, None, IsSome, option_map, refl, sym, ap, ◌∙◌, arith}
use Rattle.std.proofs.lemmas.Bool.Decides.{nat_tests}
use Rattle.zarr_model.specs.Element.{Element, some, Kind, optional, fill_element, optional_fill}
use Rattle.zarrs_data_type_bytes.specs.Pieces.{ends_in_zero}

pub no_bytes : (kind : Kind) (fill : List ℕ) → length fill ≡ 0 → false ≡ is_some (fill_element (optional kind) fill)
no_bytes kind [] none = refl
no_bytes kind (b ∷ fill) none = absurd (omega (arith, none))

pub null_bytes : (kind : Kind) (fill : List ℕ) → ends_in_zero fill ≡ true →
    true ≡ is_some (fill_element (optional kind) fill)
null_bytes kind [] ends = cc
null_bytes kind (b ∷ fill) ends = go (slice_index (b ∷ fill) (length fill)) ends
  where
    go : (last : ℕ) → (last == 0) ≡ true →
        true ≡ is_some (optional_fill last (fill_element kind (take (length fill) (b ∷ fill))))
    go zero is = refl
    go (suc last) is = let not_zero : (suc last == 0) ≡ false = grind (arith, nat_tests) in
        absurd (differ (sym is ∙ not_zero))
      where
        differ : true ≡ false → ⊥
        differ e = cc

pub some_bytes : (kind : Kind) (fill : List ℕ) (b : Bool) → 0 < length fill → ends_in_zero fill ≡ false →
    b ≡ is_some (fill_element kind (take (length fill - 1) fill)) → b ≡ is_some (fill_element (optional kind) fill)
some_bytes kind [] b there ends is = absurd (let no : ⊥ = omega (arith, there) in no)
some_bytes kind (x ∷ fill) b there ends is = go (slice_index (x ∷ fill) (length fill)) ends
  where
    shorter : length (x ∷ fill) - 1 ≡ length fill
    shorter = omega arith

    mapped : (o : Option Element) → is_some o ≡ is_some (option_map some o)
    mapped None = refl
    mapped (Some y) = refl

    go : (last : ℕ) → (last == 0) ≡ false →
        b ≡ is_some (optional_fill last (fill_element kind (take (length fill) (x ∷ fill))))
    go zero is_not = cc
    go (suc last) is_not = is ∙ (ap (λ (n : ℕ). is_some (fill_element kind (take n (x ∷ fill)))) shorter
        ∙ mapped (fill_element kind (take (length fill) (x ∷ fill))))

pub some_denoted : (o : Option Element) → true ≡ is_some o → IsSome o
some_denoted o is = sym is

pub none_denoted : (o : Option Element) → false ≡ is_some o → o ≡ None
none_denoted None is = refl
none_denoted (Some x) is = cc

pub none_some : {P : Type 0} (o : Option Element) → o ≡ None → IsSome o → P
none_some None is there = cc
none_some (Some x) is there = cc
