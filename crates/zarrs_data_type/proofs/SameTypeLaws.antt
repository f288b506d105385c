-- Two types are the same where they are equal.
use Rattle.std.proofs.Common.{◌≡◌, ◌↔◌, IsTrue, true, refl, ap, subst, eq-eqb}
use Rattle.std.proofs.lemmas.Bool.{eqb-true}
use Rattle.zarr_model.specs.Element.{DataType, bool_type, int_type, uint_type, raw_type, string_type, bytes_type}
use Rattle.zarr_model.specs.Element.{optional_type}
use Rattle.zarrs_data_type.specs.DataType.{same_type}

pub equal_types : (a b : DataType) → same_type a b ≡ true → a ≡ b
equal_types bool_type bool_type h = refl
equal_types string_type string_type h = refl
equal_types bytes_type bytes_type h = refl
equal_types (int_type m) (int_type n) h = ap int_type (eqb-true m n h)
equal_types (uint_type m) (uint_type n) h = ap uint_type (eqb-true m n h)
equal_types (raw_type m) (raw_type n) h = ap raw_type (eqb-true m n h)
equal_types (optional_type a) (optional_type b) h = ap optional_type (equal_types a b h)
equal_types _ _ h = cc

pub same_types : (a : DataType) → same_type a a ≡ true
same_types bool_type = refl
same_types string_type = refl
same_types bytes_type = refl
same_types (int_type m) = eq-eqb m m refl
same_types (uint_type m) = eq-eqb m m refl
same_types (raw_type m) = eq-eqb m m refl
same_types (optional_type a) = same_types a

pub same_is : (a b : DataType) → IsTrue (same_type a b) ↔ (a ≡ b)
same_is a b = (equal_types a b, λ e. subst (λ c. same_type a c ≡ true) e (same_types a))
