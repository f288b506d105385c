-- That two types are the same goes both ways, and from one to the next.
use Rattle.std.specs.Prelude.{◌≡◌, true, refl, nat_eq}
use Rattle.std.proofs.Common.{true≢false, sym}
use Rattle.std.specs.Cmp.{IsPartialEquivalence, partial_equiv_from_equiv, nat_eq_equiv}
use Rattle.zarr_model.specs.Element.{DataType, bool_type, int_type, uint_type, raw_type, string_type, bytes_type}
use Rattle.zarr_model.specs.Element.{optional_type}
use Rattle.zarrs_data_type.specs.DataType.{same_type}

numbers : IsPartialEquivalence nat_eq
numbers = partial_equiv_from_equiv nat_eq_equiv

same_back : (a b : DataType) → same_type a b ≡ same_type b a
same_back bool_type bool_type = refl
same_back string_type string_type = refl
same_back bytes_type bytes_type = refl
same_back (int_type m) (int_type n) = numbers.symm m n
same_back (uint_type m) (uint_type n) = numbers.symm m n
same_back (raw_type m) (raw_type n) = numbers.symm m n
same_back (optional_type a) (optional_type b) = same_back a b
same_back _ _ = refl

same_on : (a b c : DataType) → same_type a b ≡ true → same_type b c ≡ true → same_type a c ≡ true
same_on bool_type bool_type c h k = k
same_on string_type string_type c h k = k
same_on bytes_type bytes_type c h k = k
same_on (int_type m) (int_type n) (int_type o) h k = numbers.trans m n o h k
same_on (int_type m) (int_type n) _ h k = absurd (true≢false (sym k))
same_on (uint_type m) (uint_type n) (uint_type o) h k = numbers.trans m n o h k
same_on (uint_type m) (uint_type n) _ h k = absurd (true≢false (sym k))
same_on (raw_type m) (raw_type n) (raw_type o) h k = numbers.trans m n o h k
same_on (raw_type m) (raw_type n) _ h k = absurd (true≢false (sym k))
same_on (optional_type a) (optional_type b) (optional_type c) h k = same_on a b c h k
same_on (optional_type a) (optional_type b) _ h k = absurd (true≢false (sym k))
same_on _ _ _ h k = absurd (true≢false (sym h))

pub same_type_per : IsPartialEquivalence same_type
same_type_per = record { symm = same_back; trans = same_on }
