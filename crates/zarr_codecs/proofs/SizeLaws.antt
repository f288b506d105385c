-- Sizes and lengths of the elements that an array-to-bytes codec serves.
use Rattle.std.proofs.Common.{◌≡◌, ℕ, zero, suc, ◌^◌, ◌<◌, ◌≤◌, Bool, true, false, Option, None, refl, sym, ap}
use Rattle.std.proofs.Common.{◌∙◌, arith}
use Rattle.std.proofs.lemmas.Bool.{leb-true}
use Rattle.zarr_model.specs.Element.{DataType, bool_type, int_type, uint_type, raw_type, string_type, bytes_type}
use Rattle.zarr_model.specs.Element.{optional_type, fixed, kind_of, fixed_size}
use Rattle.zarr_model.specs.declared.endianness.Endianness.{Endianness}
use Rattle.zarrs_data_type_bytes.specs.CodecSupport.{at_least_one, bytes_table}
use Rattle.zarrs_data_type.specs.DataType.{is_type, inner_type_of}
use Rattle.zarr_codecs_to_bytes.specs.BytesCodec.{component_unserved}
use Rattle.zarr_codecs_to_bytes.specs.VlenCodec.{vlen_type_unserved}
use Rattle.zarr_codecs.specs.Plain.{Plain, plain_bytes, plain_vlen, plain_optional, unserved_by, takes_by}
use Rattle.zarr_codecs.specs.Plain.{stores_lengths}

-- only elements of no fixed size have their lengths stored
vlen_unsized : (text : Bool) (type : DataType) → vlen_type_unserved text type ≡ None → fixed_size (kind_of type) ≡ None
vlen_unsized text bool_type e = cc
vlen_unsized text (int_type n) e = cc
vlen_unsized text (uint_type n) e = cc
vlen_unsized text (raw_type n) e = cc
vlen_unsized text string_type e = refl
vlen_unsized text bytes_type e = refl
vlen_unsized text (optional_type inner) e = cc

pub stored_unsized : (codec : Plain) (type : DataType) → stores_lengths codec ≡ true → unserved_by codec type ≡ None →
    fixed_size (kind_of type) ≡ None
stored_unsized (plain_bytes order) type stores served = cc
stored_unsized (plain_vlen text) type stores served = vlen_unsized text type served
stored_unsized (plain_optional inner) bool_type stores served = cc
stored_unsized (plain_optional inner) (int_type n) stores served = cc
stored_unsized (plain_optional inner) (uint_type n) stores served = cc
stored_unsized (plain_optional inner) (raw_type n) stores served = cc
stored_unsized (plain_optional inner) string_type stores served = cc
stored_unsized (plain_optional inner) bytes_type stores served = cc
stored_unsized (plain_optional inner) (optional_type held) stores served = stored_unsized inner held stores served

-- and each codec that stores none serves elements of a fixed size alone
pub unstored_sized : (codec : Plain) (type : DataType) → stores_lengths codec ≡ false → unserved_by codec type ≡ None →
    fixed_size (kind_of type) ≡ None → ⊥
unstored_sized (plain_bytes order) bool_type stores served none = cc
unstored_sized (plain_bytes order) (int_type n) stores served none = cc
unstored_sized (plain_bytes order) (uint_type n) stores served none = cc
unstored_sized (plain_bytes order) (raw_type n) stores served none = cc
unstored_sized (plain_bytes order) string_type stores served none = absurd cc
unstored_sized (plain_bytes order) bytes_type stores served none = absurd cc
unstored_sized (plain_bytes order) (optional_type inner) stores served none = absurd cc
unstored_sized (plain_vlen text) type stores served none = absurd cc
unstored_sized (plain_optional inner) bool_type stores served none = absurd cc
unstored_sized (plain_optional inner) (int_type n) stores served none = absurd cc
unstored_sized (plain_optional inner) (uint_type n) stores served none = absurd cc
unstored_sized (plain_optional inner) (raw_type n) stores served none = absurd cc
unstored_sized (plain_optional inner) string_type stores served none = absurd cc
unstored_sized (plain_optional inner) bytes_type stores served none = absurd cc
unstored_sized (plain_optional inner) (optional_type held) stores served none =
    unstored_sized inner held stores served none

-- the numbers of elements that are taken
pub taken : (codec : Plain) (number : ℕ) → (stores_lengths codec ≡ true → number < 2 ^ 32) → takes_by codec number
taken (plain_bytes order) number few = tt
taken (plain_vlen text) number few = few refl
taken (plain_optional inner) number few = taken inner number few

-- elements of one size, where that is served, are not empty
component_some : (order : Option Endianness) (n : ℕ) → component_unserved order (at_least_one n) ≡ None → 0 < n
component_some order zero served = cc
component_some order (suc n) served = omega arith

number_some : (codec : Plain) (type : DataType) (m : ℕ) → bytes_table type ≡ at_least_one m → ((text : Bool) →
    vlen_type_unserved text type ≡ None → ⊥) → inner_type_of type ≡ None → unserved_by codec type ≡ None → 0 < m
number_some (plain_bytes order) type m is other plain served =
    component_some order m (ap (component_unserved order) (sym is) ∙ served)
number_some (plain_vlen text) type m is other plain served = absurd (other text served)
number_some (plain_optional inner) bool_type m is other plain served = cc
number_some (plain_optional inner) (int_type n) m is other plain served = cc
number_some (plain_optional inner) (uint_type n) m is other plain served = cc
number_some (plain_optional inner) (raw_type n) m is other plain served = cc
number_some (plain_optional inner) string_type m is other plain served = cc
number_some (plain_optional inner) bytes_type m is other plain served = cc
number_some (plain_optional inner) (optional_type held) m is other plain served = cc

size_is : (m n : ℕ) → fixed m ≡ fixed n → m ≡ n
size_is m n e = cc

pub sized_some : (codec : Plain) (type : DataType) (n : ℕ) → unserved_by codec type ≡ None → is_type type ≡ true →
    kind_of type ≡ fixed n → 0 < n
sized_some codec bool_type n served proper is = let same = size_is 1 n is in omega (arith, same)
sized_some codec (int_type m) n served proper is =
    let same = size_is m n is in
    let some = number_some codec (int_type m) m refl (λ text e. absurd cc) refl served in
    omega (arith, same, some)
sized_some codec (uint_type m) n served proper is =
    let same = size_is m n is in
    let some = number_some codec (uint_type m) m refl (λ text e. absurd cc) refl served in
    omega (arith, same, some)
sized_some codec (raw_type m) n served proper is = let same = size_is m n is in
    let least : 1 ≤ m = leb-true 1 m proper in omega (arith, same, least)
sized_some codec string_type n served proper is = cc
sized_some codec bytes_type n served proper is = cc
sized_some codec (optional_type inner) n served proper is = cc
