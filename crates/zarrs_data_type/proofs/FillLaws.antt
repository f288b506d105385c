-- A fill value that a document gives denotes an element; what a document says of a fill value gives one that denotes
-- the same.
use Rattle.std.proofs.Common.{◌≡◌, ℕ, ℤ, zero, suc, pos, negsuc, ◌+◌, ◌-◌, ◌*◌, ◌/◌, ◌%◌, ◌^◌, ◌<◌, ◌≤◌, ◌==◌, Bool}
use Rattle.std.proofs.Common.{true, false, if◌then◌else◌, nat_lt, List, [], ◌∷◌, ◌++◌, length, take, map, get_or}
use Rattle.std.proofs.Common.{Option, Some, None, is_some, option_map, option_and_then, refl, sym, ap, ap₂, ◌∙◌, subst}
use Rattle.std.proofs.Common.{arith, eq-eqb, lit≤}
use Rattle.std.specs.List.{AllByRecursion}
use Rattle.std.specs.Int.{w64, cast_unsigned}
use Rattle.std.specs.Str.{is_utf8}
use Rattle.std.proofs.Math.Nat.{pow-succ', add-mul-mod_self_right, add-mul-div_right}
use Rattle.std.proofs.Math.Seq.{take-append_seam}
use Rattle.std.proofs.lemmas.List.{length-append}
use Rattle.std.proofs.lemmas.Bool.{lt-ltb, ltb-true, cond-true, eqb-true}
use Rattle.std.proofs.lemmas.Bool.Decides.{nat_tests}
use Rattle.serde_json.specs.Data.{Data, null, boolean, number, string, array, unsigned, no_items, item}
use Rattle.serde_json.specs.Find.{as_bool, as_number, as_array, as_u64, as_i64, of_integer}
use Rattle.serde_json.specs.View.{items_of}
use Rattle.zarr_model.specs.Element.{of_bytes, some, Kind, fixed, optional, DataType, bool_type, int_type, uint_type}
use Rattle.zarr_model.specs.Element.{raw_type, string_type, bytes_type, optional_type, kind_of, fill_element}
use Rattle.zarr_model.specs.Element.{optional_fill}
use Rattle.zarr_model.specs.Codec.{low_bytes, number_of_bytes}
use Rattle.zarr_model.proofs.BytesLaws.{when_some, mapped_some}
use Rattle.zarr_model.proofs.VlenLaws.{low_bytes-number_of_bytes}
use Rattle.zarr_model.proofs.Choices.{is_some-option_map, then_some}
use Rattle.zarrs_metadata_values.specs.FillValueMetadata.{byte, bytes_in_items}
use Rattle.zarrs_metadata_values.specs.Reading.{◌>>=◌, each}
use Rattle.zarrs_metadata_values.specs.Writing.{number_data, numbers_data}
use Rattle.zarrs_data_type.specs.FillMetadata.{bool_bytes, unsigned_bytes, is_in_range, signed_bytes, of_length}
use Rattle.zarrs_data_type.specs.FillMetadata.{some_bytes, fill_of, signed_number, byte_as_bool, optional_fill_data}
use Rattle.zarrs_data_type.specs.FillMetadata.{fill_metadata_of}
use Rattle.zarrs_data_type.specs.DataType.{type_of}
use Rattle.zarrs_data_type.specs.declared.data_type.DataType as types

abbrev AreBytes : List ℕ → Type 0
AreBytes bytes = AllByRecursion (λ b. b < 256) bytes

when_then : {A : Type 0} (b : Bool) (o : Option A) (y : A) → (if b then o else None) ≡ Some y →
    (b ≡ true) × (o ≡ Some y)
when_then true o y e = (refl, e)
when_then false o y e = cc

unwrapped : {A : Type 0} (x y : A) → Some x ≡ Some y → x ≡ y
unwrapped x y e = cc

-- ---- the element that a fill value denotes

last_one : (xs : List ℕ) → get_or (xs ++ 1 ∷ []) (length xs) 0 ≡ 1
last_one [] = refl
last_one (x ∷ xs) = last_one xs

some_element : (k : Kind) (bs : List ℕ) → fill_element (optional k) (bs ++ 1 ∷ []) ≡ option_map some (fill_element k bs)
some_element k [] = refl
some_element k (b ∷ bs) =
    let long : length (bs ++ 1 ∷ []) ≡ length (b ∷ bs) = length-append bs (1 ∷ []) ∙ omega arith in
    ap (λ n. optional_fill (get_or (b ∷ (bs ++ 1 ∷ [])) n 0) (fill_element k (take n (b ∷ (bs ++ 1 ∷ []))))) long
    ∙ ap₂ (λ last front. optional_fill last (fill_element k front))
    (last_one (b ∷ bs)) (take-append_seam (b ∷ bs) (1 ∷ []))

fixed_there : (n : ℕ) (bytes : List ℕ) → length bytes ≡ n → is_some (fill_element (fixed n) bytes) ≡ true
fixed_there n bytes h =
    ap is_some (cond-true (length bytes == n) (Some (of_bytes bytes)) None (eq-eqb (length bytes) n h))

length_low : (n m : ℕ) → length (low_bytes n m) ≡ n
length_low zero m = refl
length_low (suc n) m = ap suc (length_low n (m / 256))

low_there : (n m : ℕ) (bytes : List ℕ) → low_bytes n m ≡ bytes → is_some (fill_element (fixed n) bytes) ≡ true
low_there n m bytes h = fixed_there n bytes (ap length (sym h) ∙ length_low n m)

-- a fill value that a document gives denotes an element
pub fill_denotes : (t : DataType) (d : Data) (bytes : List ℕ) → fill_of t d ≡ Some bytes →
    is_some (fill_element (kind_of t) bytes) ≡ true
fill_denotes bool_type d bytes e =
    let found = mapped_some bool_bytes (as_bool d) bytes e in fixed_there 1 bytes (sym (ap length found.2))
fill_denotes (int_type n) d bytes e =
    let found = then_some (signed_bytes n) (option_and_then as_i64 (as_number d)) bytes e in
    let parts = when_some (is_in_range n found.0) (low_bytes n (cast_unsigned w64 found.0)) bytes found.2 in
    low_there n (cast_unsigned w64 found.0) bytes parts.1
fill_denotes (uint_type n) d bytes e =
    let found = then_some (unsigned_bytes n) (option_and_then as_u64 (as_number d)) bytes e in
    let parts = when_some (nat_lt found.0 (256 ^ n)) (low_bytes n found.0) bytes found.2 in
    low_there n found.0 bytes parts.1
fill_denotes (raw_type n) d bytes e =
    let found = then_some (of_length n) (bytes_in_items (as_array d)) bytes e in
    let parts = when_some (length found.0 == n) found.0 bytes found.2 in
    fixed_there n bytes (ap length (sym parts.1) ∙ eqb-true (length found.0) n parts.0)
fill_denotes string_type d bytes e = refl
fill_denotes bytes_type d bytes e = refl
fill_denotes (optional_type inner) null bytes e =
    ap (λ b. is_some (fill_element (optional (kind_of inner)) b)) (sym (unwrapped (0 ∷ []) bytes e))
fill_denotes (optional_type inner) (array (item d no_items)) bytes e =
    let found = mapped_some some_bytes (fill_of inner d) bytes e in
    ap (λ b. is_some (fill_element (optional (kind_of inner)) b)) (sym found.2)
    ∙ (ap is_some (some_element (kind_of inner) found.0)
    ∙ (is_some-option_map some (fill_element (kind_of inner) found.0) ∙ fill_denotes inner d found.0 found.1))
fill_denotes (optional_type inner) _ bytes e = cc

when_there : {A : Type 0} (b : Bool) (x : A) → is_some (if b then Some x else None) ≡ true → b ≡ true
when_there true x e = refl
when_there false x e = e

-- of a fixed size it has that many bytes
pub fill_length : (t : DataType) (d : Data) (bytes : List ℕ) (n : ℕ) → fill_of t d ≡ Some bytes → kind_of t ≡ fixed n →
    length bytes ≡ n
fill_length t d bytes n e is =
    eqb-true (length bytes) n (when_there (length bytes == n) (of_bytes bytes)
    (ap (λ k. is_some (fill_element k bytes)) (sym is) ∙ fill_denotes t d bytes e))

-- ---- what a document says gives the same element

below_power : (bytes : List ℕ) → AreBytes bytes → number_of_bytes bytes < 256 ^ length bytes
below_power [] all = omega arith
below_power (b ∷ bytes) all =
    let power : 256 ^ suc (length bytes) ≡ 256 * 256 ^ length bytes = pow-succ' 256 (length bytes) in
    let small : b < 256 = all.0 in
    omega (arith, power, small, below_power bytes all.1)

bytes_back : (bytes : List ℕ) → AreBytes bytes → each byte (items_of (map number_data bytes)) ≡ Some bytes
bytes_back [] all = refl
bytes_back (b ∷ bytes) all =
    go (nat_lt b 256) (each byte (items_of (map number_data bytes))) (lt-ltb b 256 all.0) (bytes_back bytes all.1)
  where
    go : (t : Bool) (o : Option (List ℕ)) → t ≡ true → o ≡ Some bytes →
        (if t then Some b else None) >>= (λ y. o >>= λ ys. Some (y ∷ ys)) ≡ Some (b ∷ bytes)
    go t o p q = rw (p, q) refl

low_shift : (n m j : ℕ) → low_bytes n (m + j * 256 ^ n) ≡ low_bytes n m
low_shift zero m j = refl
low_shift (suc n) m j =
    let turned : m + j * 256 ^ suc n ≡ m + (j * 256 ^ n) * 256 = omega (arith, ap (λ p. j * p) (pow-succ' 256 n)) in
    ap₂ (λ x xs. x ∷ xs)
    (ap (λ x. x % 256) turned ∙ add-mul-mod_self_right m (j * 256 ^ n) 256)
    (ap (λ x. low_bytes n (x / 256)) turned
    ∙ (ap (low_bytes n) (add-mul-div_right m (j * 256 ^ n) (omega arith)) ∙ low_shift n (m / 256) j))

low_back : (n : ℕ) (bytes : List ℕ) → AreBytes bytes → length bytes ≡ n → low_bytes n (number_of_bytes bytes) ≡ bytes
low_back n bytes all long =
    ap (λ k. low_bytes k (number_of_bytes bytes)) (sym long) ∙ low_bytes-number_of_bytes bytes all

bool_kept : (bytes : List ℕ) (d : Data) → fill_metadata_of bool_type bytes ≡ Some d → fill_of bool_type d ≡ Some bytes
bool_kept [] d e = cc
bool_kept (b ∷ []) d e = go (b == 0) (b == 1) refl refl e
  where
    go : (t u : Bool) → (b == 0) ≡ t → (b == 1) ≡ u → (if t then Some (boolean false) else if u then Some (boolean true)
        else None) ≡ Some d → fill_of bool_type d ≡ Some (b ∷ [])
    go true u p q f =
        ap (fill_of bool_type) (sym (unwrapped (boolean false) d f)) ∙ ap (λ x. Some (x ∷ [])) (sym (eqb-true b 0 p))
    go false true p q f =
        ap (fill_of bool_type) (sym (unwrapped (boolean true) d f)) ∙ ap (λ x. Some (x ∷ [])) (sym (eqb-true b 1 q))
    go false false p q f = cc
bool_kept (b ∷ c ∷ bytes) d e =
    let parts = when_then (length (b ∷ c ∷ bytes) == 1) (byte_as_bool b) d e in
    let long = eqb-true (length (b ∷ c ∷ bytes)) 1 parts.0 in absurd (omega arith)

uint_kept : (n : ℕ) (bytes : List ℕ) (d : Data) → AreBytes bytes → fill_metadata_of (uint_type n) bytes ≡ Some d →
    fill_of (uint_type n) d ≡ Some bytes
uint_kept n bytes d all e =
    let parts = when_some (length bytes == n) (number (unsigned (number_of_bytes bytes))) d e in
    let long = eqb-true (length bytes) n parts.0 in
    let small : number_of_bytes bytes < 256 ^ n =
    subst (λ k. number_of_bytes bytes < 256 ^ k) long (below_power bytes all) in
    ap (fill_of (uint_type n)) (sym parts.1)
    ∙ (cond-true (nat_lt (number_of_bytes bytes) (256 ^ n)) (Some (low_bytes n (number_of_bytes bytes))) None
    (lt-ltb (number_of_bytes bytes) (256 ^ n) small)
    ∙ ap Some (low_back n bytes all long))

raw_kept : (n : ℕ) (bytes : List ℕ) (d : Data) → AreBytes bytes → fill_metadata_of (raw_type n) bytes ≡ Some d →
    fill_of (raw_type n) d ≡ Some bytes
raw_kept n bytes d all e =
    let parts = when_some (length bytes == n) (numbers_data bytes) d e in
    ap (fill_of (raw_type n)) (sym parts.1)
    ∙ (ap (option_and_then (of_length n)) (bytes_back bytes all)
    ∙ cond-true (length bytes == n) (Some bytes) None parts.0)

string_kept : (bytes : List ℕ) (d : Data) → fill_metadata_of string_type bytes ≡ Some d →
    fill_of string_type d ≡ Some bytes
string_kept bytes d e =
    let parts = when_some (is_utf8 bytes) (string bytes) d e in ap (fill_of string_type) (sym parts.1)

bytes_kept : (bytes : List ℕ) (d : Data) → AreBytes bytes → fill_metadata_of bytes_type bytes ≡ Some d →
    fill_of bytes_type d ≡ Some bytes
bytes_kept bytes d all e = ap (fill_of bytes_type) (sym (unwrapped (numbers_data bytes) d e)) ∙ bytes_back bytes all

int_kept : (n half j : ℕ) → half ≡ 2 ^ (8 * n - 1) → 256 ^ n ≡ 2 * half → half ≤ 2 ^ 63 →
    2 ^ 64 ≡ 256 ^ n + j * 256 ^ n →
    (bytes : List ℕ) (d : Data) → AreBytes bytes → fill_metadata_of (int_type n) bytes ≡ Some d →
    fill_of (int_type n) d ≡ Some bytes
int_kept n half j is whole few times bytes d all e =
    let parts = when_some (length bytes == n) (number (of_integer (signed_number n (number_of_bytes bytes)))) d e in
    let long = eqb-true (length bytes) n parts.0 in
    let small : number_of_bytes bytes < 256 ^ n =
    subst (λ k. number_of_bytes bytes < 256 ^ k) long (below_power bytes all) in
    ap (fill_of (int_type n)) (sym parts.1) ∙ (go (number_of_bytes bytes) small
    (nat_lt (number_of_bytes bytes) (2 ^ (8 * n - 1))) refl ∙ ap Some (low_back n bytes all long))
  where
    from : ℤ → Option (List ℕ)
    from z = fill_of (int_type n) (number (of_integer z))

    go : (m : ℕ) → m < 256 ^ n → (t : Bool) → nat_lt m (2 ^ (8 * n - 1)) ≡ t → fill_of (int_type n)
        (number (of_integer (if t then pos m else negsuc (256 ^ n - 1 - m)))) ≡ Some (low_bytes n m)
    go m small true p =
        let below : m < 2 ^ (8 * n - 1) = ltb-true m (2 ^ (8 * n - 1)) p in
        ap (option_and_then (signed_bytes n))
        (cond-true (nat_lt m (2 ^ 63)) (Some (pos m)) None (lt-ltb m (2 ^ 63) (omega (arith, below, is, few))))
        ∙ cond-true (nat_lt m (2 ^ (8 * n - 1))) (Some (low_bytes n m)) None p
    go m small false p =
        let above : 2 ^ (8 * n - 1) ≤ m = grind (arith, nat_tests) in
        let below : 256 ^ n - 1 - m < 2 ^ (8 * n - 1) = omega (arith, above, is, whole, small) in
        let turned : cast_unsigned w64 (negsuc (256 ^ n - 1 - m)) ≡ m + j * 256 ^ n = omega (arith, times, small) in
        cond-true (nat_lt (256 ^ n - 1 - m) (2 ^ (8 * n - 1)))
        (Some (low_bytes n (cast_unsigned w64 (negsuc (256 ^ n - 1 - m))))) None (lt-ltb _ _ below)
        ∙ ap Some (ap (low_bytes n) turned ∙ low_shift n m j)

taken_bytes : (n : ℕ) (bytes : List ℕ) → AreBytes bytes → AreBytes (take n bytes)
taken_bytes zero bytes all = tt
taken_bytes (suc n) [] all = tt
taken_bytes (suc n) (b ∷ bytes) all = (all.0, taken_bytes n bytes all.1)

-- both have the element in them
pushed : (k : Kind) (o : Option (List ℕ)) → option_and_then (fill_element (optional k)) (option_map some_bytes o) ≡
    option_map some (option_and_then (fill_element k) o)
pushed k None = refl
pushed k (Some bytes) = some_element k bytes

-- what a document says of the fill value of a type denotes the element that the fill value denotes
abbrev Keeps : DataType → Type 0
Keeps t = (bytes : List ℕ) (d : Data) → AreBytes bytes → fill_metadata_of t bytes ≡ Some d →
    option_and_then (fill_element (kind_of t)) (fill_of t d) ≡ fill_element (kind_of t) bytes

optional_step : (inner : DataType) → Keeps inner → (last : ℕ) (front : List ℕ) (d : Data) → AreBytes front →
    optional_fill_data last (fill_metadata_of inner front) ≡ Some d →
    option_and_then (fill_element (optional (kind_of inner))) (fill_of (optional_type inner) d) ≡
    optional_fill last (fill_element (kind_of inner) front)
optional_step inner keeps zero front d all e =
    ap (λ x. option_and_then (fill_element (optional (kind_of inner))) (fill_of (optional_type inner) x))
    (sym (unwrapped null d e))
optional_step inner keeps (suc last) front d all e =
    let found = mapped_some (λ x. array (item x no_items)) (fill_metadata_of inner front) d e in
    ap (λ x. option_and_then (fill_element (optional (kind_of inner))) (fill_of (optional_type inner) x)) (sym found.2)
    ∙ (pushed (kind_of inner) (fill_of inner found.0) ∙ ap (option_map some) (keeps front found.0 all found.1))

optional_kept : (inner : DataType) → Keeps inner → Keeps (optional_type inner)
optional_kept inner keeps [] d all e = cc
optional_kept inner keeps (b ∷ bytes) d all e =
    optional_step inner keeps (get_or (b ∷ bytes) (length bytes) 0) (take (length bytes) (b ∷ bytes)) d
    (taken_bytes (length bytes) (b ∷ bytes) all) e

same_fill : (t : DataType) (bytes : List ℕ) (d : Data) → fill_of t d ≡ Some bytes →
    option_and_then (fill_element (kind_of t)) (fill_of t d) ≡ fill_element (kind_of t) bytes
same_fill t bytes d e = ap (option_and_then (fill_element (kind_of t))) e

pub fill_kept : (t : types.DataType) → Keeps (type_of t)
fill_kept types.Bool bytes d all e = same_fill bool_type bytes d (bool_kept bytes d e)
fill_kept types.Int8 bytes d all e =
    same_fill (int_type 1) bytes d (int_kept 1 (2 ^ 7) (256 ^ 7 - 1) refl refl (lit≤ tt) refl bytes d all e)
fill_kept types.Int16 bytes d all e =
    same_fill (int_type 2) bytes d (int_kept 2 (2 ^ 15) (256 ^ 6 - 1) refl refl (lit≤ tt) refl bytes d all e)
fill_kept types.Int32 bytes d all e =
    same_fill (int_type 4) bytes d (int_kept 4 (2 ^ 31) (256 ^ 4 - 1) refl refl (lit≤ tt) refl bytes d all e)
fill_kept types.Int64 bytes d all e =
    same_fill (int_type 8) bytes d (int_kept 8 (2 ^ 63) 0 refl refl (lit≤ tt) refl bytes d all e)
fill_kept types.UInt8 bytes d all e = same_fill (uint_type 1) bytes d (uint_kept 1 bytes d all e)
fill_kept types.UInt16 bytes d all e = same_fill (uint_type 2) bytes d (uint_kept 2 bytes d all e)
fill_kept types.UInt32 bytes d all e = same_fill (uint_type 4) bytes d (uint_kept 4 bytes d all e)
fill_kept types.UInt64 bytes d all e = same_fill (uint_type 8) bytes d (uint_kept 8 bytes d all e)
fill_kept (types.RawBits n) bytes d all e = same_fill (raw_type n) bytes d (raw_kept n bytes d all e)
fill_kept types.String bytes d all e = same_fill string_type bytes d (string_kept bytes d e)
fill_kept types.Bytes bytes d all e = same_fill bytes_type bytes d (bytes_kept bytes d all e)
fill_kept (types.Optional' pointer inner) bytes d all e = optional_kept (type_of inner) (fill_kept inner) bytes d all e
