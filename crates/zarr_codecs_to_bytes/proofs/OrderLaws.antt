-- The bytes of components in both orders.
use Rattle.std.proofs.Common.{◌≡◌, ◌⊎◌, ℕ, zero, suc, ◌+◌, ◌-◌, ◌*◌, ◌/◌, ◌<◌, ◌≤◌, Bool, true, false, ◌==◌}
use Rattle.std.proofs.Common.{if◌then◌else◌, List, [], ◌∷◌, ◌++◌, length, take, drop, map, flat_map, reverse, Option}
use Rattle.std.proofs.Common.{Some, None, IsSome, refl, sym, ap, ap₂, ◌∙◌, subst, arith, ⊎_elim, inl, inr}
use Rattle.std.proofs.Common.{take-append-drop, eq-eqb, eqb-true}
use Rattle.std.proofs.lemmas.List.{length-append, append_assoc, take_at, drop_at, length-take-le, length-drop}
use Rattle.std.proofs.lemmas.List.{length-reverse, reverse-reverse, drop-drop, drop-take, take-take}
use Rattle.std.proofs.lemmas.Bool.{cond-true, cond-false, ne_eqb}
use Rattle.std.proofs.Math.Nat.{mul-div_left}
use Rattle.zarrs_codec_traits.specs.Prelude.{count_of, Element, of_bytes, kind_of, Kind, fixed, DataType, bool_type}
use Rattle.zarrs_codec_traits.specs.Prelude.{int_type, uint_type, raw_type, string_type, bytes_type, optional_type}
use Rattle.zarrs_codec_traits.specs.Prelude.{ArrayBytes, fixed_bytes, pieces, meaning, is_fixed, list_at, Gives}
use Rattle.zarr_model.specs.Codec.{ByteOrder, little, big, from_order, component_size, decode_fixed, Level, Options}
use Rattle.zarr_model.specs.Codec.{bytes_codec, decode_array_to_bytes}
use Rattle.zarr_model.specs.declared.endianness.Endianness.{Endianness}
use Rattle.zarr_model.specs.declared.endianness.Endianness.TheVariants.{Little, Big}
use Rattle.zarrs_data_type_bytes.specs.Pieces.{components_reversed}
use Rattle.zarrs_data_type_bytes.specs.ByteOrder.{ordered, in_order}
use Rattle.zarrs_data_type_bytes.specs.CodecSupport.{bytes_table, at_least_one}
use Rattle.zarrs_data_type_bytes.proofs.OrderLaws.{decodes}
use Rattle.zarr_model.specs.Command.{bytes_refusal, unexpected_chunk_decoded_size}
use Rattle.zarr_model.proofs.RefusalLaws.{not_refused}
use Rattle.zarrs_codec_error.specs.declared.error.CodecError.{CodecError}
use Rattle.zarrs_codec_array_bytes.specs.Refusals.{BytesAnswer, fine, refused, wrong_length, unfit, other_fill}
use Rattle.zarrs_codec_array_bytes.specs.Refusals.{no_memory, odd, told_by, validity, then_answer}
use Rattle.zarrs_codec_array_bytes.proofs.CheckLaws.{sized_fine, fixed_kind}
use Rattle.zarrs_codec_traits.specs.Errors.{endianness_missing, IsDecodeError}
use Rattle.zarrs_codec_traits.proofs.TakenLaws.{nothing_asked}
use Rattle.zarr_codecs_to_bytes.specs.BytesCodec.{stored_order, component_unserved, element_bytes, bytes_size, IsLaid}

-- the first m components, each reversed
orders : ℕ → ℕ → List ℕ → List ℕ
orders m c v = flat_map reverse (pieces m c v)

rest_long : (m c : ℕ) (v : List ℕ) → length v ≡ suc m * c → length (drop c v) ≡ m * c
rest_long m c v long = length-drop c v ∙ omega (arith, long)

front_long : (m c : ℕ) (v : List ℕ) → length v ≡ suc m * c → length (take c v) ≡ c
front_long m c v long = length-take-le c v (omega (arith, long))

length-orders : (m c : ℕ) (v : List ℕ) → length v ≡ m * c → length (orders m c v) ≡ m * c
unfolding orders
length-orders zero c v long = let none : 0 ≡ 0 * c = omega arith in none
length-orders (suc m) c v long =
    let front : length (reverse (take c v)) ≡ c = length-reverse (take c v) ∙ front_long m c v long in
    let rest : length (orders m c (drop c v)) ≡ m * c = length-orders m c (drop c v) (rest_long m c v long) in
    length-append (reverse (take c v)) (orders m c (drop c v)) ∙ omega (arith, front, rest)

-- twice reversed
orders-orders : (m c : ℕ) (v : List ℕ) → length v ≡ m * c → orders m c (orders m c v) ≡ v
unfolding orders
orders-orders zero c [] long = refl
orders-orders zero c (b ∷ v) long = let bad : ⊥ = omega (arith, long) in absurd bad
orders-orders (suc m) c v long =
    let r = reverse (take c v) in
    let o = orders m c (drop c v) in
    let front : length r ≡ c = length-reverse (take c v) ∙ front_long m c v long in
    ap₂ (λ x y. reverse x ++ orders m c y) (take_at r o c front) (drop_at r o c front)
    ∙ (ap₂ (λ x y. x ++ y) (reverse-reverse (take c v)) (orders-orders m c (drop c v) (rest_long m c v long))
    ∙ take-append-drop c v)

orders-add : (a b c : ℕ) (v : List ℕ) → orders (a + b) c v ≡ orders a c v ++ orders b c (drop (a * c) v)
unfolding orders
orders-add zero b c v = ap₂ (λ (m n : ℕ). orders m c (drop n v))
    (let e : 0 + b ≡ b = omega arith in e) (let e : 0 ≡ 0 * c = omega arith in e)
orders-add (suc a) b c v =
    let one : suc a + b ≡ suc (a + b) = omega arith in
    let far : c + a * c ≡ suc a * c = omega arith in
    ap (λ (m : ℕ). orders m c v) one
    ∙ (ap (λ (xs : List ℕ). reverse (take c v) ++ xs) (orders-add a b c (drop c v) ∙
    ap (λ (xs : List ℕ). orders a c (drop c v) ++ orders b c xs) (drop-drop (a * c) c v ∙ ap (λ (n : ℕ). drop n v) far))
    ∙ sym (append_assoc (reverse (take c v)) (orders a c (drop c v)) (orders b c (drop (suc a * c) v))))

orders-take : (a c n : ℕ) (v : List ℕ) → a * c ≤ n → orders a c (take n v) ≡ orders a c v
unfolding orders
orders-take zero c n v fits = refl
orders-take (suc a) c n v fits =
    let some : c ≤ n = omega (arith, fits) in
    let far : c + (n - c) ≡ n = omega (arith, some) in
    let less : a * c ≤ n - c = omega (arith, fits) in
    ap₂ (λ x y. reverse x ++ orders a c y) (take-take c n v some)
    (ap (λ (m : ℕ). drop c (take m v)) (sym far) ∙ drop-take c (n - c) v)
    ∙ ap (λ (xs : List ℕ). reverse (take c v) ++ xs) (orders-take a c (n - c) (drop c v) less)

-- each element by itself
orders-pieces : (k q c : ℕ) (v : List ℕ) → length v ≡ k * (q * c) →
    pieces k (q * c) (orders (k * q) c v) ≡ map (orders q c) (pieces k (q * c) v)
orders-pieces zero q c v long = refl
orders-pieces (suc k) q c v long =
    let n = q * c in
    let f = orders q c v in
    let o = orders (k * q) c (drop n v) in
    let some : n ≤ length v = omega (arith, long) in
    let more : suc k * q ≡ q + k * q = omega arith in
    let split : orders (suc k * q) c v ≡ f ++ o = ap (λ (m : ℕ). orders m c v) more ∙ orders-add q (k * q) c v in
    let front : orders q c (take n v) ≡ f = orders-take q c n v (omega arith) in
    let as_long : length f ≡ n = ap length (sym front) ∙ length-orders q c (take n v) (length-take-le n v some) in
    let rest : length (drop n v) ≡ k * n = length-drop n v ∙ omega (arith, long) in
    ap (λ (w : List ℕ). take n w ∷ pieces k n (drop n w)) split
    ∙ (ap₂ (λ x y. x ∷ pieces k n y) (take_at f o n as_long ∙ sym front) (drop_at f o n as_long)
    ∙ ap (λ (t : List (List ℕ)). orders q c (take n v) ∷ t) (orders-pieces k q c (drop n v) rest))

big-order : (m c : ℕ) (v : List ℕ) → 0 < c → length v ≡ m * c → from_order big c v ≡ orders m c v
unfolding orders
big-order m c v some long =
    ap (λ (k : ℕ). flat_map reverse (pieces k c v)) (ap (λ (n : ℕ). n / c) long ∙ mul-div_left m some)

each-order : (k q c : ℕ) (v : List ℕ) → 0 < c → length v ≡ k * (q * c) →
    map (orders q c) (pieces k (q * c) v) ≡ map (from_order big c) (pieces k (q * c) v)
each-order zero q c v some long = refl
each-order (suc k) q c v some long =
    let n = q * c in
    let fits : n ≤ length v = omega (arith, long) in
    ap₂ (λ (x : List ℕ) (t : List (List ℕ)). x ∷ t) (sym (big-order q c (take n v) some (length-take-le n v fits)))
    (each-order k q c (drop n v) some (length-drop n v ∙ omega (arith, long)))

same_each : (xs : List (List ℕ)) (c : ℕ) → xs ≡ map (from_order little c) xs
same_each [] c = refl
same_each (x ∷ xs) c = ap (λ (t : List (List ℕ)). x ∷ t) (same_each xs c)

pub order-pieces : (order : ByteOrder) (k q c : ℕ) (v : List ℕ) → 0 < c → length v ≡ k * (q * c) →
    pieces k (q * c) (from_order order c v) ≡ map (from_order order c) (pieces k (q * c) v)
order-pieces little k q c v some long = same_each (pieces k (q * c) v) c
order-pieces big k q c v some long =
    let all : length v ≡ (k * q) * c = omega (arith, long) in
    ap (pieces k (q * c)) (big-order (k * q) c v some all) ∙ (orders-pieces k q c v long ∙ each-order k q c v some long)

pub length-order : (order : ByteOrder) (m c : ℕ) (v : List ℕ) → 0 < c → length v ≡ m * c →
    length (from_order order c v) ≡ m * c
length-order little m c v some long = long
length-order big m c v some long = ap length (big-order m c v some long) ∙ length-orders m c v long

pub order-order : (order : ByteOrder) (m c : ℕ) (v : List ℕ) → 0 < c → length v ≡ m * c →
    from_order order c (from_order order c v) ≡ v
order-order little m c v some long = refl
order-order big m c v some long =
    ap (from_order big c) (big-order m c v some long)
    ∙ (big-order m c (orders m c v) some (length-orders m c v long) ∙ orders-orders m c v long)

map_of : (f : List ℕ → List ℕ) (xs : List (List ℕ)) → map (λ piece. of_bytes (f piece)) xs ≡ map of_bytes (map f xs)
map_of f [] = refl
map_of f (x ∷ xs) = ap (λ (t : List Element). of_bytes (f x) ∷ t) (map_of f xs)

-- how many components an element has
parts_of : (n c : ℕ) → (c ≡ 1) ⊎ (c ≡ n) → (q : ℕ) × (n ≡ q * c)
parts_of n c whole = ⊎_elim (λ (one : c ≡ 1). (n, let e : n ≡ n * c = rw one (omega arith) in e)) (λ (all : c ≡ n).
    (1, let e : n ≡ 1 * c = omega (arith, all) in e)) whole

-- what a value of the right length decodes to, by the bytes in the order of memory
fixed-order : (order : ByteOrder) (level : Level) (n c : ℕ) (value : List ℕ) → component_size level.data_type ≡ c →
    0 < c → (c ≡ 1) ⊎ (c ≡ n) → length value ≡ count_of level.shape * n →
    Gives (meaning (fixed n) (count_of level.shape) (fixed_bytes (from_order order c value)))
    (decode_fixed order level (fixed n) value)
fixed-order order level n c value parts some whole long =
    let k = count_of level.shape in
    let split = parts_of n c whole in
    let q = split.0 in
    let size : n ≡ q * c = split.1 in
    let all : length value ≡ k * (q * c) = long ∙ ap (λ (m : ℕ). k * m) size in
    let many : length value ≡ (k * q) * c = omega (arith, all) in
    let same_length : length (from_order order c value) ≡ k * n =
    length-order order (k * q) c value some many ∙ (sym many ∙ long) in
    let left : meaning (fixed n) k (fixed_bytes (from_order order c value)) ≡
    Some (map of_bytes (pieces k n (from_order order c value))) = cond-true _ _ _ (eq-eqb _ _ same_length) in
    let right : decode_fixed order level (fixed n) value ≡
    Some (map (λ piece. of_bytes (from_order order (component_size level.data_type) piece)) (pieces k n value)) =
    cond-true _ _ _ (eq-eqb _ _ long) in
    let each : pieces k n (from_order order c value) ≡ map (from_order order c) (pieces k n value) =
    ap (λ (m : ℕ). pieces k m (from_order order c value)) size ∙ (order-pieces order k q c value some all
    ∙ ap (λ (m : ℕ). map (from_order order c) (pieces k m value)) (sym size)) in
    let joined : map of_bytes (pieces k n (from_order order c value)) ≡
    map (λ piece. of_bytes (from_order order (component_size level.data_type) piece)) (pieces k n value) =
    ap (map of_bytes) each ∙ (sym (map_of (from_order order c) (pieces k n value))
    ∙ ap (λ (m : ℕ). map (λ (piece : List ℕ). of_bytes (from_order order m piece)) (pieces k n value)) (sym parts)) in
    record {
      same = left ∙ (ap Some joined ∙ sym right);
      there = subst (λ (o : Option (List Element)). IsSome o) (sym left) refl;
    }

-- a value of the right length, decoded
pub decoded : (order : ByteOrder) (under : Options) (level : Level) (n c : ℕ) (value out : List ℕ) →
    IsLaid level.data_type n c → out ≡ from_order order c value → length value ≡ count_of level.shape * n →
    Gives (list_at level (fixed_bytes out)) (decode_array_to_bytes under (bytes_codec order) level value)
decoded order under level n c value out laid made long =
    let given = fixed-order order level n c value laid.parts laid.some laid.whole long in
    rw (made, laid.kind) given

-- a value of another length
pub undecoded : (order : ByteOrder) (under : Options) (level : Level) (n c : ℕ) (value : List ℕ) →
    IsLaid level.data_type n c → ¬ (length value ≡ count_of level.shape * n) →
    decode_array_to_bytes under (bytes_codec order) level value ≡ None
undecoded order under level n c value laid short = rw laid.kind (cond-false _ _ _ (ne_eqb _ _ short))

-- bytes of the right length, encoded
pub encoded : (order : ByteOrder) (under : Options) (level : Level) (n c : ℕ) (value out : List ℕ) →
    IsLaid level.data_type n c → out ≡ from_order order c value → length value ≡ count_of level.shape * n →
    decode_array_to_bytes under (bytes_codec order) level out ≡ list_at level (fixed_bytes value)
encoded order under level n c value out laid made long =
    let k = count_of level.shape in
    let split = parts_of n c laid.whole in
    let q = split.0 in
    let size : n ≡ q * c = split.1 in
    let many : length value ≡ (k * q) * c = long ∙ (ap (λ (m : ℕ). k * m) size ∙ omega arith) in
    let as_long : length out ≡ k * n =
    ap length made ∙ (length-order order (k * q) c value laid.some many ∙ (sym many ∙ long)) in
    let back : from_order order c out ≡ value =
    ap (from_order order c) made ∙ order-order order (k * q) c value laid.some many in
    sym ((decoded order under level n c out value laid (sym back) as_long).same)

-- an order that is served is not missing
pub served_order : (order : Option Endianness) (n : ℕ) (bytes : List ℕ) → component_unserved order (Some n) ≡ None →
    in_order n order bytes ≡ None → ⊥
served_order (Some order) n bytes served missing = given order (n == 1) missing
  where
    given : (order : Endianness) (one : Bool) → (if one then Some bytes else ordered n (Some order) bytes) ≡ None → ⊥
    given order true e = cc
    given Little false e = cc
    given Big false e = cc
served_order None n bytes served missing = lacking (n == 1) served missing
  where
    lacking : (one : Bool) → (if one then None else Some endianness_missing) ≡ None →
        (if one then Some bytes else None) ≡ None → ⊥
    lacking true served missing = cc
    lacking false served missing = cc

-- components of one byte
ones : (v : List ℕ) → orders (length v) 1 v ≡ v
unfolding orders
ones [] = refl
ones (b ∷ v) = ap (λ (l : List ℕ). b ∷ l) (ones v)

big_one : (v : List ℕ) → from_order big 1 v ≡ v
big_one v = big-order (length v) 1 v (omega arith) (let e : length v ≡ length v * 1 = omega arith in e) ∙ ones v

-- the bytes in an order, as the model has them
pub in_stored : (order : Option Endianness) (k n : ℕ) (bytes out : List ℕ) → 0 < n → length bytes ≡ k * n →
    in_order n order bytes ≡ Some out → out ≡ from_order (stored_order order) n bytes
in_stored order k n bytes out some long e = go order (n == 1) refl e
  where
    go : (order : Option Endianness) (one : Bool) → (n == 1) ≡ one →
        (if one then Some bytes else ordered n order bytes) ≡ Some out → out ≡ from_order (stored_order order) n bytes
    go (Some Little) true is e = cc
    go (Some Little) false is e = cc
    go None true is e = cc
    go None false is e = cc
    go (Some Big) true is e =
        let one : n ≡ 1 = eqb-true n 1 is in
        let same : out ≡ bytes = cc in
        same ∙ sym (ap (λ (m : ℕ). from_order big m bytes) one ∙ big_one bytes)
    go (Some Big) false is e =
        let same : out ≡ components_reversed n bytes = cc in
        same ∙ decodes n k bytes some long

-- types whose elements have components
a_size : (c n : ℕ) → at_least_one c ≡ Some n → (c ≡ n) × (0 < n)
a_size zero n e = cc
a_size (suc c) n e = let same : suc c ≡ n = cc in (same, let some : 0 < n = omega (arith, same) in some)

pub laid : (t : DataType) (n : ℕ) → bytes_table t ≡ Some n → IsLaid t (element_bytes t) n
laid bool_type n e = let a = a_size 1 n e in record { kind = refl; parts = a.0; some = a.1; whole = inl (sym a.0) }
laid (int_type m) n e = let a = a_size m n e in record { kind = refl; parts = a.0; some = a.1; whole = inr (sym a.0) }
laid (uint_type m) n e = let a = a_size m n e in record { kind = refl; parts = a.0; some = a.1; whole = inr (sym a.0) }
laid (raw_type m) n e = let a = a_size 1 n e in record { kind = refl; parts = a.0; some = a.1; whole = inl (sym a.0) }
laid string_type n e = absurd (nothing_asked e)
laid bytes_type n e = absurd (nothing_asked e)
laid (optional_type inner) n e = absurd (nothing_asked e)

in_components : (k size n : ℕ) (value : List ℕ) → (n ≡ 1) ⊎ (n ≡ size) → length value ≡ k * size →
    (m : ℕ) × (length value ≡ m * n)
in_components k size n value whole long =
    let split = parts_of size n whole in
    let all : size ≡ split.0 * n = split.1 in
    (k * split.0, let e : length value ≡ (k * split.0) * n = long ∙ (ap (λ (s : ℕ). k * s) all ∙ omega arith) in e)

-- a value of the right length, decoded; one of another length; and array bytes, encoded
pub decoded_here : (order : Option Endianness) (under : Options) (level : Level) (n : ℕ) (value out : List ℕ) →
    bytes_table level.data_type ≡ Some n → in_order n order value ≡ Some out → length value ≡ bytes_size level →
    Gives (list_at level (fixed_bytes out)) (decode_array_to_bytes under (bytes_codec (stored_order order)) level value)
decoded_here order under level n value out served made long =
    let l = laid level.data_type n served in
    let many = in_components (count_of level.shape) (element_bytes level.data_type) n value l.whole long in
    decoded (stored_order order) under level (element_bytes level.data_type) n value out l
    (in_stored order many.0 n value out l.some many.1 made) long

pub length_error : (order : ByteOrder) (under : Options) (level : Level) (n : ℕ) (value : List ℕ) (e : CodecError) →
    bytes_table level.data_type ≡ Some n → ¬ (length value ≡ bytes_size level) →
    told_by e ≡ wrong_length (length value) (bytes_size level) → IsDecodeError (decode_array_to_bytes under
    (bytes_codec order) level value) (λ e. told_by e ≡ wrong_length (length value) (bytes_size level)) e
length_error order under level n value e served other tells = inr
    (undecoded order under level (element_bytes level.data_type) n value (laid level.data_type n served) other, tells)

-- array bytes of a fixed kind that are valid
valid_value : (n number : ℕ) (raw : ArrayBytes) → bytes_refusal (fixed n) number raw ≡ None → (value : List ℕ) →
    raw ≡ fixed_bytes value → length value ≡ number * n
valid_value n number raw valid value is = eqb-true _ _ (not_refused (length value
    == number * n) unexpected_chunk_decoded_size (ap (bytes_refusal (fixed n) number) (sym is) ∙ valid))

pub valid_fixed : (t : DataType) (n number : ℕ) (raw : ArrayBytes) → bytes_table t ≡ Some n →
    validity (kind_of t) number raw ≡ fine → is_fixed raw ≡ true
valid_fixed t n number raw served valid =
    fixed_kind (element_bytes t) number raw
    (ap (λ (k : Kind). bytes_refusal k number raw) (sym (laid t n served).kind) ∙ sized_fine _ _ _ valid)

pub encoded_here :
    (order : Option Endianness) (under : Options) (level : Level) (n : ℕ) (raw : ArrayBytes) (value out : List ℕ) →
    bytes_table level.data_type ≡ Some n → validity (kind_of level.data_type) (count_of level.shape) raw ≡ fine →
    raw ≡ fixed_bytes value → in_order n order value ≡ Some out →
    decode_array_to_bytes under (bytes_codec (stored_order order)) level out ≡ list_at level raw
encoded_here order under level n raw value out served valid is made =
    let l = laid level.data_type n served in
    let whole = ap (λ (k : Kind). bytes_refusal k (count_of level.shape) raw) (sym l.kind) ∙ sized_fine _ _ _ valid in
    let long : length value ≡ bytes_size level =
    valid_value (element_bytes level.data_type) (count_of level.shape) raw whole value is in
    let many = in_components (count_of level.shape) (element_bytes level.data_type) n value l.whole long in
    encoded (stored_order order) under level (element_bytes level.data_type) n value out l
    (in_stored order many.0 n value out l.some many.1 made) long ∙ ap (list_at level) (sym is)

-- nothing is refused beyond what is not valid
pub then_fine : (x : BytesAnswer) → then_answer x fine ≡ x
then_fine fine = refl
then_fine (refused why) = refl
then_fine (wrong_length len expected) = refl
then_fine unfit = refl
then_fine other_fill = refl
then_fine no_memory = refl
then_fine odd = refl
