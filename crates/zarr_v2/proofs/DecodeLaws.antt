-- The elements of a chunk of version 2, one by one.
use Rattle.std.proofs.Common.{◌≡◌, ◌∙◌, ap, ap₂, sym, refl, subst, ℕ, zero, suc, ◌+◌, ◌-◌, ◌*◌, ◌/◌, ◌<◌, ◌≤◌, Bool}
use Rattle.std.proofs.Common.{true, false, List, [], ◌∷◌, length, take, drop, map, flat_map, reverse, get_or, Some}
use Rattle.std.proofs.Common.{arith, length-drop, length-take-le, drop-drop, ext_get_or}
use Rattle.std.specs.Prelude.{◌==◌}
use Rattle.std.proofs.Math.Nat.{add-mul, suc-mul, mul-le-mul_right, div_self}
use Rattle.std.proofs.lemmas.Bool.{eqb-true}
use Rattle.std.proofs.lemmas.List.{append-nil, take_all, get_or-map, length-map}
use Rattle.zarr_model.specs.Prelude.{whole, count, count_of, tuples, place, tuple_at, Element, of_bytes, null, pieces}
use Rattle.zarr_model.specs.Prelude.{ByteOrder, little, big, from_order, Level, fixed, component_size, decode_fixed}
use Rattle.zarr_model.specs.Prelude.{decode_levels, transpose_codec, permuted}
use Rattle.zarr_model.proofs.RegionLaws.{count_whole, length-tuples, get_or-tuples, place-tuple_at, contains-tuple_at}
use Rattle.zarr_model.proofs.BytesLaws.{length-pieces}
use Rattle.zarrs_metadata_v2.specs.declared.array.order.ArrayMetadataV2Order.TheVariants.{C, F}
use Rattle.zarr_v2.specs.ChunksV2.{column_place, bytes_from, element_v2_at, decode_v2}
use Rattle.zarr_v2.specs.Translate.{reversed_order}
use Rattle.zarr_v2.proofs.ReversedLaws.{place_reversed, column_below, permuted_reversed, permuted_rank, count_reversed}
use Rattle.zarr_v2.proofs.ReversedLaws.{rank_of}

piece_at : (k n i : ℕ) (value : List ℕ) → i < k → get_or (pieces k n value) i [] ≡ take n (drop (i * n) value)
piece_at zero n i value inside = let f : ⊥ = omega (arith, inside) in absurd f
piece_at (suc k) n zero value inside = let none : 0 ≡ 0 * n = omega arith in ap (λ (m : ℕ). take n (drop m value)) none
piece_at (suc k) n (suc i) value inside =
    let more : suc i * n ≡ n + i * n = suc-mul i n ∙ (let e : i * n + n ≡ n + i * n = omega arith in e) in
    piece_at k n i (drop n value) (omega (arith, inside))
    ∙ ap (take n) (drop-drop (i * n) n value ∙ ap (λ (m : ℕ). drop m value) (sym more))

-- an element of one component
order_same : (bytes : ByteOrder) (n : ℕ) (piece : List ℕ) → 0 < n → length piece ≡ n →
    from_order bytes n piece ≡ bytes_from bytes piece
order_same little n piece some is = refl
order_same big n piece some is =
    let one : length piece / n ≡ 1 = ap (λ (m : ℕ). m / n) is ∙ div_self some in
    let all : length piece ≤ n = omega (arith, is) in
    ap (λ (k : ℕ). flat_map reverse (pieces k n piece)) one
    ∙ (append-nil (reverse (take n piece)) ∙ ap reverse (take_all n piece all))

-- the element of a number below the count
pub decoded_at : (bytes : ByteOrder) (n component m : ℕ) (value : List ℕ) → 0 < n → component ≡ n →
    length value ≡ m * n → (k : ℕ) → k < m →
    get_or (map (λ (piece : List ℕ). of_bytes (from_order bytes component piece)) (pieces m n value)) k null ≡
    element_v2_at bytes n value k
decoded_at bytes n component m value some same long k below =
    let inside : k < length (pieces m n value) = subst (λ (l : ℕ). k < l) (sym (length-pieces m n value)) below in
    let upto = mul-le-mul_right n (let h : k + 1 ≤ m = omega (arith, below) in h) in
    let more = add-mul k 1 n in
    let room : n ≤ length value - k * n = omega (arith, upto, more, long) in
    let rest : n ≤ length (drop (k * n) value) = subst (λ (l : ℕ). n ≤ l) (sym (length-drop (k * n) value)) room in
    let size = length-take-le n (drop (k * n) value) rest in
    get_or-map (λ (piece : List ℕ). of_bytes (from_order bytes component piece)) (pieces m n value) k [] null inside
    ∙ (ap (λ (piece : List ℕ). of_bytes (from_order bytes component piece)) (piece_at m n k value below)
    ∙ (ap (λ (c : ℕ). of_bytes (from_order bytes c (take n (drop (k * n) value)))) same
    ∙ ap of_bytes (order_same bytes n (take n (drop (k * n) value)) some size)))

-- a list made of the tuples of a shape, one by one
long_tuples : (shape : List ℕ) (f : List ℕ → Element) → length (map f (tuples (whole shape))) ≡ count_of shape
long_tuples shape f = length-map (tuples (whole shape)) f ∙ (length-tuples (whole shape) ∙ count_whole shape)

at_tuple : (shape : List ℕ) (f : List ℕ → Element) (k : ℕ) → k < count_of shape →
    get_or (map f (tuples (whole shape))) k null ≡ f (tuple_at (whole shape) k)
at_tuple shape f k below =
    let inside : k < length (tuples (whole shape)) =
    subst (λ (l : ℕ). k < l) (sym (length-tuples (whole shape) ∙ count_whole shape)) below in
    let counted : k < count (whole shape) = subst (λ (l : ℕ). k < l) (sym (count_whole shape)) below in
    get_or-map f (tuples (whole shape)) k [] null inside ∙ ap f (get_or-tuples (whole shape) k [] counted)

module _ (bytes : ByteOrder) (n : ℕ) (level : Level) (value : List ℕ)
    (some : 0 < n) (same : component_size level.data_type ≡ n) where
  abbrev element_of : List ℕ → Element
  element_of piece = of_bytes (from_order bytes (component_size level.data_type) piece)

  rows_list : length value ≡ count_of level.shape * n →
      map (λ tuple. element_v2_at bytes n value (place (whole level.shape) tuple)) (tuples (whole level.shape)) ≡
      map element_of (pieces (count_of level.shape) n value)
  rows_list long =
      let f : List ℕ → Element = λ tuple. element_v2_at bytes n value (place (whole level.shape) tuple) in
      let m = count_of level.shape in
      let lengths : length (map f (tuples (whole level.shape))) ≡ length (map element_of (pieces m n value)) =
      long_tuples level.shape f ∙ sym (length-map (pieces m n value) element_of ∙ length-pieces m n value) in
      ext_get_or null (map f (tuples (whole level.shape))) (map element_of (pieces m n value)) lengths (λ k h.
      let below : k < m = subst (λ (l : ℕ). k < l) (long_tuples level.shape f) h in
      let counted : k < count (whole level.shape) = subst (λ (l : ℕ). k < l) (sym (count_whole level.shape)) below in
      at_tuple level.shape f k below ∙ (ap (element_v2_at bytes n value) (place-tuple_at (whole level.shape) k counted)
      ∙ sym (decoded_at bytes n (component_size level.data_type) m value some same long k below)))

  pub rows : decode_v2 C bytes n level.shape value ≡ decode_fixed bytes level (fixed n) value
  rows = go (length value == count_of level.shape * n) refl
    where
      go : (b : Bool) → (length value == count_of level.shape * n) ≡ b →
          decode_v2 C bytes n level.shape value ≡ decode_fixed bytes level (fixed n) value
      go true is = rw is (ap Some (rows_list (eqb-true _ _ is)))
      go false is = rw is refl

  abbrev order : List ℕ
  order = reversed_order (length level.shape)

  abbrev turned : List ℕ
  turned = permuted order level.shape

  turned_count : count_of turned ≡ count_of level.shape
  turned_count = ap count_of (permuted_reversed level.shape) ∙ count_reversed level.shape

  columns_list : length value ≡ count_of turned * n →
      map (λ tuple. element_v2_at bytes n value (column_place level.shape tuple)) (tuples (whole level.shape))
      ≡ map (λ tuple. get_or (map element_of (pieces (count_of turned) n value))
      (place (whole turned) (permuted order tuple)) null) (tuples (whole level.shape))
  columns_list long =
      let f : List ℕ → Element = λ tuple. element_v2_at bytes n value (column_place level.shape tuple) in
      let g : List ℕ → Element = λ tuple.
      get_or (map element_of (pieces (count_of turned) n value)) (place (whole turned) (permuted order tuple)) null in
      let lengths : length (map f (tuples (whole level.shape))) ≡ length (map g (tuples (whole level.shape))) =
      long_tuples level.shape f ∙ sym (long_tuples level.shape g) in
      ext_get_or null (map f (tuples (whole level.shape))) (map g (tuples (whole level.shape))) lengths (λ k h.
      let below : k < count_of level.shape = subst (λ (l : ℕ). k < l) (long_tuples level.shape f) h in
      let counted : k < count (whole level.shape) = subst (λ (l : ℕ). k < l) (sym (count_whole level.shape)) below in
      let t = tuple_at (whole level.shape) k in
      let inside = contains-tuple_at (whole level.shape) k counted in
      let rank = rank_of level.shape t inside in
      let number : place (whole turned) (permuted order t) ≡ column_place level.shape t =
      ap₂ (λ (s u : List ℕ). place (whole s) u) (permuted_reversed level.shape)
      (permuted_rank (length level.shape) t rank) ∙ place_reversed level.shape t rank in
      let less : column_place level.shape t < count_of turned =
      subst (λ (l : ℕ). column_place level.shape t < l) (sym turned_count) (column_below level.shape t inside) in
      at_tuple level.shape f k below
      ∙ (sym (decoded_at bytes n (component_size level.data_type) (count_of turned) value some same long
      (column_place level.shape t) less)
      ∙ (ap (λ (p : ℕ). get_or (map element_of (pieces (count_of turned) n value)) p null) (sym number)
      ∙ sym (at_tuple level.shape g k below))))

  pub columns : decode_v2 F bytes n level.shape value ≡ decode_levels (transpose_codec
      (reversed_order (length level.shape)) ∷ []) (λ below. decode_fixed bytes below (fixed n)) level value
  columns = go (length value == count_of turned * n) refl
    where
      test : (length value == count_of level.shape * n) ≡ (length value == count_of turned * n)
      test = ap (λ (c : ℕ). length value == c * n) (sym turned_count)

      go : (b : Bool) → (length value == count_of turned * n) ≡ b →
          decode_v2 F bytes n level.shape value ≡ decode_levels (transpose_codec (reversed_order (length level.shape))
          ∷ []) (λ below. decode_fixed bytes below (fixed n)) level value
      go true is = rw (test ∙ is, is) (ap Some (columns_list (eqb-true _ _ is)))
      go false is = rw (test ∙ is, is) refl
