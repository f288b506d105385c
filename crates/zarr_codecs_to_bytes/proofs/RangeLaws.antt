-- What the ranges of a region's runs hold.
use Rattle.std.proofs.Common.{◌≡◌, ℕ, zero, suc, ◌+◌, ◌-◌, ◌*◌, ◌<◌, ◌≤◌, ◌==◌, true, List, [], ◌∷◌, ◌++◌, length, take}
use Rattle.std.proofs.Common.{drop, map, get_or, Some, refl, sym, ap, ap₂, ◌∙◌, subst, arith, eq-eqb, eqb-true}
use Rattle.std.specs.List.{concat, flat_map, range_with_len}
use Rattle.std.proofs.lemmas.Bool.{cond-true}
use Rattle.std.proofs.lemmas.List.{length-append, length-map, length-take-le, length-drop, take_at, drop_at, drop-drop}
use Rattle.std.proofs.lemmas.List.{get_or-map}
use Rattle.std.proofs.lemmas.Grind.{flat_map-append}
use Rattle.std.proofs.lemmas.Simd.{map-map}
use Rattle.std.proofs.Math.Nat.{mul-le-mul_right}
use Rattle.std.proofs.Math.Seq.{take-add}
use Rattle.zarrs_codec_traits.specs.Prelude.{Span, Region, count_of, sizes, ends_within, tuples, linear_index, pieces}
use Rattle.zarrs_codec_traits.specs.Prelude.{slices_of, AllBelow, piece_of, at_box, select}
use Rattle.zarr_model.specs.Element.{Element, of_bytes, null, fixed}
use Rattle.zarr_model.specs.Codec.{ByteOrder, Level, from_order, component_size, decode_fixed}
use Rattle.zarr_model.proofs.BytesLaws.{when_some, length-pieces}
use Rattle.zarr_model.proofs.RegionLaws.{length-tuples}
use Rattle.zarrs_chunk_grid_iterators.specs.Runs.{runs, joined}
use Rattle.zarrs_chunk_grid_iterators.proofs.BoxFacts.{box_inside, box_joins}
use Rattle.zarrs_codec_slices.proofs.LeafLaws.{below_rest, map_below, get_or-pieces}
use Rattle.zarrs_codec_slices.proofs.RowLaws.{indices_below}
use Rattle.zarr_codecs_to_bytes.specs.Ranges.{run_range, run_ranges}

-- the pieces of a run, one after another, are its bytes
run_pieces : (n : ℕ) (value : List ℕ) (a k : ℕ)
    → flat_map (piece_of n value) (range_with_len a k) ≡ take (k * n) (drop (a * n) value)
run_pieces n value a zero = ap (λ (m : ℕ). take m (drop (a * n) value)) (let e : 0 ≡ 0 * n = omega arith in e)
run_pieces n value a (suc k) =
    let next : a * n + n ≡ (a + 1) * n = omega arith in
    let all : n + k * n ≡ suc k * n = omega arith in
    ap (λ (rest : List ℕ). piece_of n value a ++ rest)
    (run_pieces n value (a + 1) k
    ∙ ap (λ (m : ℕ). take (k * n) (drop m value)) (sym next) ∙ ap (take (k * n)) (sym (drop-drop n (a * n) value)))
    ∙ (sym (take-add n (k * n) (drop (a * n) value)) ∙ ap (λ (m : ℕ). take m (drop (a * n) value)) all)

-- and so of several runs
joined_pieces : (n : ℕ) (value : List ℕ) (spans : List Span)
    → flat_map (piece_of n value) (joined spans) ≡ concat (slices_of (map (run_range n) spans) value)
joined_pieces n value [] = refl
joined_pieces n value (s ∷ spans) =
    let many : s.start * n + s.size * n - s.start * n ≡ s.size * n = omega arith in
    flat_map-append (piece_of n value) (range_with_len s.start s.size) (joined spans)
    ∙ ap₂ (λ (x y : List ℕ). x ++ y) (run_pieces n value s.start s.size
    ∙ ap (λ (m : ℕ). take m (drop (s.start * n) value)) (sym many)) (joined_pieces n value spans)

-- pieces that are joined
pieces_back : (n : ℕ) (f : ℕ → List ℕ) (limit : ℕ) (places : List ℕ) → ((k : ℕ) → k < limit → length (f k) ≡ n)
    → AllBelow limit places → pieces (length places) n (flat_map f places) ≡ map f places
pieces_back n f limit [] long all = refl
pieces_back n f limit (p ∷ places) long all =
    let here : length (f p) ≡ n = long p (all 0 (omega arith)) in
    ap₂ (λ (x : List ℕ) (t : List (List ℕ)). x ∷ t) (take_at (f p) (flat_map f places) n here)
    (ap (pieces (length places) n) (drop_at (f p) (flat_map f places) n here)
    ∙ pieces_back n f limit places long (below_rest limit p places all))

length_back : (n : ℕ) (f : ℕ → List ℕ) (limit : ℕ) (places : List ℕ) → ((k : ℕ) → k < limit → length (f k) ≡ n)
    → AllBelow limit places → length (flat_map f places) ≡ length places * n
length_back n f limit [] long all = let e : 0 ≡ 0 * n = omega arith in e
length_back n f limit (p ∷ places) long all =
    let here : length (f p) ≡ n = long p (all 0 (omega arith)) in
    let rest : length (flat_map f places) ≡ length places * n =
    length_back n f limit places long (below_rest limit p places all) in
    length-append (f p) (flat_map f places) ∙ omega (arith, here, rest)

-- a piece of a value of so many pieces has their size
piece_long : (n number : ℕ) (value : List ℕ) → length value ≡ number * n → (k : ℕ) → k < number
    → length (piece_of n value k) ≡ n
piece_long n number value long k h =
    let high : (k + 1) * n ≤ number * n = mul-le-mul_right n (let more : k + 1 ≤ number = omega (arith, h) in more) in
    let rest : length (drop (k * n) value) ≡ length value - k * n = length-drop (k * n) value in
    length-take-le n (drop (k * n) value) (omega (arith, high, long, rest))

-- what the ranges of a region's runs hold decodes to the elements of the region
pub ranges_decode : (order : ByteOrder) (level : Level) (box : Region) (n : ℕ) (value : List ℕ) (xs : List Element)
    → ends_within box level.shape ≡ true → decode_fixed order level (fixed n) value ≡ Some xs
    → decode_fixed order (at_box box level) (fixed n) (concat (slices_of (run_ranges n level.shape box) value)) ≡
    Some (select level.shape box xs)
ranges_decode order level box n value xs inside means =
    cond-true _ _ _ (eq-eqb _ _ as_long) ∙ ap Some same
  where
    k : ℕ
    k = count_of level.shape

    places : List ℕ
    places = map (linear_index level.shape) (tuples box)

    turned : List ℕ → Element
    turned piece = of_bytes (from_order order (component_size level.data_type) piece)

    parts : ((length value == k * n) ≡ true) × (map turned (pieces k n value) ≡ xs)
    parts = when_some (length value == k * n) (map turned (pieces k n value)) xs means

    long : length value ≡ k * n
    long = eqb-true _ _ parts.0

    below : AllBelow k places
    below = indices_below level.shape (tuples box) (box_inside box level.shape inside)

    many : length places ≡ count_of (sizes box)
    many = length-map (tuples box) (linear_index level.shape) ∙ length-tuples box

    given : List ℕ
    given = concat (slices_of (run_ranges n level.shape box) value)

    is_given : given ≡ flat_map (piece_of n value) places
    is_given = sym (joined_pieces n value (runs level.shape box))
        ∙ ap (flat_map (piece_of n value)) (box_joins box level.shape inside)

    as_long : length given ≡ count_of (sizes box) * n
    as_long = ap length is_given ∙ (length_back n (piece_of n value) k places (piece_long n k value long) below
        ∙ ap (λ (m : ℕ). m * n) many)

    element_at : (i : ℕ) → i < k → turned (piece_of n value i) ≡ get_or xs i null
    element_at i h =
        sym (ap (λ (l : List Element). get_or l i null) (sym parts.1)
        ∙ (get_or-map turned (pieces k n value) i [] null (subst (λ (m : ℕ). i < m) (sym (length-pieces k n value))
        h) ∙ ap turned (get_or-pieces k n value i [] h)))

    same : map turned (pieces (count_of (sizes box)) n given) ≡ select level.shape box xs
    same =
        ap (λ (m : ℕ). map turned (pieces m n given)) (sym many)
        ∙ (ap (λ (v : List ℕ). map turned (pieces (length places) n v)) is_given
        ∙ (ap (map turned) (pieces_back n (piece_of n value) k places (piece_long n k value long) below)
        ∙ (map-map turned (piece_of n value) places
        ∙ (map_below (λ (p : ℕ). turned (piece_of n value p)) (λ (p : ℕ). get_or xs p null) k places element_at below
        ∙ map-map (λ (p : ℕ). get_or xs p null) (linear_index level.shape) (tuples box)))))
