-- The runs of a box, row by row.
use Rattle.std.proofs.Common.{◌≡◌, ℕ, zero, suc, ◌+◌, ◌-◌, ◌*◌, ◌^◌, ◌<◌, ◌≤◌, ◌==◌, Bool, true, false, true≢false}
use Rattle.std.proofs.Common.{◌&&◌, cond, nat_eq, nat_le, nat_lt, List, [], ◌∷◌, ◌++◌, length, map, take, drop}
use Rattle.std.proofs.Common.{slice_index_or, refl, sym, ap, ap₂, ◌∙◌, subst, arith, ⊎_elim, append-nil, append_assoc}
use Rattle.std.specs.List.{flat_map, range_with_len}
use Rattle.std.proofs.lemmas.List.{map-append, length-map}
use Rattle.std.proofs.Math.Seq.{take-length}
use Rattle.std.proofs.lemmas.Simd.{map-map}
use Rattle.zarrs_codec_traits.specs.Prelude.{Span, Region, count, count_of, whole, sizes, ends_within, region_of}
use Rattle.zarrs_codec_traits.specs.Prelude.{is_box, lengths}
use Rattle.zarr_model.specs.Cover.{linear_indices}
use Rattle.zarr_model.proofs.RegionLaws.{count_whole, count_within, rank_within}
use Rattle.zarr_model.proofs.ListLaws.{flat_map-same}
use Rattle.zarrs_chunk_grid_iterators.specs.Runs.{is_whole, first_region_of, run_box, run_length, runs}
use Rattle.zarrs_chunk_grid_iterators.proofs.RunCover.{rows, run_box_within}
use Rattle.zarrs_chunk_grid_iterators.proofs.RunShapes.{runs_some, runs_none}
use Rattle.zarrs_storage.specs.declared.byte_range.ByteRange.{ByteRange}
use Rattle.zarrs_storage.specs.declared.byte_range.ByteRange.TheVariants.{FromStart}
use Rattle.std.specs.Prelude.{Some}
use Rattle.std.specs.Int.NonZero.{non_zero_u64_get}
use Rattle.std.specs.declared.num.NonZeroU64.{NonZeroU64}
use Rattle.std.proofs.lemmas.Bool.{and_parts, and_from, eqb-true, eq-eqb, leb-true, cases_lt}
use Rattle.std.proofs.Math.Nat.{mul-le-mul_right, mul-le-mul_left}
use Rattle.zarrs_array_subset.proofs.BoxLaws.{sizes_region, region_parts}
use Rattle.zarrs_array_subset.proofs.Ravels.{factors}
use Rattle.zarr_codecs_to_bytes.specs.Ranges.{run_range, run_ranges, run_after, ranges_after}

abbrev span : ℕ → ℕ → Span
span start size = record { start = start; size = size }

map_same : {A B : Type 0} (f g : A → B) → ((x : A) → f x ≡ g x) → (xs : List A) → map f xs ≡ map g xs
map_same f g same [] = refl
map_same f g same (x ∷ xs) = ap₂ (λ a b. a ∷ b) (same x) (map_same f g same xs)

map-flat_map : {A B C : Type 0} (g : B → C) (f : A → List B) (xs : List A)
    → map g (flat_map f xs) ≡ flat_map (λ x. map g (f x)) xs
map-flat_map g f [] = refl
map-flat_map g f (x ∷ xs) = map-append g (f x) (flat_map f xs) ∙ ap (λ ys. map g (f x) ++ ys) (map-flat_map g f xs)

-- the ranges of the runs of a box in some rows of so many bytes each
abbrev pub rows_after : ℕ → ℕ → ℕ → List ℕ → Region → ℕ → ℕ → List ByteRange
rows_after before size row shape region first many =
    flat_map (λ i. ranges_after (before + i * row) size shape region) (range_with_len first many)

rows_more : (before size row : ℕ) (shape : List ℕ) (region : Region) (first many : ℕ) →
    rows_after before size row shape region first (many + 1) ≡ rows_after before size row shape region first many ++
    ranges_after (before + (first + many) * row) size shape region
rows_more before size row shape region first zero =
    append-nil _ ∙ ap (λ (i : ℕ). ranges_after (before + i * row) size shape region) (let e : first ≡ first + 0 =
    omega arith in e)
rows_more before size row shape region first (suc many) =
    let next : first + 1 + many ≡ first + suc many = omega arith in
    let one : suc many + 1 ≡ suc (many + 1) = omega arith in
    ap (rows_after before size row shape region first) one
    ∙ ap (λ (t : List ByteRange). ranges_after (before + first * row) size shape region ++ t)
    (rows_more before size row shape region (first + 1) many
    ∙ ap (λ (i : ℕ). rows_after before size row shape region (first + 1) many ++ ranges_after (before + i * row) size
    shape region) next)
    ∙ sym (append_assoc (ranges_after (before + first * row) size shape region) (rows_after before size row shape
    region (first + 1) many) (ranges_after (before + (first + suc many) * row) size shape region))

-- one more row behind some
pub one_row_more : (before size row : ℕ) (shape : List ℕ) (region : Region) (first many : ℕ) (old now new : List
    ByteRange) → now ≡ old ++ rows_after before size row shape region first many →
    new ≡ now ++ ranges_after (before + (first + many) * row) size shape region
    → new ≡ old ++ rows_after before size row shape region first (many + 1)
one_row_more before size row shape region first many old now new had more =
    let here : List ByteRange = ranges_after (before + (first + many) * row) size shape region in
    more ∙ (ap (λ (xs : List ByteRange). xs ++ here) had
    ∙ (append_assoc old (rows_after before size row shape region first many) here
    ∙ ap (λ (xs : List ByteRange). old ++ xs) (sym (rows_more before size row shape region first many))))

pub rows_done : (before size row : ℕ) (shape : List ℕ) (region : Region) (first many n : ℕ) (old now all : List
    ByteRange) → now ≡ old ++ rows_after before size row shape region first many → many ≡ n →
    all ≡ rows_after before size row shape region first n → now ≡ old ++ all
rows_done before size row shape region first many n old now all had same is =
    had ∙ ap (λ (xs : List ByteRange). old ++ xs) (ap (rows_after before size row shape region first) same ∙ sym is)

-- products that are the same, of numbers that are no greater
same_low : (n a b : ℕ) → 0 < n → a ≤ b → n * b ≤ n * a → a ≡ b
same_low n a b some less high = ⊎_elim (λ (more : a < b). let grows : n * (a + 1) ≤ n * b =
    mul-le-mul_left n (let m : a + 1 ≤ b = omega (arith, more) in m) in absurd (let bad : ⊥ =
    omega (arith, grows, high, some) in bad)) (λ (same : b ≤ a). omega (arith, less, same)) (cases_lt a b)

same_high : (k n c : ℕ) → 0 < c → n * c ≡ k * c → n ≤ k
same_high k n c some same = ⊎_elim (λ (more : k < n). let grows : (k + 1) * c ≤ n * c =
    mul-le-mul_right c (let m : k + 1 ≤ n = omega (arith, more) in m) in absurd (let bad : ⊥ =
    omega (arith, grows, same, some) in bad)) (λ (less : n ≤ k). less) (cases_lt k n)

whole_parts : (n : ℕ) (shape : List ℕ) (span : Span) (region : Region)
    → is_whole (n ∷ shape) (span ∷ region) ≡ true → (span.start ≡ 0) × (is_whole shape region ≡ true)
whole_parts n shape span region h =
    let outer = and_parts (nat_eq span.start 0 && nat_eq span.size n) (is_whole shape region) h in
    (eqb-true _ _ (and_parts (nat_eq span.start 0) (nat_eq span.size n) outer.0).0, outer.1)

whole_count : (shape : List ℕ) (region : Region) → is_whole shape region ≡ true → count region ≡ count_of shape
whole_count [] [] h = refl
whole_count [] (span ∷ region) h = cc
whole_count (n ∷ shape) [] h = cc
whole_count (n ∷ shape) (span ∷ region) h =
    let outer = and_parts (nat_eq span.start 0 && nat_eq span.size n) (is_whole shape region) h in
    let size : span.size ≡ n = eqb-true _ _ (and_parts (nat_eq span.start 0) (nat_eq span.size n) outer.0).1 in
    ap₂ (λ (a b : ℕ). a * b) size (whole_count shape region outer.1)

-- the first index of a whole, and of a row of wholes
first_row : (n : ℕ) (shape : List ℕ) (span : Span) (region : Region)
    → linear_indices shape (first_region_of region) ≡ 0 ∷ []
    → linear_indices (n ∷ shape) (first_region_of (span ∷ region)) ≡ span.start * count_of shape ∷ []
first_row n shape span region below =
    rows n shape (record { start = span.start; size = 1 }) (first_region_of region)
    ∙ (append-nil _ ∙ (ap (map (λ m. span.start * count (whole shape) + m)) below
    ∙ ap (λ (a : ℕ). a ∷ []) ((let e : span.start * count (whole shape) + 0 ≡ span.start * count (whole shape) =
    omega arith in e) ∙ ap (λ (m : ℕ). span.start * m) (count_whole shape))))

first_whole : (shape : List ℕ) (region : Region) → is_whole shape region ≡ true
    → linear_indices shape (first_region_of region) ≡ 0 ∷ []
first_whole [] [] h = refl
first_whole [] (span ∷ region) h = cc
first_whole (n ∷ shape) [] h = cc
first_whole (n ∷ shape) (span ∷ region) h =
    let w = whole_parts n shape span region h in
    first_row n shape span region (first_whole shape region w.1)
    ∙ ap (λ (a : ℕ). a ∷ []) (ap (λ (a : ℕ). a * count_of shape) w.0 ∙ (let e : 0 * count_of shape ≡ 0 =
    omega arith in e))

-- the run of a box of whole rows
pub one_run : (before size m n s : ℕ) (shape : List ℕ) (region : Region) → is_whole shape region ≡ true
    → 0 < n * count region → ranges_after before size (m ∷ shape) (span s n ∷ region)
    ≡ FromStart (before + s * (count_of shape * size)) (Some (n * (count_of shape * size))) ∷ []
one_run before size m n s shape region all some =
    ap (map (run_after before size)) (runs_some (m ∷ shape) (span s n ∷ region) some
    ∙ (ap (λ (b : Bool). map (λ (index : ℕ). span index (cond b (n * count region) (run_length shape region)))
    (linear_indices (m ∷ shape) (cond b (first_region_of (span s n ∷ region)) (span s n ∷ run_box shape region)))) all
    ∙ ap (map (λ (index : ℕ). span index (n * count region)))
    (first_row m shape (span s n) region (first_whole shape region all))))
    ∙ ap (λ (r : ByteRange). r ∷ []) (ap₂ (λ (a b : ℕ). FromStart (before + a) (Some b))
    (let e : s * count_of shape * size ≡ s * (count_of shape * size) = omega arith in e)
    (ap (λ (c : ℕ). n * c * size) (whole_count shape region all)
    ∙ (let e : n * count_of shape * size ≡ n * (count_of shape * size) = omega arith in e)))

-- all rows of a box whose rows are not whole
pub rows_all : (before size m n s : ℕ) (shape : List ℕ) (region : Region) → is_whole shape region ≡ false
    → 0 < n * count region → ranges_after before size (m ∷ shape) (span s n ∷ region)
    ≡ rows_after before size (count_of shape * size) shape region s n
rows_all before size m n s shape region part some =
    ap (map (run_after before size)) (runs_some (m ∷ shape) (span s n ∷ region) some
    ∙ ap (λ (b : Bool). map (λ (index : ℕ). span index (cond b (n * count region) (run_length shape region)))
    (linear_indices (m ∷ shape) (cond b (first_region_of (span s n ∷ region)) (span s n ∷ run_box shape region)))) part)
    ∙ (map-map (run_after before size) mk (linear_indices (m ∷ shape) (span s n ∷ run_box shape region))
    ∙ (ap (map at) (rows m shape (span s n) (run_box shape region))
    ∙ (map-flat_map at (λ i. map (λ k. i * count (whole shape) + k) below) (range_with_len s n)
    ∙ flat_map-same _ _ row (range_with_len s n))))
  where
    mk : ℕ → Span
    mk index = span index (run_length shape region)

    at : ℕ → ByteRange
    at index = run_after before size (mk index)

    below : List ℕ
    below = linear_indices shape (run_box shape region)

    same : (i k : ℕ) → at (i * count (whole shape) + k) ≡ run_after (before + i * (count_of shape * size)) size (mk k)
    same i k =
        ap (λ (c : ℕ). at (i * c + k)) (count_whole shape)
        ∙ ap (λ (a : ℕ). FromStart a (Some (run_length shape region * size))) (let e : before + (i * count_of shape +
        k) * size ≡ before + i * (count_of shape * size) + k * size = omega arith in e)

    row : (i : ℕ) → map at (map (λ k. i * count (whole shape) + k) below) ≡ ranges_after (before + i * (count_of
        shape * size)) size shape region
    row i =
        map-map at (λ k. i * count (whole shape) + k) below
        ∙ (map_same _ _ (same i) below
        ∙ (sym (map-map (run_after (before + i * (count_of shape * size)) size) mk below)
        ∙ ap (map (run_after (before + i * (count_of shape * size)) size)) (sym (runs_some shape region (factors n
        (count region) some).1))))

-- a box inside a shape that has as many elements is all of it, and one that is all of it has as many
all_whole : (shape : List ℕ) (region : Region) → ends_within region shape ≡ true → 0 < count region
    → count region ≡ count_of shape → is_whole shape region ≡ true
all_whole [] [] inside some same = refl
all_whole [] (span ∷ region) inside some same = cc
all_whole (n ∷ shape) [] inside some same = cc
all_whole (n ∷ shape) (span ∷ region) inside some same =
    let ends = and_parts (nat_le (span.start + span.size) n) (ends_within region shape) inside in
    let end : span.start + span.size ≤ n = leb-true _ _ ends.0 in
    let parts : (0 < span.size) × (0 < count region) = factors span.size (count region) some in
    let less : count region ≤ count_of shape = count_within region shape ends.1 in
    let row : span.size * count_of shape ≤ n * count_of shape =
    mul-le-mul_right (count_of shape) (let s : span.size ≤ n = omega (arith, end) in s) in
    let more : 0 < count_of shape = omega (arith, less, parts.1) in
    let below : count region ≡ count_of shape =
    same_low span.size (count region) (count_of shape) parts.0 less (omega (arith, same, row)) in
    let high : n ≤ span.size = same_high span.size n (count_of shape) more (let e : n * count_of shape ≡ span.size *
    count_of shape = sym (ap (λ (c : ℕ). span.size * c) (sym below) ∙ same) in e) in
    let first : span.start ≡ 0 = omega (arith, end, high) in
    let size : span.size ≡ n = omega (arith, end, high) in
    and_from _ _ (and_from _ _ (eq-eqb _ _ first) (eq-eqb _ _ size)) (all_whole shape region ends.1 parts.1 below)

part_of : (shape : List ℕ) (region : Region) → ¬ (count region ≡ count_of shape) → is_whole shape region ≡ false
part_of shape region other = go (is_whole shape region) refl
  where
    go : (b : Bool) → is_whole shape region ≡ b → b ≡ false
    go true is = absurd (other (whole_count shape region is))
    go false is = refl

-- the bytes of rows inside a shape fit behind those before it
module _ (s n c all before size : ℕ) (room : (s + n) * c ≤ all) (fits : before + all * size < 2 ^ 64) where
  high : (s + n) * c * size ≤ all * size
  high = mul-le-mul_right size room

  rows_fit : before + (s + n) * (c * size) < 2 ^ 64
  rows_fit = omega (arith, high, fits)

  row_fits : (i : ℕ) → i < n → before + (s + i) * (c * size) + c * size < 2 ^ 64
  row_fits i here =
      let less : (s + i + 1) * (c * size) ≤ (s + n) * (c * size) =
      mul-le-mul_right (c * size) (let more : s + i + 1 ≤ s + n = omega (arith, here) in more) in
      omega (arith, less, rows_fit)

  one_fits : 0 < n → c ≤ all
  one_fits some = let less : 1 * c ≤ (s + n) * c = mul-le-mul_right c (let more : 1 ≤ s + n = omega (arith, some) in
      more) in omega (arith, less, room)

-- what is so of a box of a shape and of what is below its first dimension, where the shape has so many elements
pub record Row (start shape : List ℕ) (bounds : List NonZeroU64) (start_below shape_below : List ℕ) (bounds_below :
    List NonZeroU64) (elements : ℕ) : Type 0 where
  pub rank : length shape_below ≡ length bounds_below
  pub fits : is_box start_below shape_below ≡ true
  pub inside : ends_within (region_of start_below shape_below) (lengths bounds_below) ≡ true
  pub some : 0 < count_of shape_below
  pub first : 0 < slice_index_or shape 0 0
  pub room : (slice_index_or start 0 0 + slice_index_or shape 0 0) * elements ≤ count_of (lengths bounds)
  pub runs : count_of (sizes (run_box (lengths bounds_below) (region_of start_below shape_below))) ≤ elements
  pub one : (count_of shape_below == elements) ≡ true
      → count_of (sizes (run_box (lengths bounds) (region_of start shape))) ≡ 1
  pub many : (count_of shape_below == elements) ≡ false
      → count_of (sizes (run_box (lengths bounds) (region_of start shape)))
      ≡ slice_index_or shape 0 0 * count_of (sizes (run_box (lengths bounds_below) (region_of start_below shape_below)))
  pub whole_rows : (before size : ℕ) → (count_of shape_below == elements) ≡ true
      → ranges_after before size (lengths bounds) (region_of start shape)
      ≡ FromStart (before + slice_index_or start 0 0 * (elements * size)) (Some (slice_index_or shape 0 0 * (elements
      * size))) ∷ []
  pub part_rows : (before size : ℕ) → (count_of shape_below == elements) ≡ false
      → ranges_after before size (lengths bounds) (region_of start shape)
      ≡ rows_after before size (elements * size) (lengths bounds_below) (region_of start_below shape_below)
      (slice_index_or start 0 0) (slice_index_or shape 0 0)

first_count : (region : Region) → count_of (sizes (first_region_of region)) ≡ 1
first_count [] = refl
first_count (span ∷ region) = ap (λ (k : ℕ). 1 * k) (first_count region)

row : (s n : ℕ) (m : NonZeroU64) (start shape : List ℕ) (bounds : List NonZeroU64)
    → is_box (s ∷ start) (n ∷ shape) ≡ true
    → ends_within (region_of (s ∷ start) (n ∷ shape)) (lengths (m ∷ bounds)) ≡ true → 0 < n * count_of shape
    → Row (s ∷ start) (n ∷ shape) (m ∷ bounds) start shape bounds (count_of (lengths bounds))
row s n m start shape bounds box inside some = record {
  rank = sym (ap length (sizes_region start shape below)) ∙ (length-map region (λ span. span.size)
      ∙ (rank_within region (lengths bounds) ends.1 ∙ length-map bounds non_zero_u64_get));
  fits = below;
  inside = ends.1;
  some = parts.1;
  first = parts.0;
  room = mul-le-mul_right (count_of (lengths bounds)) (leb-true (s + n) (non_zero_u64_get m) ends.0);
  runs = count_within (run_box (lengths bounds) region) (lengths bounds) (run_box_within (lengths bounds) region
      ends.1 (subst (λ (k : ℕ). 0 < k) (sym as_many) parts.1));
  one = λ same. ap (λ (b : Bool). count_of
      (sizes (cond b (first_region_of (span s n ∷ region)) (span s n ∷ run_box (lengths bounds) region)))) (whole same)
      ∙ first_count (span s n ∷ region);
  many = λ other. ap (λ (b : Bool). count_of
      (sizes (cond b (first_region_of (span s n ∷ region)) (span s n ∷ run_box (lengths bounds) region)))) (part other);
  whole_rows = λ before size same. one_run before size (non_zero_u64_get m) n s (lengths bounds) region (whole same)
      counted;
  part_rows = λ before size other. rows_all before size (non_zero_u64_get m) n s (lengths bounds) region (part other)
      counted;
}
  where
    region : Region
    region = region_of start shape

    below : is_box start shape ≡ true
    below = (and_parts (nat_lt (s + n) (2 ^ 64)) (is_box start shape) box).1

    ends : (nat_le (s + n) (non_zero_u64_get m) ≡ true) × (ends_within region (lengths bounds) ≡ true)
    ends = and_parts (nat_le (s + n) (non_zero_u64_get m)) (ends_within region (lengths bounds)) inside

    parts : (0 < n) × (0 < count_of shape)
    parts = factors n (count_of shape) some

    as_many : count region ≡ count_of shape
    as_many = ap count_of (sizes_region start shape below)

    whole : (count_of shape == count_of (lengths bounds)) ≡ true → is_whole (lengths bounds) region ≡ true
    whole same = all_whole (lengths bounds) region ends.1 (subst (λ (k : ℕ). 0 < k) (sym as_many) parts.1) (as_many
        ∙ eqb-true _ _ same)

    part : (count_of shape == count_of (lengths bounds)) ≡ false → is_whole (lengths bounds) region ≡ false
    part other = part_of (lengths bounds) region (λ same. true≢false (sym (eq-eqb _ _ (sym as_many ∙ same)) ∙ other))

    counted : 0 < n * count region
    counted = subst (λ (k : ℕ). 0 < n * k) (sym as_many) some

-- the rest of a list, as a slice from its second item on has it
rest_is : {A : Type 0} (x : A) (xs : List A) → take (length (x ∷ xs) - 1) (drop 1 (x ∷ xs)) ≡ xs
rest_is x xs = let e : length (x ∷ xs) - 1 ≡ length xs = omega arith in ap (λ (k : ℕ). take k xs) e ∙ take-length xs

abbrev Rests : List ℕ → List ℕ → List NonZeroU64 → ℕ → Type 0
Rests start shape bounds elements =
    Row start shape bounds (take (length start - 1) (drop 1 start)) (take (length shape - 1) (drop 1 shape)) (take
    (length bounds - 1) (drop 1 bounds)) elements

pub row_of : (start shape : List ℕ) (bounds : List NonZeroU64) (elements : ℕ) → is_box start shape ≡ true
    → ends_within (region_of start shape) (lengths bounds) ≡ true → 0 < count_of shape → (length bounds == 0) ≡ false
    → elements ≡ count_of (lengths (take (length bounds - 1) (drop 1 bounds))) → Rests start shape bounds elements
row_of [] [] [] elements box inside some there is = absurd (true≢false there)
row_of [] [] (m ∷ bounds) elements box inside some there is = cc
row_of [] (n ∷ shape) bounds elements box inside some there is = cc
row_of (s ∷ start) [] bounds elements box inside some there is = cc
row_of (s ∷ start) (n ∷ shape) [] elements box inside some there is = cc
row_of (s ∷ start) (n ∷ shape) (m ∷ bounds) elements box inside some there is =
    subst (λ (k : ℕ). Rests (s ∷ start) (n ∷ shape) (m ∷ bounds) k) (sym (is
    ∙ ap (λ (l : List NonZeroU64). count_of (lengths l)) (rest_is m bounds)))
    (subst (λ (a : List ℕ). Row (s ∷ start) (n ∷ shape) (m ∷ bounds) a (take (length (n ∷ shape) - 1) (drop 1 (n ∷
    shape))) (take (length (m ∷ bounds) - 1) (drop 1 (m ∷ bounds))) (count_of (lengths bounds))) (sym (rest_is s
    start))
    (subst (λ (a : List ℕ). Row (s ∷ start) (n ∷ shape) (m ∷ bounds) start a (take (length (m ∷ bounds) - 1) (drop 1
    (m ∷ bounds))) (count_of (lengths bounds))) (sym (rest_is n shape))
    (subst (λ (a : List NonZeroU64). Row (s ∷ start) (n ∷ shape) (m ∷ bounds) start shape a (count_of (lengths
    bounds))) (sym (rest_is m bounds)) (row s n m start shape bounds box inside some))))

-- the bytes of the rows of a box fit, and of each, and so do the elements of a row
module _ (start shape : List ℕ) (bounds : List NonZeroU64) (elements before size : ℕ) (box : is_box start shape ≡
    true) (inside : ends_within (region_of start shape) (lengths bounds) ≡ true) (some : 0 < count_of shape)
    (there : (length bounds == 0) ≡ false) (is : elements ≡ count_of (lengths (take (length bounds - 1) (drop 1
    bounds)))) (room : before + count_of (lengths bounds) * size < 2 ^ 64) where
  here : Rests start shape bounds elements
  here = row_of start shape bounds elements box inside some there is

  pub box_room : before + (slice_index_or start 0 0 + slice_index_or shape 0 0) * (elements * size) < 2 ^ 64
  box_room = rows_fit (slice_index_or start 0 0) (slice_index_or shape 0 0) elements (count_of (lengths bounds))
      before size here.room room

  pub row_room : (i : ℕ) → i < slice_index_or shape 0 0
      → before + (slice_index_or start 0 0 + i) * (elements * size) + elements * size < 2 ^ 64
  row_room = row_fits (slice_index_or start 0 0) (slice_index_or shape 0 0) elements (count_of (lengths bounds))
      before size here.room room

  pub row_few : elements ≤ count_of (lengths bounds)
  row_few = one_fits (slice_index_or start 0 0) (slice_index_or shape 0 0) elements (count_of (lengths bounds))
      before size here.room room here.first

-- a shape without dimensions has one run
pub point : (start shape : List ℕ) (bounds : List NonZeroU64) (before size : ℕ) → is_box start shape ≡ true
    → ends_within (region_of start shape) (lengths bounds) ≡ true → (length bounds == 0) ≡ true
    → (count_of (sizes (run_box (lengths bounds) (region_of start shape))) ≡ 1) × (ranges_after before size (lengths
    bounds) (region_of start shape) ≡ FromStart before (Some size) ∷ [])
point [] [] [] before size box inside none = (
  refl,
  ap (λ (r : ByteRange). r ∷ []) (ap₂ (λ (a b : ℕ). FromStart a (Some b)) (let e : before + 0 * size ≡
      before = omega arith in e) (let e : 1 * size ≡ size = omega arith in e)),
)
point [] [] (m ∷ bounds) before size box inside none = cc
point [] (n ∷ shape) bounds before size box inside none = cc
point (s ∷ start) [] bounds before size box inside none = cc
point (s ∷ start) (n ∷ shape) [] before size box inside none = cc
point (s ∷ start) (n ∷ shape) (m ∷ bounds) before size box inside none = let bad : ⊥ =
    omega (arith, eqb-true _ _ none) in absurd bad

-- nothing is before the first
pub from_first : (size : ℕ) (shape : List ℕ) (region : Region)
    → ranges_after 0 size shape region ≡ run_ranges size shape region
from_first size shape region = map_same _ _ (λ run. ap (λ (a : ℕ). FromStart a (Some (run.size * size))) (let e : 0 +
    run.start * size ≡ run.start * size = omega arith in e)) (runs shape region)

-- the parts of a region inside a shape
pub starts_rank : (region : Region) (bounds : List NonZeroU64) → ends_within region (lengths bounds) ≡ true
    → length (map (λ span. span.start) region) ≡ length bounds
starts_rank region bounds inside = length-map region (λ span. span.start)
    ∙ (rank_within region (lengths bounds) inside ∙ length-map bounds non_zero_u64_get)

pub sizes_rank : (region : Region) (bounds : List NonZeroU64) → ends_within region (lengths bounds) ≡ true
    → length (map (λ span. span.size) region) ≡ length bounds
sizes_rank region bounds inside = length-map region (λ span. span.size)
    ∙ (rank_within region (lengths bounds) inside ∙ length-map bounds non_zero_u64_get)

pub no_ranges : (size : ℕ) (shape : List ℕ) (region : Region) → count region ≡ 0 → run_ranges size shape region ≡ []
no_ranges size shape region none = ap (map (run_range size)) (runs_none shape region none).0

pub ruleset of_regions = (region_parts, starts_rank, sizes_rank, no_ranges)
