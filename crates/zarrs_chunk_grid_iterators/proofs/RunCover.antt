-- The runs of a region are its linear indices in order, and a least cover of them.
use Rattle.std.proofs.Common.{◌≡◌, ℕ, zero, suc, ◌+◌, ◌-◌, ◌*◌, ◌<◌, ◌≤◌, ◌&&◌, ◌||◌, Bool, true, false, cond, nat_eq}
use Rattle.std.proofs.Common.{nat_lt, nat_le, List, [], ◌∷◌, ◌++◌, length, map, get_or, refl, sym, ap, ap₂, ◌∙◌, subst}
use Rattle.std.proofs.Common.{subst₂, arith, append-nil, ⊎_elim, ◌⊎◌, inl, inr}
use Rattle.std.specs.List.{range_with_len, list_any, flat_map, count_by, All, IsDistinct, AllByRecursion}
use Rattle.std.proofs.lemmas.List.Folds.{Any-from_list_any, list_any-from_Any}
use Rattle.std.proofs.lemmas.List.Elements.{All-map}
use Rattle.std.proofs.lemmas.Nat.{same_from_place}
use Rattle.std.specs.Cmp.{nat_eq_equiv}
use Rattle.std.proofs.lemmas.List.Concat.{flat_map-append}
use Rattle.std.proofs.lemmas.List.Folds.{flat_map-map}
use Rattle.std.proofs.lemmas.List.{map-append, length-map, get_or-map}
use Rattle.std.proofs.lemmas.Simd.{map-map}
use Rattle.std.proofs.lemmas.List.Sums.{sum_by-cons, sum_by-append}
use Rattle.std.proofs.lemmas.Map.Made.{length-le_from_is_member}
use Rattle.std.proofs.lemmas.Map.Keys.{IsDistinct-from_apart, IsDistinct-head, IsDistinct-tail}
use Rattle.std.proofs.lemmas.Bool.{and_parts, and_from, leb-true, ltb-true, le-leb, eqb-true, eq-eqb, ne_eqb, cases_lt}
use Rattle.std.proofs.lemmas.Bool.{cases_eq}
use Rattle.std.proofs.Math.Nat.{suc-mul, zero-mul, mul-le-mul_right}
use Rattle.zarr_model.specs.Region.{Span, Region, count, whole, contains, is_in, ends_within, tuples, linear_index}
use Rattle.zarr_model.specs.Cover.{IsCover, linear_indices}
use Rattle.zarr_model.proofs.RegionLaws.{length-tuples, get_or-tuples, place_below, contains-tuple_at, span_in, in_span}
use Rattle.zarr_model.proofs.RegionLaws.{rank_within, positive_parts, tuples-empty}
use Rattle.zarr_model.proofs.ArrayLaws.{linear_rises, tuples_are, inside_shape}
use Rattle.zarr_model.specs.Region.{tuple_at}
use Rattle.zarr_model.proofs.ListLaws.{flat_map-same}
use Rattle.zarr_model.proofs.Choices.{alone}
use Rattle.zarrs_chunk_grid_iterators.specs.Runs.{is_whole, first_region_of, run_box, run_length, runs, joined}
use Rattle.zarrs_chunk_grid_iterators.specs.Runs.{is_linear_index, CoversLeast}

-- ---- lists
map-flat_map : {A B C : Type 0} (g : B → C) (f : A → List B) (xs : List A) →
    map g (flat_map f xs) ≡ flat_map (λ x. map g (f x)) xs
map-flat_map g f [] = refl
map-flat_map g f (x ∷ xs) = map-append g (f x) (flat_map f xs) ∙ ap (λ ys. map g (f x) ++ ys) (map-flat_map g f xs)

flat_map-flat_map : {A B C : Type 0} (g : B → List C) (f : A → List B) (xs : List A) →
    flat_map g (flat_map f xs) ≡ flat_map (λ x. flat_map g (f x)) xs
flat_map-flat_map g f [] = refl
flat_map-flat_map g f (x ∷ xs) =
    flat_map-append g (f x) (flat_map f xs) ∙ ap (λ ys. flat_map g (f x) ++ ys) (flat_map-flat_map g f xs)

map_same : {A B : Type 0} (f g : A → B) → ((x : A) → f x ≡ g x) → (xs : List A) → map f xs ≡ map g xs
map_same f g same [] = refl
map_same f g same (x ∷ xs) = ap₂ (λ a b. a ∷ b) (same x) (map_same f g same xs)

range-append : (a m n : ℕ) → range_with_len a (m + n) ≡ range_with_len a m ++ range_with_len (a + m) n
range-append a zero n = ap₂ range_with_len (sym (omega arith)) (omega arith)
range-append a (suc m) n = let e : suc m + n ≡ suc (m + n) = omega arith in
    ap (range_with_len a) e ∙ ap (λ ys.
    a ∷ ys) (range-append (a + 1) m n ∙ ap (λ k. range_with_len (a + 1) m ++ range_with_len k n) (omega arith))

shift-range : (k a n : ℕ) → map (λ m. k + m) (range_with_len a n) ≡ range_with_len (k + a) n
shift-range k a zero = refl
shift-range k a (suc n) = ap (λ ys. (k + a) ∷ ys) (shift-range k (a + 1) n ∙ ap (λ b. range_with_len b n) (omega arith))

-- rows of P numbers, one after another
rows_join : (p start size : ℕ) →
    flat_map (λ i. range_with_len (i * p) p) (range_with_len start size) ≡ range_with_len (start * p) (size * p)
rows_join p start zero = sym (ap (range_with_len (start * p)) (zero-mul p))
rows_join p start (suc size) =
    ap (λ ys. range_with_len (start * p) p ++ ys) (rows_join p (start + 1) size ∙ ap (λ a.
    range_with_len a (size * p)) (let e : (start + 1) * p ≡ start * p + p = omega (arith, suc-mul start p) in e))
    ∙ (sym (range-append (start * p) p (size * p))
    ∙ ap (range_with_len (start * p)) (let e : p + size * p ≡ suc size * p = omega (arith, suc-mul size p) in e))

-- ---- linear indices, row by row
pub rows : (n : ℕ) (shape : List ℕ) (span : Span) (region : Region) →
    linear_indices (n ∷ shape) (span ∷ region) ≡ flat_map (λ i.
    map (λ m. i * count (whole shape) + m) (linear_indices shape region)) (range_with_len span.start span.size)
rows n shape span region =
    map-flat_map (linear_index (n ∷ shape)) (λ index. map (λ tuple. index ∷ tuple) (tuples region))
    (range_with_len span.start span.size)
    ∙ flat_map-same _ _ (λ i. map-map (linear_index (n ∷ shape)) (λ tuple. i ∷ tuple) (tuples region)
    ∙ map_same _ _ (λ tuple. let e : i - 0 ≡ i = omega arith in
    ap (λ k. k * count (whole shape) + linear_index shape tuple) e) (tuples region)
    ∙ sym (map-map (λ m. i * count (whole shape) + m) (linear_index shape) (tuples region)))
    (range_with_len span.start span.size)

whole_parts : (n : ℕ) (shape : List ℕ) (span : Span) (region : Region) → is_whole (n ∷ shape) (span ∷ region) ≡ true →
    (span.start ≡ 0) × (span.size ≡ n) × (is_whole shape region ≡ true)
whole_parts n shape span region h =
    let outer = and_parts (nat_eq span.start 0 && nat_eq span.size n) (is_whole shape region) h in
    let here = and_parts (nat_eq span.start 0) (nat_eq span.size n) outer.0 in
    (eqb-true _ _ here.0, eqb-true _ _ here.1, outer.1)

count_whole_region : (shape : List ℕ) (region : Region) → is_whole shape region ≡ true →
    count region ≡ count (whole shape)
count_whole_region [] [] h = refl
count_whole_region [] (span ∷ region) h = cc
count_whole_region (n ∷ shape) [] h = cc
count_whole_region (n ∷ shape) (span ∷ region) h = let w = whole_parts n shape span region h in
    ap₂ (λ a b. a * b) w.1 (count_whole_region shape region w.2)

-- a row of runs of p numbers each
row_of_ranges : (p start size : ℕ) (xs : List ℕ) → xs ≡ range_with_len 0 p →
    flat_map (λ i. map (λ m. i * p + m) xs) (range_with_len start size) ≡ range_with_len (start * p) (size * p)
row_of_ranges p start size xs e =
    flat_map-same _ _ (λ i. ap (map (λ m. i * p + m)) e ∙ shift-range (i * p) 0 p
    ∙ ap (λ a. range_with_len a p) (let z : i * p + 0 ≡ i * p = omega arith in z)) (range_with_len start size)
    ∙ rows_join p start size

whole_indices : (shape : List ℕ) (region : Region) → is_whole shape region ≡ true →
    linear_indices shape region ≡ range_with_len 0 (count (whole shape))
whole_indices [] [] h = refl
whole_indices [] (span ∷ region) h = cc
whole_indices (n ∷ shape) [] h = cc
whole_indices (n ∷ shape) (span ∷ region) h =
    let w = whole_parts n shape span region h in
    rows n shape span region ∙ row_of_ranges (count (whole shape)) span.start span.size (linear_indices shape region)
    (whole_indices shape region w.2)
    ∙ ap₂ (λ a b. range_with_len (a * count (whole shape)) (b * count (whole shape))) w.0 w.1
    ∙ ap (λ a. range_with_len a (n * count (whole shape))) (zero-mul (count (whole shape)))

first_indices : (shape : List ℕ) (region : Region) → is_whole shape region ≡ true →
    linear_indices shape (first_region_of region) ≡ 0 ∷ []
first_indices [] [] h = refl
first_indices [] (span ∷ region) h = cc
first_indices (n ∷ shape) [] h = cc
first_indices (n ∷ shape) (span ∷ region) h =
    let w = whole_parts n shape span region h in
    rows n shape (record { start = span.start; size = 1 }) (first_region_of region)
    ∙ append-nil _ ∙ ap (map (λ m. span.start * count (whole shape) + m)) (first_indices shape region w.2)
    ∙ ap (λ a. a ∷ []) (ap (λ a. a * count (whole shape) + 0) w.0 ∙ omega (arith, zero-mul (count (whole shape))))

-- where a run ends, the next number that is listed begins the next run
pub starts_in_order : (shape : List ℕ) (region : Region) → length region ≡ length shape →
    flat_map (λ index. range_with_len index (run_length shape region)) (linear_indices shape (run_box shape region)) ≡
    linear_indices shape region
starts_in_order [] [] rank = refl
starts_in_order [] (span ∷ region) rank = cc
starts_in_order (n ∷ shape) [] rank = cc
starts_in_order (n ∷ shape) (span ∷ region) rank =
    go (is_whole shape region) refl (starts_in_order shape region (omega arith))
  where
    go : (b : Bool) → is_whole shape region ≡ b →
        flat_map (λ index. range_with_len index (run_length shape region))
        (linear_indices shape (run_box shape region)) ≡ linear_indices shape region →
        flat_map (λ index. range_with_len index (cond b (span.size * count region) (run_length shape region)))
        (linear_indices (n ∷ shape) (cond b (first_region_of (span ∷ region)) (span ∷ run_box shape region))) ≡
        linear_indices (n ∷ shape) (span ∷ region)
    go true h ih =
        let p : ℕ = count (whole shape) in
        ap (flat_map (λ index. range_with_len index (span.size * count region)))
        (rows n shape (record { start = span.start; size = 1 }) (first_region_of region) ∙ append-nil _
        ∙ ap (map (λ m. span.start * p + m)) (first_indices shape region h))
        ∙ append-nil _
        ∙ ap₂ range_with_len (let z : span.start * p + 0 ≡ span.start * p = omega arith in
        z) (ap (λ c. span.size * c) (count_whole_region shape region h))
        ∙ sym (rows n shape span region
        ∙ row_of_ranges p span.start span.size (linear_indices shape region) (whole_indices shape region h))
    go false h ih =
        let p : ℕ = count (whole shape) in
        let l : ℕ = run_length shape region in
        ap (flat_map (λ index. range_with_len index l)) (rows n shape span (run_box shape region))
        ∙ flat_map-flat_map (λ index. range_with_len index l)
        (λ i. map (λ m. i * p + m) (linear_indices shape (run_box shape region))) (range_with_len span.start span.size)
        ∙ flat_map-same _ _ (λ i.
        flat_map-map (λ index. range_with_len index l) (λ m. i * p + m) (linear_indices shape (run_box shape region))
        ∙ flat_map-same _ _ (λ m. sym (shift-range (i * p) m l)) (linear_indices shape (run_box shape region))
        ∙ sym (map-flat_map (λ m. i * p + m) (λ m. range_with_len m l) (linear_indices shape (run_box shape region)))
        ∙ ap (map (λ m. i * p + m)) ih) (range_with_len span.start span.size)
        ∙ sym (rows n shape span region)

pub runs_in_order : (shape : List ℕ) (region : Region) → ends_within region shape ≡ true →
    joined (runs shape region) ≡ linear_indices shape region
runs_in_order shape region e = go (nat_eq (count region) 0) refl
  where
    go : (b : Bool) → nat_eq (count region) 0 ≡ b →
        joined (cond b [] (map (λ index. record { start = index; size = run_length shape region })
        (linear_indices shape (run_box shape region)))) ≡ linear_indices shape region
    go true h = sym (ap (map (linear_index shape)) (tuples-empty region (eqb-true _ _ h)))
    go false h = flat_map-map (λ interval. range_with_len interval.start interval.size) (λ index.
        record { start = index; size = run_length shape region }) (linear_indices shape (run_box shape region))
        ∙ starts_in_order shape region (rank_within region shape e)

pub indices_rise : (shape : List ℕ) (region : Region) → ends_within region shape ≡ true → (i j d : ℕ) → i < j →
    j < length (linear_indices shape region) →
    get_or (linear_indices shape region) i d < get_or (linear_indices shape region) j d
indices_rise shape region e i j d rise within =
    let long : length (linear_indices shape region) ≡ count region =
    length-map (tuples region) (linear_index shape) ∙ length-tuples region in
    let at : (k : ℕ) → k < count region →
    get_or (linear_indices shape region) k d ≡ linear_index shape (tuple_at region k) =
    λ k h. get_or-map (linear_index shape) (tuples region) k [] d (subst (λ n. k < n) (sym (length-tuples region)) h)
    ∙ ap (linear_index shape) (get_or-tuples region k [] h) in
    let here : linear_index shape (tuple_at region i) < linear_index shape (tuple_at region j) =
    linear_rises region shape i j e rise (omega arith) in
    omega (arith, at i (omega arith), at j (omega arith), here)

indices_distinct : (shape : List ℕ) (region : Region) → ends_within region shape ≡ true →
    IsDistinct nat_eq (linear_indices shape region)
indices_distinct shape region e = IsDistinct-from_apart nat_eq (linear_indices shape region) (λ i j d rise within.
    let less : get_or (linear_indices shape region) i d < get_or (linear_indices shape region) j d =
    indices_rise shape region e i j d rise within in
    ne_eqb _ _ (λ same. omega (arith, less, same)))

-- ---- how often a number is in an interval
count_out : (n a l : ℕ) → (n < a) ⊎ (a + l ≤ n) → count_by (nat_eq n) (range_with_len a l) ≡ 0
count_out n a zero h = refl
count_out n a (suc l) h =
    let other : n ≡ a → ⊥ =
    λ same. ⊎_elim (λ (low : n < a). absurd (omega arith)) (λ (high : a + suc l ≤ n). absurd (omega arith)) h in
    sum_by-cons (λ k. cond (nat_eq n k) 1 0) a (range_with_len (a + 1) l)
    ∙ ap₂ (λ b r. cond b 1 0 + r) (ne_eqb _ _ other)
    (count_out n (a + 1) l (⊎_elim (λ (low : n < a). let k : n < a + 1 = omega arith in inl k)
    (λ (high : a + suc l ≤ n). let k : a + 1 + l ≤ n = omega arith in inr k) h))

count_in : (n a l : ℕ) → a ≤ n → n < a + l → count_by (nat_eq n) (range_with_len a l) ≡ 1
count_in n a zero low high = absurd (omega arith)
count_in n a (suc l) low high = sum_by-cons (λ k. cond (nat_eq n k) 1 0) a (range_with_len (a + 1) l) ∙ ⊎_elim
    (λ (same : n ≡ a).
    ap₂ (λ b r. cond b 1 0 + r) (eq-eqb _ _ same) (count_out n (a + 1) l (let k : n < a + 1 = omega arith in inl k)))
    (λ (other : n ≡ a → ⊥). let above : a + 1 ≤ n =
    ⊎_elim (λ (less : n < a + 1). absurd (other (omega arith))) (λ (more : a + 1 ≤ n). more) (cases_lt n (a + 1)) in
    ap₂ (λ b r. cond b 1 0 + r) (ne_eqb _ _ other) (count_in n (a + 1) l above (omega arith)))
    (cases_eq n a)

count_range : (n : ℕ) (span : Span) →
    count_by (nat_eq n) (range_with_len span.start span.size) ≡ cond (is_in n span) 1 0
count_range n span = go (is_in n span) refl
  where
    outside : is_in n span ≡ false → (n < span.start) ⊎ (span.start + span.size ≤ n)
    outside h = ⊎_elim (λ (low : n < span.start). inl low)
        (λ (from : span.start ≤ n). ⊎_elim (λ (below : n < span.start + span.size). cc (span_in n span from below))
        (λ (past : span.start + span.size ≤ n). inr past) (cases_lt n (span.start + span.size)))
        (cases_lt n span.start)

    go : (b : Bool) → is_in n span ≡ b → count_by (nat_eq n) (range_with_len span.start span.size) ≡ cond b 1 0
    go true h =
        let parts = and_parts (nat_le span.start n) (nat_lt n (span.start + span.size)) h in
        count_in n span.start span.size (leb-true _ _ parts.0) (ltb-true _ _ parts.1)
    go false h = count_out n span.start span.size (outside h)

count_joined : (n : ℕ) (intervals : List Span) →
    count_by (nat_eq n) (joined intervals) ≡ count_by (λ interval. is_in n interval) intervals
count_joined n [] = refl
count_joined n (span ∷ intervals) =
    sum_by-append (λ k. cond (nat_eq n k) 1 0) (range_with_len span.start span.size) (joined intervals)
    ∙ ap₂ (λ a b. a + b) (count_range n span) (count_joined n intervals)
    ∙ sym (sum_by-cons (λ interval. cond (is_in n interval) 1 0) span intervals)

count_absent : (n : ℕ) (xs : List ℕ) → list_any (nat_eq n) xs ≡ false → count_by (nat_eq n) xs ≡ 0
count_absent n [] h = refl
count_absent n (x ∷ xs) h = sum_by-cons (λ k. cond (nat_eq n k) 1 0) x xs ∙ go (nat_eq n x) refl (count_absent n xs)
  where
    go : (b : Bool) → nat_eq n x ≡ b → (list_any (nat_eq n) xs ≡ false → count_by (nat_eq n) xs ≡ 0) →
        cond b 1 0 + count_by (nat_eq n) xs ≡ 0
    go true e ih = cc
    go false e ih = let rest : list_any (nat_eq n) xs ≡ false =
        subst (λ b. (b || list_any (nat_eq n) xs) ≡ false) e h in
        let none : count_by (nat_eq n) xs ≡ 0 = ih rest in omega arith

none_equal : (n x : ℕ) (xs : List ℕ) → n ≡ x → AllByRecursion (λ y. nat_eq x y ≡ false) xs →
    list_any (nat_eq n) xs ≡ false
none_equal n x [] e all = refl
none_equal n x (y ∷ xs) e all = ap₂ (λ a b. a || b) (ap (λ k. nat_eq k y) e ∙ all.0) (none_equal n x xs e all.1)

count_distinct : (n : ℕ) (xs : List ℕ) → IsDistinct nat_eq xs →
    count_by (nat_eq n) xs ≡ cond (list_any (nat_eq n) xs) 1 0
count_distinct n [] d = refl
count_distinct n (x ∷ xs) d = sum_by-cons (λ k. cond (nat_eq n k) 1 0) x xs
    ∙ go (count_distinct n xs (IsDistinct-tail nat_eq x xs d)) (nat_eq n x) refl
  where
    go : count_by (nat_eq n) xs ≡ cond (list_any (nat_eq n) xs) 1 0 → (b : Bool) → nat_eq n x ≡ b →
        cond b 1 0 + count_by (nat_eq n) xs ≡ cond (b || list_any (nat_eq n) xs) 1 0
    go rest true e = let none : count_by (nat_eq n) xs ≡ 0 =
        count_absent n xs (none_equal n x xs (eqb-true _ _ e) (IsDistinct-head nat_eq x xs d)) in omega arith
    go rest false e = omega arith

-- ---- a tuple's linear index
abbrev HasIndex : List ℕ → Region → ℕ → Type 0
HasIndex shape region q = (tuple : List ℕ) × (contains region tuple ≡ true) × (linear_index shape tuple ≡ q)

tuple_of_index : (shape : List ℕ) (region : Region) (q : ℕ) → list_any (nat_eq q) (linear_indices shape region) ≡ true →
    HasIndex shape region q
tuple_of_index shape region q h =
    let (k, x, within, at, same) = Any-from_list_any (nat_eq q) (linear_indices shape region) h in
    let below : k < count region =
    subst (λ n. k < n) (length-map (tuples region) (linear_index shape) ∙ length-tuples region) within in (
      tuple_at region k,
      contains-tuple_at region k below,
      sym (get_or-map (linear_index shape) (tuples region) k [] x (subst (λ n. k < n) (sym (length-tuples region))
          below) ∙ ap (linear_index shape) (get_or-tuples region k [] below)) ∙ at ∙ sym (eqb-true _ _ same),
    )

index_of_tuple : (shape : List ℕ) (region : Region) (q : ℕ) → HasIndex shape region q →
    list_any (nat_eq q) (linear_indices shape region) ≡ true
index_of_tuple shape region q (tuple, inside, same) =
    let (k, within, at) = (tuples_are region tuple).0 inside in
    list_any-from_Any (nat_eq q) (linear_indices shape region) (
      k,
      linear_index shape tuple,
      subst (λ n. k < n) (sym (length-map (tuples region) (linear_index shape))) within,
      get_or-map (linear_index shape) (tuples region) k tuple (linear_index shape tuple) within
          ∙ ap (linear_index shape) at,
      eq-eqb _ _ (sym same),
    )

-- an index in the first row and the last: of the first tuple of a shape, and of the last
zero_sum : (i p a : ℕ) → 0 < p → i * p + a ≡ 0 → (i ≡ 0) × (a ≡ 0)
zero_sum zero p a pos e = (refl, omega (arith, zero-mul p))
zero_sum (suc i) p a pos e = absurd (omega (arith, suc-mul i p))

last_row : (j n p b : ℕ) → b < p → j * p + b + 1 ≡ n * p → (suc j ≡ n) × (b + 1 ≡ p)
last_row j zero p b below row = absurd (omega (arith, zero-mul p))
last_row j (suc n) p b below row =
    let m : ℕ = p - 1 in
    let same : (j ≡ n) × (b ≡ m) = same_from_place j b n m p below (omega arith) (omega (arith, suc-mul n p)) in
    (ap suc same.0, omega arith)

corners : (shape : List ℕ) (region : Region) (t u : List ℕ) → ends_within region shape ≡ true →
    contains region t ≡ true → contains region u ≡ true →
    linear_index shape t ≡ 0 → linear_index shape u + 1 ≡ count (whole shape) → is_whole shape region ≡ true
corners [] [] t u e first last zero_at last_at = refl
corners [] (span ∷ region) t u e first last zero_at last_at = cc
corners (n ∷ shape) [] t u e first last zero_at last_at = cc
corners (n ∷ shape) (span ∷ region) [] u e first last zero_at last_at = cc
corners (n ∷ shape) (span ∷ region) (i ∷ t) [] e first last zero_at last_at = cc
corners (n ∷ shape) (span ∷ region) (i ∷ t) (j ∷ u) e first last zero_at last_at =
    let p : ℕ = count (whole shape) in
    let ends = and_parts (nat_le (span.start + span.size) n) (ends_within region shape) e in
    let end : span.start + span.size ≤ n = leb-true _ _ ends.0 in
    let pt = and_parts (is_in i span) (contains region t) first in
    let pu = and_parts (is_in j span) (contains region u) last in
    let it : (span.start ≤ i) × (i - span.start < span.size) = in_span i span pt.0 in
    let iu : (span.start ≤ j) × (j - span.start < span.size) = in_span j span pu.0 in
    let below : linear_index shape u < p = place_below (whole shape) u (inside_shape region shape u ends.1 pu.1) in
    let i0 : i - 0 ≡ i = omega arith in
    let j0 : j - 0 ≡ j = omega arith in
    let z : (i ≡ 0) × (linear_index shape t ≡ 0) =
    zero_sum i p (linear_index shape t) (omega arith) (ap (λ k. k * p + linear_index shape t) (sym i0) ∙ zero_at) in
    let row : j * p + linear_index shape u + 1 ≡ n * p =
    ap (λ k. k * p + linear_index shape u + 1) (sym j0) ∙ last_at in
    let l : (suc j ≡ n) × (linear_index shape u + 1 ≡ p) = last_row j n p (linear_index shape u) below row in
    let start : span.start ≡ 0 = omega arith in
    let size : span.size ≡ n = omega arith in
    and_from _ _ (and_from _ _ (eq-eqb _ _ start) (eq-eqb _ _ size)) (corners shape region t u ends.1 pt.1 pu.1 z.1 l.1)

-- a number below a run's start is in no run
first_row : (p i j b : ℕ) → i ≤ j → j * p + b + 1 ≡ i * p → ⊥
first_row p i j b le e = omega (arith, mul-le-mul_right p le)

abbrev runs_of : ℕ → List ℕ → List Span
runs_of size starts = map (λ index. record { start = index; size = size }) starts

abbrev Gap : List ℕ → Region → Type 0
Gap shape region = (q : ℕ) → HasIndex shape (run_box shape region) (suc q) → HasIndex shape region q → ⊥

-- ---- the region where runs begin
first_in : (region : Region) (t : List ℕ) → 0 < count region → contains (first_region_of region) t ≡ true →
    contains region t ≡ true
first_in [] t pos h = h
first_in (span ∷ region) [] pos h = cc
first_in (span ∷ region) (i ∷ t) pos h =
    let parts = and_parts (is_in i (record { start = span.start; size = 1 })) (contains (first_region_of region) t) h in
    let some = positive_parts span region pos in
    let near : (span.start ≤ i) × (i - span.start < 1) = in_span i (record { start = span.start; size = 1 }) parts.0 in
    and_from _ _ (span_in i span near.0 (omega arith)) (first_in region t some.1 parts.1)

starts_in : (shape : List ℕ) (region : Region) (t : List ℕ) → length region ≡ length shape → 0 < count region →
    contains (run_box shape region) t ≡ true → contains region t ≡ true
starts_in [] [] t rank pos h = h
starts_in [] (span ∷ region) t rank pos h = cc
starts_in (n ∷ shape) [] t rank pos h = cc
starts_in (n ∷ shape) (span ∷ region) [] rank pos h = go (is_whole shape region) h
  where
    go : (b : Bool) → contains (cond b (first_region_of (span ∷ region)) (span ∷ run_box shape region)) [] ≡ true →
        contains (span ∷ region) [] ≡ true
    go true h = h
    go false h = h
starts_in (n ∷ shape) (span ∷ region) (i ∷ t) rank pos h =
    go (is_whole shape region) (starts_in shape region t (omega arith) (positive_parts span region pos).1) h
  where
    go : (b : Bool) → (contains (run_box shape region) t ≡ true → contains region t ≡ true) →
        contains (cond b (first_region_of (span ∷ region)) (span ∷ run_box shape region)) (i ∷ t) ≡ true →
        contains (span ∷ region) (i ∷ t) ≡ true
    go true ih h = first_in (span ∷ region) (i ∷ t) pos h
    go false ih h = let parts = and_parts (is_in i span) (contains (run_box shape region) t) h in
        and_from _ _ parts.0 (ih parts.1)

first_within : (shape : List ℕ) (region : Region) → ends_within region shape ≡ true → 0 < count region →
    ends_within (first_region_of region) shape ≡ true
first_within [] [] e pos = refl
first_within (n ∷ shape) [] e pos = e
first_within [] (span ∷ region) e pos = e
first_within (n ∷ shape) (span ∷ region) e pos =
    let ends = and_parts (nat_le (span.start + span.size) n) (ends_within region shape) e in
    let end : span.start + span.size ≤ n = leb-true _ _ ends.0 in
    let some : (0 < span.size) × (0 < count region) = positive_parts span region pos in
    and_from _ _ (le-leb (span.start + 1) n (omega arith)) (first_within shape region ends.1 some.1)

pub run_box_within : (shape : List ℕ) (region : Region) → ends_within region shape ≡ true → 0 < count region →
    ends_within (run_box shape region) shape ≡ true
run_box_within [] [] e pos = refl
run_box_within (n ∷ shape) [] e pos = e
run_box_within [] (span ∷ region) e pos = cc
run_box_within (n ∷ shape) (span ∷ region) e pos =
    go (is_whole shape region) (run_box_within shape region (and_parts _ _ e).1 (positive_parts span region pos).1)
  where
    go : (b : Bool) → ends_within (run_box shape region) shape ≡ true →
        ends_within (cond b (first_region_of (span ∷ region)) (span ∷ run_box shape region)) (n ∷ shape) ≡ true
    go true ih = first_within (n ∷ shape) (span ∷ region) e pos
    go false ih = and_from _ _ (and_parts (nat_le (span.start + span.size) n) (ends_within region shape) e).0 ih

length_positive : (shape : List ℕ) (region : Region) → 0 < count region → 0 < run_length shape region
length_positive [] [] pos = pos
length_positive [] (span ∷ region) pos = omega arith
length_positive (n ∷ shape) [] pos = pos
length_positive (n ∷ shape) (span ∷ region) pos =
    go (is_whole shape region) (length_positive shape region (positive_parts span region pos).1)
  where
    go : (b : Bool) → 0 < run_length shape region → 0 < cond b (span.size * count region) (run_length shape region)
    go true ih = pos
    go false ih = ih

-- a tuple of linear index 0 in its row
zero_of_first : (shape : List ℕ) (region : Region) (t : List ℕ) → is_whole shape region ≡ true →
    contains (first_region_of region) t ≡ true → linear_index shape t ≡ 0
zero_of_first shape region t w h =
    go (subst (λ xs. list_any (nat_eq (linear_index shape t)) xs ≡ true) (first_indices shape region w)
    (index_of_tuple shape (first_region_of region) (linear_index shape t) (t, h, refl)))
  where
    go : (nat_eq (linear_index shape t) 0 || false) ≡ true → linear_index shape t ≡ 0
    go k = eqb-true _ _ (alone (nat_eq (linear_index shape t) 0) k)

pub gap : (shape : List ℕ) (region : Region) → ends_within region shape ≡ true → 0 < count region → Gap shape region
gap [] [] e pos q (t, h, at) (u, k, below) = no_place t at
  where
    no_place : (t : List ℕ) → linear_index [] t ≡ suc q → ⊥
    no_place [] at = cc
    no_place (i ∷ t) at = cc
gap [] (span ∷ region) e pos q s t = cc
gap (n ∷ shape) [] e pos q s t = cc
gap (n ∷ shape) (span ∷ region) e pos q ([], h, at) (u, k, below) = cc
gap (n ∷ shape) (span ∷ region) e pos q (i ∷ t, h, at) ([], k, below) = cc
gap (n ∷ shape) (span ∷ region) e pos q (i ∷ t, h, at) (j ∷ u, k, below) =
    go (is_whole shape region) refl h (gap shape region ends.1 some.1)
  where
    p : ℕ
    p = count (whole shape)

    ends : (nat_le (span.start + span.size) n ≡ true) × (ends_within region shape ≡ true)
    ends = and_parts (nat_le (span.start + span.size) n) (ends_within region shape) e

    some : (0 < span.size) × (0 < count region)
    some = positive_parts span region pos

    at_row : i * p + linear_index shape t ≡ suc q
    at_row = let i0 : i - 0 ≡ i = omega arith in ap (λ m. m * p + linear_index shape t) (sym i0) ∙ at

    below_row : j * p + linear_index shape u ≡ q
    below_row = let j0 : j - 0 ≡ j = omega arith in ap (λ m. m * p + linear_index shape u) (sym j0) ∙ below

    pu : (is_in j span ≡ true) × (contains region u ≡ true)
    pu = and_parts (is_in j span) (contains region u) k

    near : (span.start ≤ j) × (j - span.start < span.size)
    near = in_span j span pu.0

    low : linear_index shape u < p
    low = place_below (whole shape) u (inside_shape region shape u ends.1 pu.1)

    rest : contains (run_box shape region) t ≡ true → is_whole shape region ≡ false → Gap shape region → (a : ℕ) →
        linear_index shape t ≡ a → ⊥
    rest first w ih zero none =
        let row : j * p + linear_index shape u + 1 ≡ i * p = omega (arith, at_row, below_row) in
        let l : (suc j ≡ i) × (linear_index shape u + 1 ≡ p) = last_row j i p (linear_index shape u) low row in
        let inside : contains region t ≡ true =
        starts_in shape region t (rank_within region shape ends.1) some.1 first in
        let all : is_whole shape region ≡ true = corners shape region t u ends.1 inside pu.1 none l.1 in
        cc
    rest first w ih (suc a) same =
        let high : linear_index shape t < p = place_below (whole shape) t
        (inside_shape (run_box shape region) shape t (run_box_within shape region ends.1 some.1) first) in
        let one : (i ≡ j) × (a ≡ linear_index shape u) =
        same_from_place i a j (linear_index shape u) p (omega arith) low (omega (arith, at_row, below_row)) in
        ih a (t, first, same) (u, pu.1, sym one.1)

    go : (b : Bool) → is_whole shape region ≡ b → contains (cond b
        (first_region_of (span ∷ region)) (span ∷ run_box shape region)) (i ∷ t) ≡ true → Gap shape region → ⊥
    go true w h ih =
        let parts =
        and_parts (is_in i (record { start = span.start; size = 1 })) (contains (first_region_of region) t) h in
        let one : (span.start ≤ i) × (i - span.start < 1) =
        in_span i (record { start = span.start; size = 1 }) parts.0 in
        let none : linear_index shape t ≡ 0 = zero_of_first shape region t w parts.1 in
        first_row p i j (linear_index shape u) (omega (arith, near.0)) (omega (arith, at_row, below_row))
    go false w h ih =
        rest (and_parts (is_in i span) (contains (run_box shape region) t) h).1 w ih (linear_index shape t) refl

-- ---- no cover has fewer intervals
-- where a number is in some interval and the one before it is in none, an interval begins
begins : (q : ℕ) (others : List Span) → 0 < count_by (λ o. is_in q o) others →
    ((r : ℕ) → suc r ≡ q → count_by (λ o. is_in r o) others ≡ 0) →
    list_any (nat_eq q) (map (λ o. o.start) others) ≡ true
begins q [] some none = absurd (omega arith)
begins q (o ∷ others) some none = go (is_in q o) refl (begins q others)
  where
    split : (r : ℕ) → count_by (λ o. is_in r o) (o ∷ others) ≡ cond (is_in r o) 1 0 + count_by (λ o. is_in r o) others
    split r = sum_by-cons (λ o. cond (is_in r o) 1 0) o others

    before : (r : ℕ) → suc r ≡ q → (is_in r o ≡ false) × (count_by (λ o. is_in r o) others ≡ 0)
    before r e = pick (is_in r o) refl
      where
        pick : (b : Bool) → is_in r o ≡ b → (is_in r o ≡ false) × (count_by (λ o. is_in r o) others ≡ 0)
        pick true h = let one : ◌≡◌ {A = ℕ} (cond (is_in r o) 1 0) 1 = ap (λ b. cond b 1 0) h in
            absurd (omega (arith, split r, none r e, one))
        pick false h = let zip : ◌≡◌ {A = ℕ} (cond (is_in r o) 1 0) 0 = ap (λ b. cond b 1 0) h in
            (h, omega (arith, split r, none r e, zip))

    or_true : (b : Bool) → (b || true) ≡ true
    or_true true = refl
    or_true false = refl

    go : (b : Bool) → is_in q o ≡ b → (0 < count_by (λ o. is_in q o) others → ((r : ℕ) → suc r ≡ q →
        count_by (λ o. is_in r o) others ≡ 0) → list_any (nat_eq q) (map (λ o. o.start) others) ≡ true) →
        (nat_eq q o.start || list_any (nat_eq q) (map (λ o. o.start) others)) ≡ true
    go false h ih = let zip : ◌≡◌ {A = ℕ} (cond (is_in q o) 1 0) 0 = ap (λ b. cond b 1 0) h in
        ap (λ b. nat_eq q o.start || b) (ih (omega (arith, split q, some, zip)) (λ r e. (before r e).1))
        ∙ or_true (nat_eq q o.start)
    go true h ih = ⊎_elim
        (λ (same : q ≡ o.start). ap (λ b. b || list_any (nat_eq q) (map (λ o. o.start) others)) (eq-eqb _ _ same))
        (λ (other : q ≡ o.start → ⊥).
        let near : (o.start ≤ q) × (q - o.start < o.size) = in_span q o h in
        let more : o.start < q = ⊎_elim (λ (less : o.start < q). less)
        (λ (least : q ≤ o.start). absurd (other (omega arith))) (cases_lt o.start q) in
        let r : ℕ = q - 1 in
        let e : suc r ≡ q = omega arith in
        let inside : is_in r o ≡ true = span_in r o (omega arith) (omega arith) in
        absurd (cc (before r e).0))
        (cases_eq q o.start)

pub covers_least : (shape : List ℕ) (region : Region) → ends_within region shape ≡ true → CoversLeast shape region
covers_least shape region e = record {
  in_order = in_order;
  rising = λ k within. indices_rise shape region e k (k + 1) 0 (omega arith) within;
  least = record {
    cover = record {
      nonempty = nonempty (nat_eq (count region) 0) refl;
      once = λ n. sym (count_joined n (runs shape region)) ∙ ap (count_by (nat_eq n)) in_order
          ∙ count_distinct n (linear_indices shape region) (indices_distinct shape region e);
    };
    least = λ others cover. fewest others cover (nat_eq (count region) 0) refl;
  };
}
  where
    in_order : joined (runs shape region) ≡ linear_indices shape region
    in_order = runs_in_order shape region e

    starts : List ℕ
    starts = linear_indices shape (run_box shape region)

    mk : ℕ → Span
    mk index = record { start = index; size = run_length shape region }

    positive : nat_eq (count region) 0 ≡ false → 0 < count region
    positive h = ⊎_elim (λ (none : count region < 1). absurd (cc (eq-eqb (count region) 0 (omega arith))))
        (λ (some : 1 ≤ count region). omega arith) (cases_lt (count region) 1)

    nonempty : (b : Bool) → nat_eq (count region) 0 ≡ b → All (λ (run : Span).
        0 < run.size) (cond b [] (map (λ index. record { start = index; size = run_length shape region }) starts))
    nonempty true h = λ k d below. absurd (omega arith)
    nonempty false h =
        All-map (λ (run : Span). 0 < run.size) (λ index. record { start = index; size = run_length shape region })
        starts (λ k d below. length_positive shape region (positive h))

    fewest : (others : List Span) → IsCover (is_linear_index shape region) others → (b : Bool) →
        nat_eq (count region) 0 ≡ b →
        length (cond b [] (runs_of (run_length shape region) starts)) ≤ length others
    fewest others cover true h = omega arith
    fewest others cover false h =
        let some : 0 < count region = positive h in
        let within : ends_within (run_box shape region) shape ≡ true = run_box_within shape region e some in
        let inside : (q : ℕ) → list_any (nat_eq q) starts ≡ true → is_linear_index shape region q ≡ true =
        λ q m. let (t, first, at) = tuple_of_index shape (run_box shape region) q m in
        index_of_tuple shape region q (t, starts_in shape region t (rank_within region shape e) some first, at) in
        let absent : (q r : ℕ) → list_any (nat_eq q) starts ≡ true → suc r ≡ q →
        is_linear_index shape region r ≡ false =
        λ q r m next. not_true (is_linear_index shape region r) (λ here.
        gap shape region e some r (subst (λ k. HasIndex shape (run_box shape region) k) (sym next)
        (tuple_of_index shape (run_box shape region) q m)) (tuple_of_index shape region r here)) in
        let fits : length starts ≤ length (map (λ (o : Span). o.start) others) =
        length-le_from_is_member nat_eq_equiv starts (map (λ (o : Span). o.start) others)
        (indices_distinct shape (run_box shape region) within)
        (λ q m. begins q others (let one : ◌≡◌ {A = ℕ} (cond (is_linear_index shape region q) 1 0) 1 =
        ap (λ b. cond b 1 0) (inside q m) in omega (arith, cover.once q, one))
        (λ r next. cover.once r ∙ ap (λ b. cond b 1 0) (absent q r m next))) in
        subst₂ (λ a b. a ≤ b) (sym (length-map starts (λ index. mk index))) (length-map others (λ (o : Span). o.start))
        fits
      where
        not_true : (b : Bool) → (b ≡ true → ⊥) → b ≡ false
        not_true true h = absurd (h refl)
        not_true false h = refl
