-- The chunks that a region meets, where they are a box of chunks, and what two regions share.
use Rattle.std.proofs.Common.{◌≡◌, ℕ, zero, suc, max, min, ◌⊎◌, ⊎_elim, inl, inr, nat_lt, ◌*◌, ◌+◌, ◌-◌, ◌<◌, ◌≤◌, ◌&&◌}
use Rattle.std.proofs.Common.{Bool, true, false, cond, nat_le, List, [], ◌∷◌, ◌++◌, length, map, filter, flat_map}
use Rattle.std.proofs.Common.{get_or, refl, sym, ap, ap₂, ◌∙◌, subst, arith}
use Rattle.std.specs.List.{range_with_len}
use Rattle.std.proofs.lemmas.Bool.{and_parts, leb-true, ltb-true, cases_lt, false_from_ne_true, and_right}
use Rattle.std.proofs.lemmas.List.Elements.{filter-append}
use Rattle.zarr_model.specs.Region.{Span, Region, count, whole, contains, is_in, ends_within, share_tuple, tuples}
use Rattle.zarr_model.specs.Region.{overlap_of}
use Rattle.zarr_model.specs.Grid.{Grid, chunks, chunks_meeting}
use Rattle.zarr_model.proofs.RegionLaws.{length-tuples, get_or-tuples, contains-tuple_at, in_span, span_in}
use Rattle.zarr_model.proofs.ListLaws.{flat_map-same}

-- a box of chunks has exactly those whose box shares a tuple with a region
abbrev pub AreMeeting : Grid → Region → Region → Type 0
AreMeeting grid region box = (chunk : List ℕ) →
    contains box chunk ≡ (contains (whole grid.grid_shape) chunk && share_tuple (grid.chunk_box chunk) region)

-- the lists at the indices of a span, among consecutive ones
module _ {A : Type 0} (f : ℕ → List A) (span : Span) where
  abbrev picked : ℕ → List A
  picked index = cond (is_in index span) (f index) []

  at_none : (a n : ℕ) → n ≡ 0 → flat_map f (range_with_len a n) ≡ []
  at_none a n e = ap (λ m. flat_map f (range_with_len a m)) e

  pub picked_from : (n a : ℕ) → flat_map picked (range_with_len a n)
      ≡ flat_map f (range_with_len (max a span.start) (min (a + n) (span.start + span.size) - max a span.start))
  picked_from zero a =
      sym (at_none (max a span.start) (min (a + 0) (span.start + span.size) - max a span.start) (omega arith))
  picked_from (suc n) a = go (is_in a span) refl (picked_from n (a + 1))
    where
      rest : ℕ
      rest = min (a + 1 + n) (span.start + span.size) - max (a + 1) span.start

      go : (b : Bool) → is_in a span ≡ b → flat_map picked (range_with_len (a + 1) n) ≡ flat_map f (range_with_len
          (max (a + 1) span.start) (min (a + 1 + n) (span.start + span.size) - max (a + 1) span.start)) →
          cond b (f a) [] ++ flat_map picked (range_with_len (a + 1) n)
          ≡ flat_map f (range_with_len (max a span.start) (min (a + suc n) (span.start + span.size) - max a span.start))
      go true is h =
          let near : (span.start ≤ a) × (a - span.start < span.size) = in_span a span is in
          let first : max a span.start ≡ a = omega (arith, near.0) in
          let next : max (a + 1) span.start ≡ a + 1 = omega (arith, near.0) in
          let long : min (a + suc n) (span.start + span.size) - max a span.start ≡
          suc (min (a + 1 + n) (span.start + span.size) - max (a + 1) span.start) = omega (arith, near.0, near.1) in
          ap (λ l. f a ++ l) (h ∙ ap (λ b.
          flat_map f (range_with_len b (min (a + 1 + n) (span.start + span.size) - max (a + 1) span.start))) next)
          ∙ sym (ap₂ (λ b m. flat_map f (range_with_len b m)) first long)
      go false is h = h ∙ ⊎_elim
          (λ (low : a < span.start).
          ap₂ (λ b m. flat_map f (range_with_len b m))
          (let e : max (a + 1) span.start ≡ max a span.start = omega arith in e)
          (let e : min (a + 1 + n) (span.start + span.size) - max (a + 1) span.start ≡
          min (a + suc n) (span.start + span.size) - max a span.start = omega arith in e))
          (λ (high : span.start ≤ a).
          let past : span.start + span.size ≤ a = not_in high is in
          at_none (max (a + 1) span.start) (min (a + 1 + n) (span.start + span.size) - max (a + 1) span.start)
          (omega arith)
          ∙
          sym (at_none (max a span.start) (min (a + suc n) (span.start + span.size) - max a span.start) (omega arith)))
          (cases_lt a span.start)
        where
          not_in : span.start ≤ a → is_in a span ≡ false → span.start + span.size ≤ a
          not_in high out = ⊎_elim
              (λ (below : a < span.start + span.size). let also : is_in a span ≡ true = span_in a span high below in cc)
              (λ (above : span.start + span.size ≤ a). above)
              (cases_lt a (span.start + span.size))

  pub picked_all : (n : ℕ) → span.start + span.size ≤ n →
      flat_map picked (range_with_len 0 n) ≡ flat_map f (range_with_len span.start span.size)
  picked_all n within = picked_from n 0
      ∙ ap₂ (λ b m. flat_map f (range_with_len b m)) (let e : max 0 span.start ≡ span.start = omega arith in e)
      (let e : min (0 + n) (span.start + span.size) - max 0 span.start ≡ span.size = omega arith in e)

-- what a box contains of tuples behind one index
filter-behind : (span : Span) (region : Region) (index : ℕ) (list : List (List ℕ)) →
    filter (contains (span ∷ region)) (map (λ tuple. index ∷ tuple) list) ≡
    cond (is_in index span) (map (λ tuple. index ∷ tuple) (filter (contains region) list)) []
filter-behind span region index [] = none (is_in index span)
  where
    none : (b : Bool) → [] ≡ cond b (map (λ tuple. index ∷ tuple) []) []
    none true = refl
    none false = refl
filter-behind span region index (tuple ∷ list) = step (is_in index span) (contains region tuple) _
    (filter (contains region) list) (filter-behind span region index list)
  where
    step : (b c : Bool) (rest front : List (List ℕ)) → rest ≡ cond b (map (λ t. index ∷ t) front) [] →
        cond (b && c) ((index ∷ tuple) ∷ rest) rest ≡ cond b (map (λ t. index ∷ t) (cond c (tuple ∷ front) front)) []
    step true true rest front e = ap (λ l. (index ∷ tuple) ∷ l) e
    step true false rest front e = e
    step false c rest front e = e

filter-flat_map : {A B : Type 0} (test : B → Bool) (f : A → List B) (xs : List A) →
    filter test (flat_map f xs) ≡ flat_map (λ x. filter test (f x)) xs
filter-flat_map test f [] = refl
filter-flat_map test f (x ∷ xs) =
    filter-append test (f x) (flat_map f xs) ∙ ap (λ l. filter test (f x) ++ l) (filter-flat_map test f xs)

-- a box within a shape has those of the shape's tuples that it contains
pub filter-tuples : (box : Region) (shape : List ℕ) → ends_within box shape ≡ true →
    filter (contains box) (tuples (whole shape)) ≡ tuples box
filter-tuples [] [] e = refl
filter-tuples [] (n ∷ shape) e = cc
filter-tuples (span ∷ box) [] e = cc
filter-tuples (span ∷ box) (n ∷ shape) e =
    let parts = and_parts (nat_le (span.start + span.size) n) (ends_within box shape) e in
    let behind : ℕ → List (List ℕ) = λ index. map (λ tuple. index ∷ tuple) (tuples box) in
    filter-flat_map (contains (span ∷ box)) (λ index. map (λ tuple. index ∷ tuple) (tuples (whole shape)))
    (range_with_len 0 n)
    ∙ (flat_map-same (λ index. filter (contains (span ∷ box)) (map (λ tuple. index ∷ tuple) (tuples (whole shape))))
    (λ index. cond (is_in index span) (behind index) [])
    (λ index. filter-behind span box index (tuples (whole shape)) ∙ ap (λ l.
    cond (is_in index span) (map (λ tuple. index ∷ tuple) l) []) (filter-tuples box shape parts.1)) (range_with_len 0 n)
    ∙ picked_all behind span n (leb-true _ _ parts.0))

-- tests that agree on a list
filter-same : {A : Type 0} (p q : A → Bool) (xs : List A) →
    ((k : ℕ) (d : A) → k < length xs → p (get_or xs k d) ≡ q (get_or xs k d)) → filter p xs ≡ filter q xs
filter-same p q [] same = refl
filter-same p q (x ∷ xs) same =
    ap₂ (λ b l. cond b (x ∷ l) l) (same 0 x (omega arith)) (filter-same p q xs (λ k d h. same (suc k) d (omega arith)))

-- so a box of exactly the chunks that a region meets lists them
pub tuples-meeting : (grid : Grid) (region box : Region) → ends_within box grid.grid_shape ≡ true →
    AreMeeting grid region box → tuples box ≡ chunks_meeting grid region
tuples-meeting grid region box within meeting =
    sym (filter-tuples box grid.grid_shape within)
    ∙ filter-same (contains box) (λ chunk. share_tuple (grid.chunk_box chunk) region) (tuples (whole grid.grid_shape))
    (λ k d h.
    let below : k < count (whole grid.grid_shape) = subst (λ n. k < n) (length-tuples (whole grid.grid_shape)) h in
    let is : contains (whole grid.grid_shape) (get_or (tuples (whole grid.grid_shape)) k d) ≡ true =
    ap (contains (whole grid.grid_shape)) (get_or-tuples (whole grid.grid_shape) k d below)
    ∙ contains-tuple_at (whole grid.grid_shape) k below in
    meeting (get_or (tuples (whole grid.grid_shape)) k d)
    ∙ ap (λ b. b && share_tuple (grid.chunk_box (get_or (tuples (whole grid.grid_shape)) k d)) region) is)

zero_factor : (n c : ℕ) → n * c ≡ 0 → (n ≡ 0) ⊎ (c ≡ 0)
zero_factor zero c e = inl refl
zero_factor (suc n) zero e = inr refl
zero_factor (suc n) (suc c) e = absurd (omega arith)

-- an empty region meets no chunk
pub nothing_shared : (box region : Region) → count region ≡ 0 → share_tuple box region ≡ false
nothing_shared [] [] e = absurd (omega arith)
nothing_shared [] (span ∷ region) e = refl
nothing_shared (own ∷ box) [] e = refl
nothing_shared (own ∷ box) (span ∷ region) e = ⊎_elim
    (λ (none : span.size ≡ 0). ap (λ b. b && share_tuple box region)
    (false_from_ne_true (nat_lt (max own.start span.start) (min (own.start + own.size) (span.start + span.size))) (λ h.
    let less : max own.start span.start < min (own.start + own.size) (span.start + span.size) = ltb-true _ _ h in
    absurd (omega arith))))
    (λ (none : count region ≡ 0). ap (λ b. nat_lt (max own.start span.start) (min (own.start + own.size) (span.start
    + span.size)) && b) (nothing_shared box region none) ∙ and_right _ false refl)
    (zero_factor span.size (count region) e)

pub chunks_meeting-empty : (grid : Grid) (region : Region) → count region ≡ 0 → chunks_meeting grid region ≡ []
chunks_meeting-empty grid region e = none (chunks grid)
  where
    none : (list : List (List ℕ)) → filter (λ chunk. share_tuple (grid.chunk_box chunk) region) list ≡ []
    none [] = refl
    none (chunk ∷ list) = ap (λ b. cond b (chunk ∷ filter (λ c. share_tuple (grid.chunk_box c) region) list) (filter
        (λ c. share_tuple (grid.chunk_box c) region) list)) (nothing_shared (grid.chunk_box chunk) region e) ∙ none list

-- the tuples of a region that a box contains are those of what they share
pub filter-shared : (region box : Region) → length region ≡ length box → filter (contains box) (tuples region)
    ≡ tuples (overlap_of region box)
filter-shared [] [] e = refl
filter-shared [] (span ∷ box) e = cc
filter-shared (own ∷ region) [] e = cc
filter-shared (own ∷ region) (span ∷ box) e =
    let ranks : length region ≡ length box = omega (arith, e) in
    let behind : ℕ → List (List ℕ) = λ index. map (λ tuple. index ∷ tuple) (tuples (overlap_of region box)) in
    filter-flat_map (contains (span ∷ box)) (λ index. map (λ tuple. index ∷ tuple) (tuples region))
    (range_with_len own.start own.size)
    ∙ (flat_map-same (λ index. filter (contains (span ∷ box)) (map (λ tuple. index ∷ tuple) (tuples region)))
    (λ index. cond (is_in index span) (behind index) [])
    (λ index. filter-behind span box index (tuples region)
    ∙ ap (λ l. cond (is_in index span) (map (λ tuple. index ∷ tuple) l) []) (filter-shared region box ranks))
    (range_with_len own.start own.size)
    ∙ picked_from behind span own.size own.start)

pub shared_count : (region box : Region) → length region ≡ length box → length (filter (contains box) (tuples region))
    ≡ count (overlap_of region box)
shared_count region box e = ap length (filter-shared region box e) ∙ length-tuples (overlap_of region box)
