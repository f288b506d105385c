-- Replacing the elements that two boxes share, at their places, is a copy between the boxes.
use Rattle.std.proofs.Common.{◌≡◌, ℕ, zero, suc, ◌+◌, ◌-◌, ◌*◌, ◌/◌, ◌%◌, ◌<◌, ◌≤◌, max, min, ◌==◌, Bool, true, false}
use Rattle.std.proofs.Common.{nat_le, if◌then◌else◌, List, [], ◌∷◌, length, map, get_or, arith, ap, ap₂, sym, refl, ◌∙◌}
use Rattle.std.proofs.Common.{subst, eqb-true, true≢false}
use Rattle.std.proofs.lemmas.Bool.{cond-true, and_parts, and_from, leb-true, le-leb}
use Rattle.std.proofs.lemmas.Bool.Decides.{nat_tests}
use Rattle.std.proofs.lemmas.List.{length-map, get_or-map, same_lists, get_or_default}
use Rattle.std.proofs.lemmas.Simd.{map-map}
use Rattle.zarr_model.specs.Region.{Span, Region, starts, sizes, count, whole, contains, place, tuple_at}
use Rattle.zarr_model.specs.Region.{tuples, linear_index}
use Rattle.zarr_model.proofs.RegionLaws.{place_below, contains-tuple_at, get_or-tuples, length-tuples, tuple_at-place}
use Rattle.zarr_model.proofs.RegionLaws.{place-tuple_at, count_whole}
use Rattle.zarrs_array_subset.specs.Boxes.{is_within, overlap_of, moved_back, starts_past}
use Rattle.zarrs_array_subset.proofs.MoveLaws.{overlap_is_both}
use Rattle.zarr_array_boxes.specs.Shared.{shared_in}
use Rattle.zarrs_codec_slices.specs.Overlap.{Copied}
use Rattle.zarrs_codec_slices.specs.Picking.{picked, replaced, last_given}
use Rattle.zarrs_codec_slices.proofs.ReplaceLaws.{get_or-replaced, length-replaced}

-- the last element that is given to a place, where each that is given to it is one and the same
given_same : {X A : Type 0} (k : ℕ) (p : X → ℕ) (f : X → A) (xs : List X) (before value : A) →
    ((j : ℕ) (d : X) → j < length xs → p (get_or xs j d) ≡ k → f (get_or xs j d) ≡ value) →
    before ≡ value → last_given k (map p xs) (map f xs) before ≡ value
given_same k p f [] before value each same = same
given_same k p f (x ∷ xs) before value each same =
    given_same k p f xs (if k == p x then f x else before) value (λ j d h e. each (suc j) d (omega (arith, h)) e)
    (turn (k == p x) refl)
  where
    turn : (b : Bool) → (k == p x) ≡ b → (if b then f x else before) ≡ value
    turn true is = let same_place : k ≡ p x = eqb-true k (p x) is in each 0 x (omega arith) (sym same_place)
    turn false is = same

given_once : {X A : Type 0} (k : ℕ) (p : X → ℕ) (f : X → A) (xs : List X) (before value : A) →
    ((j : ℕ) (d : X) → j < length xs → p (get_or xs j d) ≡ k → f (get_or xs j d) ≡ value) →
    (i : ℕ) (d : X) → i < length xs → p (get_or xs i d) ≡ k → last_given k (map p xs) (map f xs) before ≡ value
given_once k p f [] before value each i d h e = absurd (omega arith)
given_once k p f (x ∷ xs) before value each zero d h e =
    given_same k p f xs (if k == p x then f x else before) value (λ j z l m. each (suc j) z (omega (arith, l)) m)
    (cond-true (k == p x) (f x) before (let same : k ≡ p x = sym e in grind (arith, nat_tests))
    ∙ each 0 d (omega arith) e)
given_once k p f (x ∷ xs) before value each (suc i) d h e =
    given_once k p f xs (if k == p x then f x else before) value (λ j z l m. each (suc j) z (omega (arith, l)) m) i d
    (omega (arith, h)) e

-- moving a region keeps its sizes
pub count-moved : (region : Region) (offset : List ℕ) → starts_past region offset ≡ true →
    count (moved_back region offset) ≡ count region
count-moved [] [] h = refl
count-moved [] (o ∷ offset) h = cc
count-moved (span ∷ region) [] h = cc
count-moved (span ∷ region) (o ∷ offset) h = ap (λ n.
    span.size * n) (count-moved region offset (and_parts (nat_le o span.start) (starts_past region offset) h).1)

-- a tuple of a part that is moved to a box's origin has the place in the box's shape that the tuple has in the box
place-moved : (box part : Region) (k : ℕ) → starts_past part (starts box) ≡ true →
    place (whole (sizes box)) (tuple_at (moved_back part (starts box)) k) ≡ place box (tuple_at part k)
place-moved [] [] k h = refl
place-moved [] (span ∷ part) k h = cc
place-moved (first ∷ box) [] k h = cc
place-moved (first ∷ box) (span ∷ part) k h =
    let parts = and_parts (nat_le first.start span.start) (starts_past part (starts box)) h in
    let low : first.start ≤ span.start = leb-true _ _ parts.0 in
    let same : count (moved_back part (starts box)) ≡ count part = count-moved part (starts box) parts.1 in
    let count_box : count (whole (sizes box)) ≡ count box = count_whole (sizes box) in
    let first_same : span.start - first.start + k / count (moved_back part (starts box)) - 0 ≡
    span.start + k / count part - first.start =
    ap (λ n. span.start - first.start + k / n - 0) same ∙ omega (arith, low) in
    ap₂ (λ a b. a * b + place (whole (sizes box))
    (tuple_at (moved_back part (starts box)) (k % count (moved_back part (starts box))))) first_same count_box
    ∙ ap (λ m. (span.start + k / count part - first.start) * count box + m)
    (ap (λ n. place (whole (sizes box)) (tuple_at (moved_back part (starts box)) (k % n))) same
    ∙ place-moved box part (k % count part) parts.1)

pub places-moved : (box part : Region) → starts_past part (starts box) ≡ true →
    map (linear_index (sizes box)) (tuples (moved_back part (starts box))) ≡ map (place box) (tuples part)
places-moved box part h =
    same_lists (map (linear_index (sizes box)) (tuples (moved_back part (starts box)))) (map (place box) (tuples part))
    (as_many ∙ sym (length-map (tuples part) (place box) ∙ length-tuples part))
    (λ i d within. at i d (subst (λ n. i < n) as_many within))
  where
    as_many : length (map (linear_index (sizes box)) (tuples (moved_back part (starts box)))) ≡ count part
    as_many = length-map (tuples (moved_back part (starts box))) (linear_index (sizes box))
        ∙ (length-tuples (moved_back part (starts box)) ∙ count-moved part (starts box) h)

    at : (i d : ℕ) → i < count part → get_or (map (linear_index (sizes box)) (tuples (moved_back part (starts box)))) i
        d ≡ get_or (map (place box) (tuples part)) i d
    at i d below =
        let here : i < count (moved_back part (starts box)) =
        subst (λ n. i < n) (sym (count-moved part (starts box) h)) below in
        get_or-map (linear_index (sizes box)) (tuples (moved_back part (starts box))) i [] d
        (subst (λ n. i < n) (sym (length-tuples (moved_back part (starts box)))) here)
        ∙ (ap (linear_index (sizes box)) (get_or-tuples (moved_back part (starts box)) i [] here)
        ∙ (place-moved box part i h
        ∙ sym (get_or-map (place box) (tuples part) i [] d (subst (λ n. i < n) (sym (length-tuples part)) below)
        ∙ ap (place box) (get_or-tuples part i [] below))))

-- what two boxes share starts past both
pub shares_first : (a b : Region) → length a ≡ length b → starts_past (overlap_of a b) (starts a) ≡ true
shares_first [] [] e = refl
shares_first [] (y ∷ b) e = absurd (omega (arith, e))
shares_first (x ∷ a) [] e = absurd (omega (arith, e))
shares_first (x ∷ a) (y ∷ b) e = and_from (nat_le x.start (max x.start y.start))
    (starts_past (overlap_of a b) (starts a)) (grind (arith, nat_tests)) (shares_first a b (omega (arith, e)))

pub shares_second : (a b : Region) → length a ≡ length b → starts_past (overlap_of a b) (starts b) ≡ true
shares_second [] [] e = refl
shares_second [] (y ∷ b) e = absurd (omega (arith, e))
shares_second (x ∷ a) [] e = absurd (omega (arith, e))
shares_second (x ∷ a) (y ∷ b) e = and_from (nat_le y.start (max x.start y.start))
    (starts_past (overlap_of a b) (starts b)) (grind (arith, nat_tests)) (shares_second a b (omega (arith, e)))

module _ {A : Type 0} (target source : Region) (rank : length target ≡ length source) (z : A) (xs old : List A)
    (xs_long : length xs ≡ count source) (old_long : length old ≡ count target) where
  abbrev part : Region
  part = overlap_of target source

  abbrev taken : List ℕ → A
  taken tuple = get_or xs (place source tuple) z

  pub given_is : picked z (shared_in source part) xs ≡ map taken (tuples part)
  given_is = ap (λ l. picked z l xs) (places-moved source part (shares_second target source rank))
      ∙ map-map (λ place. get_or xs place z) (place source) (tuples part)

  both : (tuple : List ℕ) → contains part tuple ≡ true → (contains target tuple ≡ true) × (contains source tuple ≡ true)
  both tuple h =
      and_parts (contains target tuple) (contains source tuple) (sym (overlap_is_both target source tuple rank) ∙ h)

  -- a tuple of the shared part, by its place there
  module _ (j : ℕ) (d : List ℕ) (below : j < length (tuples part)) where
    within : j < count part
    within = subst (λ n. j < n) (length-tuples part) below

    tuple_is : get_or (tuples part) j d ≡ tuple_at part j
    tuple_is = get_or-tuples part j d within

    in_both : (contains target (get_or (tuples part) j d) ≡ true) × (contains source (get_or (tuples part) j d) ≡ true)
    in_both = both (get_or (tuples part) j d) (ap (contains part) tuple_is ∙ contains-tuple_at part j within)

    hit : (k : ℕ) → place target (get_or (tuples part) j d) ≡ k → tuple_at target k ≡ get_or (tuples part) j d
    hit k e = ap (tuple_at target) (sym e) ∙ tuple_at-place target (get_or (tuples part) j d) in_both.0

  copied_at : (k : ℕ) (d : A) → k < count target →
      get_or (replaced (map (place target) (tuples part)) (map taken (tuples part)) old) k d
      ≡ (if contains source (tuple_at target k) then get_or xs (place source (tuple_at target k)) d else get_or old k d)
  copied_at k d below =
      get_or-replaced d k (map (place target) (tuples part)) (map taken (tuples part)) old
      (subst (λ n. k < n) (sym old_long) below)
      ∙ turn (contains source (tuple_at target k)) refl
    where
      turn : (b : Bool) → contains source (tuple_at target k) ≡ b →
          last_given k (map (place target) (tuples part)) (map taken (tuples part)) (get_or old k d)
          ≡ (if b then get_or xs (place source (tuple_at target k)) d else get_or old k d)
      turn true inside =
          let in_part : contains part (tuple_at target k) ≡ true =
          overlap_is_both target source (tuple_at target k) rank ∙ and_from (contains target (tuple_at target k))
          (contains source (tuple_at target k)) (contains-tuple_at target k below) inside in
          given_once k (place target) taken (tuples part) (get_or old k d)
          (get_or xs (place source (tuple_at target k)) d)
          (λ j t low e. get_or_default xs (place source (get_or (tuples part) j t)) z d
          (subst (λ n. place source (get_or (tuples part) j t) < n) (sym xs_long)
          (place_below source (get_or (tuples part) j t) (in_both j t low).1))
          ∙ ap (λ t. get_or xs (place source t) d) (sym (hit j t low k e)))
          (place part (tuple_at target k)) [] (subst (λ n.
          place part (tuple_at target k) < n) (sym (length-tuples part)) (place_below part (tuple_at target k) in_part))
          (ap (place target) (get_or-tuples part (place part (tuple_at target k)) [] (place_below part (tuple_at target
          k) in_part) ∙ tuple_at-place part (tuple_at target k) in_part) ∙ place-tuple_at target k below)
      turn false out =
          given_same k (place target) taken (tuples part) (get_or old k d) (get_or old k d)
          (λ j t low e. let inside : contains source (tuple_at target k) ≡ true =
          ap (contains source) (hit j t low k e) ∙ (in_both j t low).1 in absurd (true≢false (sym inside ∙ out)))
          refl

  pub shared_copied :
      Copied target source xs old (replaced (shared_in target part) (picked z (shared_in source part) xs) old)
  shared_copied = record {
    as_long = length-replaced (shared_in target part) (picked z (shared_in source part) xs) old;
    each = λ k d below. ap (λ l. get_or l k d) (ap₂ (λ l g. replaced l g old)
        (places-moved target part (shares_first target source rank)) given_is) ∙ copied_at k d below;
  }

-- what a box shares with a region that it lies within is the box
same_span : (a b : ℕ) (m n : ℕ) → b ≤ a → a + m ≤ b + n → (max b a ≡ a) × (min (b + n) (a + m) - max b a ≡ m)
same_span a b m n low high = (omega (arith, low), omega (arith, low, high))

abbrev span_of : ℕ → ℕ → Span
span_of a m = record { start = a; size = m }

pub overlap_inside : (region box : Region) → is_within box region ≡ true → overlap_of region box ≡ box
overlap_inside [] [] within = refl
overlap_inside [] (own ∷ box) within = cc
overlap_inside (span ∷ region) [] within = cc
overlap_inside (span ∷ region) (own ∷ box) within =
    let parts = and_parts _ (is_within box region) within in
    let both = and_parts _ _ parts.0 in
    let low : span.start ≤ own.start = leb-true _ _ both.0 in
    let high : own.start + own.size ≤ span.start + span.size = leb-true _ _ both.1 in
    let same = same_span own.start span.start own.size span.size low high in
    ap₂ (λ (s : Span) (rest : Region). s ∷ rest) (ap₂ (λ (a m : ℕ). span_of a m) same.0 same.1)
    (overlap_inside region box parts.1)

-- the elements of all of a box are its list
module _ (box : Region) where
  all_starts : starts_past box (starts box) ≡ true
  all_starts = go box
    where
      go : (box : Region) → starts_past box (starts box) ≡ true
      go [] = refl
      go (span ∷ box) = and_from (nat_le span.start span.start) (starts_past box (starts box))
          (le-leb span.start span.start (omega arith)) (go box)

  pub all_long : length (shared_in box box) ≡ count box
  all_long = ap length (places-moved box box all_starts) ∙ (length-map (tuples box) (place box) ∙ length-tuples box)

  pub all_picked : {A : Type 0} (z : A) (xs : List A) → length xs ≡ count box → picked z (shared_in box box) xs ≡ xs
  all_picked {A = A} z xs long =
      ap (λ l. picked z l xs) (places-moved box box all_starts)
      ∙ same_lists (picked z (map (place box) (tuples box)) xs) xs (as_many ∙ sym long)
      (λ i d within. at i d (subst (λ n. i < n) as_many within))
    where
      as_many : length (picked z (map (place box) (tuples box)) xs) ≡ count box
      as_many = length-map (map (place box) (tuples box)) (λ place. get_or xs place z)
          ∙ (length-map (tuples box) (place box) ∙ length-tuples box)

      at : (i : ℕ) (d : A) → i < count box → get_or (picked z (map (place box) (tuples box)) xs) i d ≡ get_or xs i d
      at i d below =
          let here : i < length (tuples box) = subst (λ n. i < n) (sym (length-tuples box)) below in
          get_or-map (λ place. get_or xs place z) (map (place box) (tuples box)) i 0 d
          (subst (λ n. i < n) (sym (length-map (tuples box) (place box))) here)
          ∙ (ap (λ place. get_or xs place z) (get_or-map (place box) (tuples box) i [] 0 here
          ∙ (ap (place box) (get_or-tuples box i [] below) ∙ place-tuple_at box i below))
          ∙ get_or_default xs i z d (subst (λ n. i < n) (sym long) below))
