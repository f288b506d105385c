-- What a copy of rows gives is what is picked element by element.
use Rattle.std.proofs.Common.{◌≡◌, ℕ, zero, suc, ◌+◌, ◌-◌, ◌*◌, ◌/◌, ◌<◌, ◌==◌, Bool, true, false, nat_lt}
use Rattle.std.proofs.Common.{if◌then◌else◌, List, [], ◌∷◌, ◌++◌, length, take, drop, map, get_or, arith, ap, sym, refl}
use Rattle.std.proofs.Common.{◌∙◌, subst}
use Rattle.std.specs.List.{flat_map, range_with_len, AllByRecursion}
use Rattle.std.proofs.lemmas.Bool.{cond-true, cond-false}
use Rattle.std.proofs.lemmas.Bool.Decides.{nat_tests}
use Rattle.std.proofs.lemmas.List.{length-map, get_or-map, same_lists, length-drop, take-append-drop}
use Rattle.std.proofs.Math.Nat.{suc-mul, mul-div_cancel}
use Rattle.zarr_model.specs.Region.{Region, count, count_of, whole, contains, place, tuple_at, tuples, linear_index}
use Rattle.zarr_model.specs.Element.{of_bytes, null}
use Rattle.zarr_model.specs.ArrayBytes.{pieces, bytes_of}
use Rattle.zarr_model.proofs.RegionLaws.{place_below, contains-tuple_at, get_or-tuples, length-tuples, tuple_at-place}
use Rattle.zarr_model.proofs.RegionLaws.{place-tuple_at, count_whole}
use Rattle.zarr_model.proofs.BytesLaws.{length-pieces}
use Rattle.zarrs_codec_slices.specs.Elements.{fixed_elements}
use Rattle.zarrs_codec_slices.specs.Overlap.{Copied}
use Rattle.zarrs_codec_slices.specs.Picking.{AllBelow, piece_of, picked_piece, replaced, last_given}
use Rattle.zarrs_codec_slices.proofs.LeafLaws.{get_or-pieces}
use Rattle.zarrs_codec_slices.proofs.PickLaws.{length_of_places}
use Rattle.zarrs_codec_slices.proofs.ReplaceLaws.{get_or-replaced, length-replaced}
use Rattle.zarrs_codec_slices.proofs.ValueLaws.{joined_map}

-- linear indices of tuples in a shape are below its count
pub indices_below : (shape : List ℕ) (tuples : List (List ℕ)) → AllByRecursion (λ tuple.
    contains (whole shape) tuple ≡ true) tuples → AllBelow (count_of shape) (map (linear_index shape) tuples)
indices_below shape [] all k h = absurd (omega arith)
indices_below shape (tuple ∷ tuples) all zero h =
    subst (λ n. place (whole shape) tuple < n) (count_whole shape) (place_below (whole shape) tuple all.0)
indices_below shape (tuple ∷ tuples) all (suc k) h = indices_below shape tuples all.1 k (omega (arith, h))

at_all : {A : Type 0} (P : A → Type 0) (xs : List A) (k : ℕ) (d : A) → AllByRecursion P xs → k < length xs →
    P (get_or xs k d)
at_all P [] k d all h = absurd (omega arith)
at_all P (x ∷ xs) zero d all h = all.0
at_all P (x ∷ xs) (suc k) d all h = at_all P xs k d all.1 (omega (arith, h))

-- pieces that are joined again
joined-pieces : (k n : ℕ) (value : List ℕ) → length value ≡ k * n → flat_map (λ v. v) (pieces k n value) ≡ value
joined-pieces zero n [] e = refl
joined-pieces zero n (x ∷ value) e = absurd (omega (arith, e))
joined-pieces (suc k) n value e =
    ap (λ rest. take n value ++ rest) (joined-pieces k n (drop n value)
    (omega (arith, length-drop n value, e, suc-mul k n))) ∙ take-append-drop n value

-- bytes are the pieces that a function gives at each place
pub joined_at : (k n : ℕ) (value picks : List ℕ) (f : ℕ → List ℕ) → length value ≡ k * n → length picks ≡ k →
    ((i : ℕ) → i < k → piece_of n value i ≡ f (get_or picks i 0)) → value ≡ flat_map f picks
joined_at k n value picks f long as_many each =
    sym (joined-pieces k n value long)
    ∙ (ap (flat_map (λ v. v))
    (same_lists (pieces k n value) (map f picks) (length-pieces k n value ∙ sym (length-map picks f ∙ as_many))
    (λ i d h. let here : i < k = subst (λ m. i < m) (length-pieces k n value) h in
    get_or-pieces k n value i d here
    ∙ (each i here ∙ sym (get_or-map f picks i 0 d (subst (λ m. i < m) (sym as_many) here)))))
    ∙ joined_map f picks)

-- the last element that is given to a place, where none is, and where one is
none_given : {A : Type 0} (place : ℕ) (indices : List ℕ) (given : List A) (before : A) →
    ((i : ℕ) → i < length indices → get_or indices i 0 ≡ place → ⊥) → last_given place indices given before ≡ before
none_given place [] given before none = refl
none_given place (index ∷ indices) [] before none = refl
none_given place (index ∷ indices) (x ∷ given) before none =
    ap (last_given place indices given) (cond-false (place == index) x before (other (λ e. none 0 (omega arith) e)))
    ∙ none_given place indices given before (λ i h e. none (suc i) (omega (arith, h)) e)
  where
    other : (index ≡ place → ⊥) → (place == index) ≡ false
    other differ = let turned : place ≡ index → ⊥ = λ e. differ (sym e) in grind (arith, nat_tests)

one_given : {A : Type 0} (place j : ℕ) (indices : List ℕ) (given : List A) (before d : A) →
    length given ≡ length indices → j < length indices → get_or indices j 0 ≡ place →
    ((i : ℕ) → i < length indices → get_or indices i 0 ≡ place → i ≡ j) →
    last_given place indices given before ≡ get_or given j d
one_given place j [] given before d long h at only = absurd (omega arith)
one_given place j (index ∷ indices) [] before d long h at only = absurd (omega (arith, long))
one_given place zero (index ∷ indices) (x ∷ given) before d long h at only =
    ap (last_given place indices given) (cond-true (place == index) x before (grind (arith, nat_tests)))
    ∙ none_given place indices given x
    (λ i l e. let same : suc i ≡ 0 = only (suc i) (omega (arith, l)) e in absurd (omega (arith, same)))
one_given place (suc j) (index ∷ indices) (x ∷ given) before d long h at only =
    one_given place j indices given (if place == index then x else before) d (omega (arith, long)) (omega (arith, h)) at
    (λ i l e. let same : suc i ≡ suc j = only (suc i) (omega (arith, l)) e in omega (arith, same))

get_or-range : (from n i : ℕ) → i < n → get_or (range_with_len from n) i 0 ≡ from + i
get_or-range from zero i h = absurd (omega arith)
get_or-range from (suc n) zero h = omega arith
get_or-range from (suc n) (suc i) h = get_or-range (from + 1) n i (omega arith) ∙ omega arith

module _ (n : ℕ) (some : 0 < n) where
  element_at : (k i : ℕ) (value : List ℕ) → length value ≡ k * n → i < k →
      get_or (fixed_elements n value) i null ≡ of_bytes (piece_of n value i)
  element_at k i value long h =
      let many : length value / n ≡ k = ap (λ m. m / n) long ∙ mul-div_cancel k some in
      let here : i < length value / n = subst (λ m. i < m) (sym many) h in
      get_or-map of_bytes (pieces (length value / n) n value) i [] null
      (subst (λ m. i < m) (sym (length-pieces (length value / n) n value)) here)
      ∙ ap of_bytes (get_or-pieces (length value / n) n value i [] here)

  module _ (target source : Region) (from old new : List ℕ)
      (from_long : length from ≡ count source * n) (old_long : length old ≡ count target * n)
      (as_long : length new ≡ length old)
      (copied : Copied target source (fixed_elements n from) (fixed_elements n old) (fixed_elements n new)) where
    new_at : (k : ℕ) → k < count target → of_bytes (piece_of n new k) ≡ get_or (fixed_elements n new) k null
    new_at k h = sym (element_at (count target) k new (as_long ∙ old_long) h)

    taken_at : (k : ℕ) → k < count target → contains source (tuple_at target k) ≡ true →
        piece_of n new k ≡ piece_of n from (place source (tuple_at target k))
    taken_at k h in_source = ap bytes_of (new_at k h ∙ (copied.each k null h
        ∙ (cond-true (contains source (tuple_at target k)) _ _ in_source
        ∙ element_at (count source) (place source (tuple_at target k)) from from_long
        (place_below source (tuple_at target k) in_source))))

    kept_at : (k : ℕ) → k < count target → contains source (tuple_at target k) ≡ false →
        piece_of n new k ≡ piece_of n old k
    kept_at k h out = ap bytes_of (new_at k h ∙ (copied.each k null h
        ∙ (cond-false (contains source (tuple_at target k)) _ _ out ∙ element_at (count target) k old old_long h)))

    -- a box that was copied out of another one
    pub rows_taken : AllByRecursion (λ tuple. contains source tuple ≡ true) (tuples target) →
        new ≡ flat_map (picked_piece n (count source) from from) (map (place source) (tuples target))
    rows_taken inside =
        joined_at (count target) n new (map (place source) (tuples target)) (picked_piece n (count source) from from)
        (as_long ∙ old_long)
        (length-map (tuples target) (place source) ∙ length-tuples target) each
      where
        each : (k : ℕ) → k < count target →
            piece_of n new k ≡ picked_piece n (count source) from from (get_or (map (place source) (tuples target)) k 0)
        each k h =
            let within : k < length (tuples target) = subst (λ m. k < m) (sym (length-tuples target)) h in
            let tuple_is : get_or (tuples target) k [] ≡ tuple_at target k = get_or-tuples target k [] h in
            let in_source : contains source (tuple_at target k) ≡ true = subst (λ t. contains source t ≡ true) tuple_is
            (at_all (λ tuple. contains source tuple ≡ true) (tuples target) k [] inside within) in
            let low : place source (tuple_at target k) < count source =
            place_below source (tuple_at target k) in_source in
            taken_at k h in_source
            ∙ (sym (cond-true (nat_lt (place source (tuple_at target k)) (count source))
            (piece_of n from (place source (tuple_at target k)))
            (piece_of n from (place source (tuple_at target k) - count source)) (grind (arith, nat_tests)))
            ∙ ap (picked_piece n (count source) from from)
            (sym (get_or-map (place source) (tuples target) k [] 0 within ∙ ap (place source) tuple_is)))

    -- a box that was copied into another one
    pub rows_put : AllByRecursion (λ tuple. contains target tuple ≡ true) (tuples source) →
        new ≡ flat_map (picked_piece n (count target) old from)
        (replaced (map (place target) (tuples source))
        (range_with_len (count target) (length (map (place target) (tuples source)))) (range_with_len 0 (count target)))
    rows_put inside =
        joined_at number n new picks (picked_piece n number old from)
        (as_long ∙ old_long) (length-replaced indices _ _ ∙ length_of_places 0 number) each
      where
        number : ℕ
        number = count target

        indices : List ℕ
        indices = map (place target) (tuples source)

        picks : List ℕ
        picks = replaced indices (range_with_len number (length indices)) (range_with_len 0 number)

        indices_long : length indices ≡ count source
        indices_long = length-map (tuples source) (place target) ∙ length-tuples source

        index_at : (i : ℕ) → i < count source → get_or indices i 0 ≡ place target (tuple_at source i)
        index_at i h = get_or-map (place target) (tuples source) i [] 0
            (subst (λ m. i < m) (sym (length-tuples source)) h) ∙ ap (place target) (get_or-tuples source i [] h)

        source_in : (i : ℕ) → i < count source → contains target (tuple_at source i) ≡ true
        source_in i h = subst (λ t. contains target t ≡ true) (get_or-tuples source i [] h)
            (at_all (λ tuple. contains target tuple ≡ true) (tuples source) i [] inside
            (subst (λ m. i < m) (sym (length-tuples source)) h))

        -- an index that is this place is that of its tuple
        tuple_of : (k i : ℕ) → i < count source → get_or indices i 0 ≡ k → tuple_at target k ≡ tuple_at source i
        tuple_of k i h e =
            ap (tuple_at target) (sym e ∙ index_at i h) ∙ tuple_at-place target (tuple_at source i) (source_in i h)

        pick_at : (k : ℕ) → k < number →
            get_or picks k 0 ≡ last_given k indices (range_with_len number (length indices)) k
        pick_at k h =
            get_or-replaced 0 k indices (range_with_len number (length indices)) (range_with_len 0 number)
            (subst (λ m. k < m) (sym (length_of_places 0 number)) h)
            ∙ ap (last_given k indices (range_with_len number (length indices)))
            (get_or-range 0 number k h ∙ (let none : 0 + k ≡ k = omega arith in none))

        each : (k : ℕ) → k < number → piece_of n new k ≡ picked_piece n number old from (get_or picks k 0)
        each k low = go (contains source (tuple_at target k)) refl
          where
            go : (b : Bool) → contains source (tuple_at target k) ≡ b →
                piece_of n new k ≡ picked_piece n number old from (get_or picks k 0)
            go true in_source =
                taken_at k low in_source
                ∙ (ap (piece_of n from) (let same : j ≡ number + j - number = omega arith in same)
                ∙ (sym (cond-false (nat_lt (number + j) number)
                (piece_of n old (number + j)) (piece_of n from (number + j - number)) (grind (arith, nat_tests)))
                ∙ ap (picked_piece n number old from) (sym (pick_at k low ∙ (one_given k j indices (range_with_len
                number (length indices)) k 0 (length_of_places number (length indices)) in_indices at only
                ∙ get_or-range number (length indices) j in_indices)))))
              where
                j : ℕ
                j = place source (tuple_at target k)

                j_low : j < count source
                j_low = place_below source (tuple_at target k) in_source

                in_indices : j < length indices
                in_indices = subst (λ m. j < m) (sym indices_long) j_low

                at : get_or indices j 0 ≡ k
                at = index_at j j_low ∙ (ap (place target) (tuple_at-place source (tuple_at target k) in_source)
                    ∙ place-tuple_at target k low)

                only : (i : ℕ) → i < length indices → get_or indices i 0 ≡ k → i ≡ j
                only i l e =
                    let below : i < count source = subst (λ m. i < m) indices_long l in
                    sym (place-tuple_at source i below) ∙ ap (place source) (sym (tuple_of k i below e))
            go false out =
                kept_at k low out
                ∙ (sym (cond-true (nat_lt k number) (piece_of n old k)
                (piece_of n from (k - number)) (grind (arith, nat_tests, low)))
                ∙ ap (picked_piece n number old from)
                (sym (pick_at k low ∙ none_given k indices (range_with_len number (length indices)) k
                (λ i l e. let below : i < count source = subst (λ m. i < m) indices_long l in
                let inside_it : contains source (tuple_at target k) ≡ true =
                subst (λ t. contains source t ≡ true) (sym (tuple_of k i below e)) (contains-tuple_at source i below) in
                let both : true ≡ false = sym inside_it ∙ out in cc))))
