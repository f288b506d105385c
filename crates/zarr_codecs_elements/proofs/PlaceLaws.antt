-- Where elements stand once the dimensions of their array are ordered anew.
use Rattle.std.proofs.Common.{◌≡◌, ℕ, zero, suc, ◌+◌, ◌-◌, ◌*◌, ◌<◌, ◌==◌, true, not, nat_lt, List, [], ◌∷◌, ◌++◌}
use Rattle.std.proofs.Common.{length, map, set, get_or, replicate, flat_map, arith, ap, ap₂, sym, refl, ◌∙◌, subst}
use Rattle.std.specs.List.{AllByRecursion, list_all, list_any, range_with_len}
use Rattle.std.proofs.lemmas.Bool.{and_parts, and_from}
use Rattle.std.proofs.lemmas.List.{length-replicate, map-append, get_or-replicate}
use Rattle.std.proofs.lemmas.List.Elements.{recursion_from_All}
use Rattle.std.proofs.lemmas.Simd.{map-map}
use Rattle.zarrs_codec_traits.specs.Prelude.{Region, count, whole, contains, is_in, tuples, place, permuted}
use Rattle.zarr_model.proofs.RegionLaws.{count_whole, in_span, span_in, length-tuples, get_or-tuples, contains-tuple_at}
use Rattle.zarr_codecs_elements.specs.Order.{are_apart, is_order, scattered, row_major, dot}
use Rattle.zarr_codecs_elements.specs.Moved.{moved_places, strided, moved_steps}
use Rattle.zarr_codecs_elements.proofs.OrderLaws.{order_below, length-scattered, scattered_else, length-permuted}
use Rattle.zarr_codecs_elements.proofs.OrderLaws.{permuted_at}
use Rattle.zarr_codecs_elements.proofs.CountLaws.{none_of}

-- a tuple in a shape, dimension by dimension
pub contains_at : (shape tuple : List ℕ) → contains (whole shape) tuple ≡ true →
    (length tuple ≡ length shape) × ((i : ℕ) → i < length shape → get_or tuple i 0 < get_or shape i 0)
contains_at [] [] e = (refl, λ i h. absurd (omega arith))
contains_at [] (x ∷ tuple) e = cc
contains_at (n ∷ shape) [] e = cc
contains_at (n ∷ shape) (x ∷ tuple) e =
    let parts = and_parts (is_in x (record { start = 0; size = n })) (contains (whole shape) tuple) e in
    let near = in_span x (record { start = 0; size = n }) parts.0 in
    let rest = contains_at shape tuple parts.1 in
    (ap suc rest.0, each near.1 rest.1)
  where
    each : x - 0 < n → ((i : ℕ) → i < length shape → get_or tuple i 0 < get_or shape i 0) → (i : ℕ) →
        i < suc (length shape) → get_or (x ∷ tuple) i 0 < get_or (n ∷ shape) i 0
    each low rest zero h = omega arith
    each low rest (suc i) h = rest i (omega arith)

pub contains_from : (shape tuple : List ℕ) → length tuple ≡ length shape →
    ((i : ℕ) → i < length shape → get_or tuple i 0 < get_or shape i 0) → contains (whole shape) tuple ≡ true
contains_from [] [] long each = refl
contains_from [] (x ∷ tuple) long each = absurd (omega (arith, long))
contains_from (n ∷ shape) [] long each = absurd (omega (arith, long))
contains_from (n ∷ shape) (x ∷ tuple) long each =
    let low : x < n = each 0 (omega arith) in
    and_from (is_in x (record { start = 0; size = n })) (contains (whole shape) tuple)
    (span_in x (record { start = 0; size = n }) (omega arith) (omega arith))
    (contains_from shape tuple (omega (arith, long)) (λ i h. each (suc i) (omega (arith, h))))

-- so an ordered tuple is in the ordered shape
pub contains-permuted : (order shape tuple : List ℕ) → is_order order ≡ true → length shape ≡ length order →
    contains (whole shape) tuple ≡ true → contains (whole (permuted order shape)) (permuted order tuple) ≡ true
contains-permuted order shape tuple e long inside =
    let each = contains_at shape tuple inside in
    contains_from (permuted order shape) (permuted order tuple)
    (length-permuted order tuple ∙ sym (length-permuted order shape)) (λ i h.
    let low : i < length order = subst (λ n. i < n) (length-permuted order shape) h in
    subst (λ m. m < get_or (permuted order shape) i 0) (sym (permuted_at order tuple i low))
    (subst (λ m. get_or tuple (get_or order i 0) 0 < m) (sym (permuted_at order shape i low))
    (each.1 (get_or order i 0) (subst (λ n. get_or order i 0 < n) (sym long) (order_below order i e low)))))

-- the tuples of a region are in it
pub all_inside : (region : Region) → AllByRecursion (λ tuple. contains region tuple ≡ true) (tuples region)
all_inside region = recursion_from_All (λ tuple. contains region tuple ≡ true) (tuples region) (λ k d h.
    let below : k < count region = subst (λ n. k < n) (length-tuples region) h in
    subst (λ t. contains region t ≡ true) (sym (get_or-tuples region k d below)) (contains-tuple_at region k below))

-- two functions that agree on each item of a list
pub map_all : {A B : Type 0} (P : A → Type 0) (f g : A → B) (xs : List A) → ((x : A) → P x → f x ≡ g x) →
    AllByRecursion P xs → map f xs ≡ map g xs
map_all P f g [] same all = refl
map_all P f g (x ∷ xs) same all = ap₂ (λ a b. a ∷ b) (same x all.0) (map_all P f g xs same all.1)

-- a place is a sum
pub place-dot : (shape tuple : List ℕ) → length tuple ≡ length shape →
    place (whole shape) tuple ≡ dot tuple (row_major shape)
place-dot [] [] long = refl
place-dot [] (x ∷ tuple) long = absurd (omega (arith, long))
place-dot (n ∷ shape) [] long = absurd (omega (arith, long))
place-dot (n ∷ shape) (x ∷ tuple) long =
    ap₂ (λ a b. a + b) (ap₂ (λ a b. a * b) (let e : x - 0 ≡ x = omega arith in e) (count_whole shape))
    (place-dot shape tuple (omega (arith, long)))

pub length-row_major : (shape : List ℕ) → length (row_major shape) ≡ length shape
length-row_major [] = refl
length-row_major (n ∷ shape) = ap suc (length-row_major shape)

-- and the sum may be taken in another order
dot-zeros : (tuple : List ℕ) (n : ℕ) → dot tuple (replicate n 0) ≡ 0
dot-zeros [] n = refl
dot-zeros (x ∷ tuple) zero = refl
dot-zeros (x ∷ tuple) (suc n) = ap₂ (λ a b. a + b) (let e : x * 0 ≡ 0 = omega arith in e) (dot-zeros tuple n)

dot-set : (tuple steps : List ℕ) (d w : ℕ) → d < length steps → length tuple ≡ length steps → get_or steps d 0 ≡ 0 →
    dot tuple (set steps d w) ≡ dot tuple steps + get_or tuple d 0 * w
dot-set [] [] d w h long none = absurd (omega arith)
dot-set [] (s ∷ steps) d w h long none = absurd (omega (arith, long))
dot-set (x ∷ tuple) [] d w h long none = absurd (omega arith)
dot-set (x ∷ tuple) (s ∷ steps) zero w h long none =
    let gone : x * s ≡ 0 = ap (λ m. x * m) none ∙ (omega arith) in omega (arith, gone)
dot-set (x ∷ tuple) (s ∷ steps) (suc d) w h long none =
    let rest = dot-set tuple steps d w (omega arith) (omega (arith, long)) none in
    omega (arith, rest)

dot-scattered : (tuple places values steps : List ℕ) → are_apart places ≡ true → length values ≡ length places →
    length tuple ≡ length steps →
    ((i : ℕ) → i < length places → (get_or places i 0 < length steps) × (get_or steps (get_or places i 0) 0 ≡ 0)) →
    dot tuple (scattered places values steps) ≡ dot tuple steps + dot (permuted places tuple) values
dot-scattered tuple [] values steps apart long same each = omega arith
dot-scattered tuple (p ∷ places) [] steps apart long same each = absurd (omega (arith, long))
dot-scattered tuple (p ∷ places) (w ∷ values) steps apart long same each =
    let parts = and_parts (not (list_any (λ y. p == y) places)) (are_apart places) apart in
    let here = each 0 (omega arith) in
    let rest = dot-scattered tuple places values steps parts.1 (omega (arith, long)) same
    (λ i h. each (suc i) (omega (arith, h))) in
    let none : get_or (scattered places values steps) p 0 ≡ 0 =
    scattered_else places values steps p (none_of p places parts.0) ∙ here.1 in
    let put = dot-set tuple (scattered places values steps) p w (subst (λ n. p <
    n) (sym (length-scattered places values steps)) here.0) (same ∙ sym (length-scattered places values steps)) none in
    put ∙ (ap (λ m. m + get_or tuple p 0 * w) rest ∙ (omega arith))

pub place-steps : (order shape tuple : List ℕ) → is_order order ≡ true → length shape ≡ length order →
    length tuple ≡ length shape →
    place (whole (permuted order shape)) (permuted order tuple) ≡ dot tuple (moved_steps order shape)
place-steps order shape tuple e long same =
    let zeros : List ℕ = replicate (length order) 0 in
    let total = dot-scattered tuple order (row_major (permuted order shape)) zeros
    (and_parts (list_all (λ d. nat_lt d (length order)) order) (are_apart order) e).1
    (length-row_major (permuted order shape) ∙ length-permuted order shape)
    (same ∙ (long ∙ sym (length-replicate (length order) 0)))
    (λ i h. let low = order_below order i e h in (
      subst (λ n. get_or order i 0
          < n) (sym (length-replicate (length order) 0)) low,
      get_or-replicate (length order) (get_or order i 0) 0 0 low,
    )) in
    place-dot (permuted order shape) (permuted order tuple)
    (length-permuted order tuple ∙ sym (length-permuted order shape))
    ∙ sym (total ∙ (ap (λ m. m + dot (permuted order tuple) (row_major (permuted order shape)))
    (dot-zeros tuple (length order)) ∙ (omega arith)))

-- numbers that grow by steps, as sums
map-flat_map : {A B C : Type 0} (f : B → C) (g : A → List B) (xs : List A) →
    map f (flat_map g xs) ≡ flat_map (λ x. map f (g x)) xs
map-flat_map f g [] = refl
map-flat_map f g (x ∷ xs) = map-append f (g x) (flat_map g xs) ∙ ap (λ l. map f (g x) ++ l) (map-flat_map f g xs)

flat_map_same : {A B : Type 0} (f g : A → List B) (xs : List A) → ((x : A) → f x ≡ g x) → flat_map f xs ≡ flat_map g xs
flat_map_same f g [] same = refl
flat_map_same f g (x ∷ xs) same = ap₂ (λ a b. a ++ b) (same x) (flat_map_same f g xs same)

map_same : {A B : Type 0} (f g : A → B) (xs : List A) → ((x : A) → f x ≡ g x) → map f xs ≡ map g xs
map_same f g [] same = refl
map_same f g (x ∷ xs) same = ap₂ (λ a b. a ∷ b) (same x) (map_same f g xs same)

pub strided-dot : (shape steps : List ℕ) (from : ℕ) → length steps ≡ length shape →
    strided shape steps from ≡ map (λ tuple. from + dot tuple steps) (tuples (whole shape))
strided-dot [] steps from long = ap (λ n. n ∷ []) (let e : from ≡ from + 0 = omega arith in e)
strided-dot (n ∷ shape) [] from long = absurd (omega (arith, long))
strided-dot (n ∷ shape) (step ∷ steps) from long =
    flat_map_same (λ i. strided shape steps (from + i * step)) (λ i. map (λ tuple.
    from + dot tuple (step ∷ steps)) (map (λ tuple. i ∷ tuple) (tuples (whole shape)))) (range_with_len 0 n) (λ i.
    strided-dot shape steps (from + i * step) (omega (arith, long))
    ∙ (map_same (λ tuple. from + i * step + dot tuple steps)
    (λ tuple. from + dot (i ∷ tuple) (step ∷ steps)) (tuples (whole shape)) (λ tuple. omega arith)
    ∙ sym (map-map (λ tuple. from + dot tuple (step ∷ steps)) (λ (tuple : List ℕ). i ∷ tuple) (tuples (whole shape)))))
    ∙ sym (map-flat_map (λ tuple. from + dot tuple (step ∷ steps)) (λ i.
    map (λ tuple. i ∷ tuple) (tuples (whole shape))) (range_with_len 0 n))

-- so the places of moved elements grow by steps
pub moved-strided : (order shape : List ℕ) → is_order order ≡ true → length shape ≡ length order →
    strided shape (moved_steps order shape) 0 ≡ moved_places order shape
moved-strided order shape e long =
    let steps_long : length (moved_steps order shape) ≡ length shape = length-scattered order
    (row_major (permuted order shape)) (replicate (length order) 0) ∙ (length-replicate (length order) 0 ∙ sym long) in
    strided-dot shape (moved_steps order shape) 0 steps_long
    ∙ map_all (λ tuple. contains (whole shape) tuple ≡ true) (λ tuple. 0 + dot tuple (moved_steps order shape))
    (λ tuple. place (whole (permuted order shape)) (permuted order tuple)) (tuples (whole shape))
    (λ tuple inside. let is = place-steps order shape tuple e long (contains_at shape tuple inside).0 in
    sym (is ∙ (omega arith)))
    (all_inside (whole shape))
