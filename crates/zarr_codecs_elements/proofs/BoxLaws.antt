-- Boxes whose dimensions are ordered anew, and the elements in them.
use Rattle.std.proofs.Common.{◌≡◌, ℕ, zero, suc, ◌+◌, ◌/◌, ◌%◌, ◌<◌, ◌≤◌, true, nat_le, List, [], ◌∷◌, length, map}
use Rattle.std.proofs.Common.{get_or, arith, ap, ap₂, sym, refl, ◌∙◌, subst}
use Rattle.std.proofs.lemmas.Bool.{and_parts, and_from, leb-true, le-leb}
use Rattle.std.proofs.lemmas.List.{length-map, ext_get_or}
use Rattle.std.proofs.lemmas.Simd.{map-map}
use Rattle.zarr_model.specs.Region.{Span, Region, count, count_of, whole, contains, tuples, place, tuple_at, starts}
use Rattle.zarr_model.specs.Region.{sizes, ends_within}
use Rattle.zarrs_codec_traits.specs.Prelude.{permuted, permuted_box, picked}
use Rattle.zarr_model.proofs.ArrayLaws.{inside_shape}
use Rattle.zarr_model.proofs.RegionLaws.{count_whole, length-tuples, contains-tuple_at, place_below, tuple_at-place}
use Rattle.zarr_model.specs.Region.{span_at}
use Rattle.zarr_codecs_elements.specs.Order.{is_order}
use Rattle.zarr_codecs_elements.specs.Moved.{moved_places}
use Rattle.zarr_codecs_elements.proofs.OrderLaws.{order_below, length-permuted, permuted_at}
use Rattle.zarr_codecs_elements.proofs.PlaceLaws.{contains_at, contains-permuted}
use Rattle.zarr_codecs_elements.proofs.MoveLaws.{at_tuple, at_number, length-moved, picked-moved}

-- the parts of an ordered box
pub starts-permuted : (order : List ℕ) (box : Region) → starts (permuted_box order box) ≡ permuted order (starts box)
starts-permuted order box = map-map (λ (s : Span). s.start) (span_at box) order

pub sizes-permuted : (order : List ℕ) (box : Region) → sizes (permuted_box order box) ≡ permuted order (sizes box)
sizes-permuted order box = map-map (λ (s : Span). s.size) (span_at box) order

-- a box inside a shape, dimension by dimension
pub ends_at : (box : Region) (shape : List ℕ) → ends_within box shape ≡ true → (length box ≡ length shape) ×
    ((i : ℕ) → i < length shape → get_or (starts box) i 0 + get_or (sizes box) i 0 ≤ get_or shape i 0)
ends_at [] [] e = (refl, λ i h. absurd (omega arith))
ends_at [] (n ∷ shape) e = cc
ends_at (s ∷ box) [] e = cc
ends_at (s ∷ box) (n ∷ shape) e =
    let parts = and_parts (nat_le (s.start + s.size) n) (ends_within box shape) e in
    let rest = ends_at box shape parts.1 in
    (ap suc rest.0, each (leb-true (s.start + s.size) n parts.0) rest.1)
  where
    each : s.start + s.size ≤ n →
        ((i : ℕ) → i < length shape → get_or (starts box) i 0 + get_or (sizes box) i 0 ≤ get_or shape i 0) →
        (i : ℕ) → i < suc (length shape) →
        get_or (starts (s ∷ box)) i 0 + get_or (sizes (s ∷ box)) i 0 ≤ get_or (n ∷ shape) i 0
    each low rest zero h = low
    each low rest (suc i) h = rest i (omega arith)

pub ends_from : (box : Region) (shape : List ℕ) → length box ≡ length shape → ((i : ℕ) → i < length shape →
    get_or (starts box) i 0 + get_or (sizes box) i 0 ≤ get_or shape i 0) → ends_within box shape ≡ true
ends_from [] [] long each = refl
ends_from [] (n ∷ shape) long each = absurd (omega (arith, long))
ends_from (s ∷ box) [] long each = absurd (omega (arith, long))
ends_from (s ∷ box) (n ∷ shape) long each =
    and_from (nat_le (s.start + s.size) n) (ends_within box shape) (le-leb (s.start + s.size) n (each 0 (omega arith)))
    (ends_from box shape (omega (arith, long)) (λ i h. each (suc i) (omega (arith, h))))

-- so an ordered box is inside the ordered shape
pub box_permuted : (order shape : List ℕ) (box : Region) → is_order order ≡ true → length shape ≡ length order →
    ends_within box shape ≡ true → ends_within (permuted_box order box) (permuted order shape) ≡ true
box_permuted order shape box e long inside =
    let each = ends_at box shape inside in
    ends_from (permuted_box order box) (permuted order shape)
    (length-map order (span_at box) ∙ sym (length-permuted order shape)) (λ i h.
    let low : i < length order = subst (λ n. i < n) (length-permuted order shape) h in
    let at = each.1 (get_or order i 0) (subst (λ n. get_or order i 0 < n) (sym long) (order_below order i e low)) in
    let start : get_or (starts (permuted_box order box)) i 0 ≡ get_or (starts box) (get_or order i 0) 0 =
    ap (λ l. get_or l i 0) (starts-permuted order box) ∙ permuted_at order (starts box) i low in
    let size : get_or (sizes (permuted_box order box)) i 0 ≡ get_or (sizes box) (get_or order i 0) 0 =
    ap (λ l. get_or l i 0) (sizes-permuted order box) ∙ permuted_at order (sizes box) i low in
    let len : get_or (permuted order shape) i 0 ≡ get_or shape (get_or order i 0) 0 = permuted_at order shape i low in
    omega (arith, at, start, size, len))

-- a tuple of a box, as one of its sizes moved by its start
pub count_sizes : (box : Region) → count (whole (sizes box)) ≡ count box
count_sizes box = count_whole (sizes box)

-- the sums of what stands at the same place
abbrev pub sums : List ℕ → List ℕ → List ℕ
sums (x ∷ xs) (y ∷ ys) = (x + y) ∷ sums xs ys
sums xs ys = []

pub tuple_moved : (box : Region) (k : ℕ) → tuple_at box k ≡ sums (starts box) (tuple_at (whole (sizes box)) k)
tuple_moved [] k = refl
tuple_moved (s ∷ box) k =
    ap₂ (λ a b. a ∷ b)
    (ap (λ n. s.start + k / n) (sym (count_sizes box)) ∙ (let e : s.start + k / count (whole (sizes box)) ≡
    s.start + (0 + k / count (whole (sizes box))) = omega arith in e))
    (ap (λ n. tuple_at box (k % n)) (sym (count_sizes box)) ∙ tuple_moved box (k % count (whole (sizes box))))

sums_at : (xs ys : List ℕ) (i : ℕ) → length xs ≡ length ys → get_or (sums xs ys) i 0 ≡ get_or xs i 0 + get_or ys i 0
sums_at [] [] i e = omega arith
sums_at [] (y ∷ ys) i e = absurd (omega (arith, e))
sums_at (x ∷ xs) [] i e = absurd (omega (arith, e))
sums_at (x ∷ xs) (y ∷ ys) zero e = refl
sums_at (x ∷ xs) (y ∷ ys) (suc i) e = sums_at xs ys i (omega (arith, e))

permuted-sums : (order xs ys : List ℕ) → length xs ≡ length ys →
    permuted order (sums xs ys) ≡ sums (permuted order xs) (permuted order ys)
permuted-sums [] xs ys e = refl
permuted-sums (d ∷ order) xs ys e = ap₂ (λ a b. a ∷ b) (sums_at xs ys d e) (permuted-sums order xs ys e)

-- the elements of a region of moved elements are those of the ordered region, moved
pub region_moved : {A : Type 0} (d : A) (order shape : List ℕ) (box : Region) (list : List A) → is_order order ≡ true →
    length shape ≡ length order → ends_within box shape ≡ true →
    picked d (moved_places order (sizes box))
    (map (λ tuple. get_or list (place (whole (permuted order shape)) tuple) d) (tuples (permuted_box order box)))
    ≡ map (λ tuple. get_or (picked d (moved_places order shape) list) (place (whole shape) tuple) d) (tuples box)
region_moved {A = A} d order shape box list e long inside =
    let inner : Region = permuted_box order box in
    let size : List ℕ = sizes box in
    let below = λ (tuple : List ℕ). get_or list (place (whole (permuted order shape)) tuple) d in
    let part = map below (tuples inner) in
    let moved = picked d (moved_places order shape) list in
    let above = λ (tuple : List ℕ). get_or moved (place (whole shape) tuple) d in
    let each = ends_at box shape inside in
    let size_long : length size ≡ length order = length-map box (λ (s : Span). s.size) ∙ (each.0 ∙ long) in
    ext_get_or d (picked d (moved_places order size) part) (map above (tuples box))
    (length-map (moved_places order size) (λ k. get_or part k d)
    ∙ (length-moved order size ∙ sym (length-map (tuples box) above ∙ length-tuples box))) (λ k h.
    let low : k < count (whole size) = subst (λ n. k < n) (length-map (moved_places order size) (λ j. get_or part j d)
    ∙ (length-moved order size ∙ sym (count_whole size))) h in
    let low_box : k < count box = subst (λ n. k < n) (count_sizes box) low in
    let rel : List ℕ = tuple_at (whole size) k in
    let abs : List ℕ = tuple_at box k in
    let rel_in : contains (whole size) rel ≡ true = contains-tuple_at (whole size) k low in
    let moved_in : contains (whole (permuted order size)) (permuted order rel) ≡ true =
    contains-permuted order size rel e size_long rel_in in
    let at : ℕ = place (whole (permuted order size)) (permuted order rel) in
    let at_low : at < count inner = subst (λ n. at < n) (count_whole (permuted order size) ∙ ap count_of
    (sym (sizes-permuted order box))) (place_below (whole (permuted order size)) (permuted order rel) moved_in) in
    let rank : length (starts box) ≡ length rel = length-map box (λ (s : Span). s.start)
    ∙ (sym (length-map box (λ (s : Span). s.size)) ∙ sym (contains_at size rel rel_in).0) in
    let found : tuple_at inner at ≡ permuted order abs = tuple_moved inner at
    ∙ (ap₂ sums (starts-permuted order box) (ap (λ s. tuple_at (whole s) at) (sizes-permuted order box)
    ∙ tuple_at-place (whole (permuted order size)) (permuted order rel) moved_in)
    ∙ (sym (permuted-sums order (starts box) rel rank) ∙ ap (permuted order) (sym (tuple_moved box k)))) in
    let abs_in : contains (whole shape) abs ≡ true =
    inside_shape box shape abs inside (contains-tuple_at box k low_box) in
    ap (λ (l : List A). get_or l k d) (picked-moved d order size part)
    ∙ (at_number (λ t. get_or part (place (whole (permuted order size)) (permuted order t)) d) (whole size) k d low
    ∙ (at_number below inner at d at_low
    ∙ (ap below found
    ∙ (sym (at_tuple (λ t. below (permuted order t)) (whole shape) abs d abs_in)
    ∙ (ap (λ (l : List A). get_or l (place (whole shape) abs) d) (sym (picked-moved d order shape list))
    ∙ sym (at_number above box k d low_box)))))))
