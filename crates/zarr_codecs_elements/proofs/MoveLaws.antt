-- Elements that are moved as the dimensions of their array are ordered anew.
use Rattle.std.proofs.Common.{◌≡◌, ℕ, ◌<◌, true, List, [], length, map, get_or, replicate, ap, ap₂, sym, ◌∙◌, subst}
use Rattle.std.proofs.lemmas.List.{length-map, length-replicate, get_or-map, get_or-replicate, ext_get_or}
use Rattle.std.proofs.lemmas.Simd.{map-map}
use Rattle.zarrs_codec_traits.specs.Prelude.{Region, count, count_of, whole, contains, tuples, place, tuple_at}
use Rattle.zarrs_codec_traits.specs.Prelude.{permuted, AllBelow, picked}
use Rattle.zarr_model.proofs.RegionLaws.{count_whole, length-tuples, get_or-tuples, contains-tuple_at, place_below}
use Rattle.zarr_model.proofs.RegionLaws.{tuple_at-place, place-tuple_at}
use Rattle.zarr_codecs_elements.specs.Order.{is_order, inverse}
use Rattle.zarr_codecs_elements.specs.Moved.{moved_places}
use Rattle.zarr_codecs_elements.proofs.OrderLaws.{permuted_back}
use Rattle.zarr_codecs_elements.proofs.PlaceLaws.{contains_at, contains-permuted}

-- a list over a region has at the place of a tuple what it has for the tuple
pub at_tuple : {A : Type 0} (f : List ℕ → A) (region : Region) (tuple : List ℕ) (d : A) → contains region tuple ≡ true →
    get_or (map f (tuples region)) (place region tuple) d ≡ f tuple
at_tuple f region tuple d inside =
    let low : place region tuple < count region = place_below region tuple inside in
    get_or-map f (tuples region) (place region tuple) [] d
    (subst (λ n. place region tuple < n) (sym (length-tuples region)) low)
    ∙ ap f (get_or-tuples region (place region tuple) [] low ∙ tuple_at-place region tuple inside)

pub at_number : {A : Type 0} (f : List ℕ → A) (region : Region) (k : ℕ) (d : A) → k < count region →
    get_or (map f (tuples region)) k d ≡ f (tuple_at region k)
at_number f region k d low =
    get_or-map f (tuples region) k [] d (subst (λ n. k < n) (sym (length-tuples region)) low)
    ∙ ap f (get_or-tuples region k [] low)

-- there are as many places as elements, and each is one of the ordered shape
pub length-moved : (order shape : List ℕ) → length (moved_places order shape) ≡ count_of shape
length-moved order shape =
    length-map (tuples (whole shape)) (λ tuple. place (whole (permuted order shape)) (permuted order tuple))
    ∙ (length-tuples (whole shape) ∙ count_whole shape)

pub moved_below : (order shape : List ℕ) → is_order order ≡ true → length shape ≡ length order →
    AllBelow (count_of (permuted order shape)) (moved_places order shape)
moved_below order shape e long = λ k h.
    let low : k < count (whole shape) = subst (λ n. k < n) (length-moved order shape ∙ sym (count_whole shape)) h in
    let inside =
    contains-permuted order shape (tuple_at (whole shape) k) e long (contains-tuple_at (whole shape) k low) in
    subst (λ n. n < count_of (permuted order shape))
    (sym (at_number (λ tuple. place (whole (permuted order shape)) (permuted order tuple)) (whole shape) k 0 low))
    (subst (λ n. place (whole (permuted order shape)) (permuted order (tuple_at (whole shape) k))
    < n) (count_whole (permuted order shape))
    (place_below (whole (permuted order shape)) (permuted order (tuple_at (whole shape) k)) inside))

-- what is picked there has at each tuple the element at the ordered tuple
pub picked-moved : {A : Type 0} (d : A) (order shape : List ℕ) (list : List A) →
    picked d (moved_places order shape) list ≡
    map (λ tuple. get_or list (place (whole (permuted order shape)) (permuted order tuple)) d) (tuples (whole shape))
picked-moved d order shape list = map-map (λ (k : ℕ). get_or list k d)
    (λ (tuple : List ℕ). place (whole (permuted order shape)) (permuted order tuple)) (tuples (whole shape))

-- elements that are moved by an order's inverse and then by the order are where they were
pub moved_back : {A : Type 0} (d : A) (order shape : List ℕ) (list : List A) → is_order order ≡ true →
    length shape ≡ length order → length list ≡ count_of shape →
    picked d (moved_places order shape) (picked d (moved_places (inverse order) (permuted order shape)) list) ≡ list
moved_back {A = A} d order shape list e long full =
    let below : List ℕ = permuted order shape in
    let back : List ℕ = inverse order in
    let given = picked d (moved_places back below) list in
    let top : permuted back below ≡ shape = permuted_back order shape e long in
    ext_get_or d (picked d (moved_places order shape) given) list
    (length-map (moved_places order shape) (λ k. get_or given k d) ∙ (length-moved order shape ∙ sym full)) (λ k h.
    let low : k < count (whole shape) = subst (λ n. k < n) (length-map (moved_places order shape)
    (λ j. get_or given j d) ∙ (length-moved order shape ∙ sym (count_whole shape))) h in
    let tuple : List ℕ = tuple_at (whole shape) k in
    let inside : contains (whole shape) tuple ≡ true = contains-tuple_at (whole shape) k low in
    let same : length tuple ≡ length order = (contains_at shape tuple inside).0 ∙ long in
    ap (λ (l : List A). get_or l k d) (picked-moved d order shape given)
    ∙ (at_number (λ t. get_or given (place (whole below) (permuted order t)) d) (whole shape) k d low
    ∙ (ap (λ (l : List A). get_or l (place (whole below) (permuted order tuple)) d) (picked-moved d back below list)
    ∙ (at_tuple (λ t. get_or list (place (whole (permuted back below)) (permuted back t)) d) (whole below)
    (permuted order tuple) d (contains-permuted order shape tuple e long inside)
    ∙ (ap₂ (λ s t. get_or list (place (whole s) t) d) top (permuted_back order tuple e same)
    ∙ ap (λ n. get_or list n d) (place-tuple_at (whole shape) k low))))))

-- one element over and over stays so
pub moved_same : {A : Type 0} (d x : A) (order shape : List ℕ) → is_order order ≡ true → length shape ≡ length order →
    picked d (moved_places order shape) (replicate (count_of (permuted order shape)) x) ≡ replicate (count_of shape) x
moved_same d x order shape e long =
    let xs = replicate (count_of (permuted order shape)) x in
    ext_get_or d (picked d (moved_places order shape) xs) (replicate (count_of shape) x)
    (length-map (moved_places order shape) (λ k. get_or xs k d)
    ∙ (length-moved order shape ∙ sym (length-replicate (count_of shape) x))) (λ k h.
    let low : k < length (moved_places order shape) =
    subst (λ n. k < n) (length-map (moved_places order shape) (λ j. get_or xs j d)) h in
    get_or-map (λ j. get_or xs j d) (moved_places order shape) k 0 d low
    ∙ (get_or-replicate (count_of (permuted order shape)) (get_or (moved_places order shape) k 0) x d
    (moved_below order shape e long k low)
    ∙ sym (get_or-replicate (count_of shape) k x d (subst (λ n. k < n) (length-moved order shape) low))))
