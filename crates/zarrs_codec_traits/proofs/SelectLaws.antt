-- Selections of a shape's list.
use Rattle.std.proofs.Common.{◌≡◌, ℕ, ◌+◌, ◌*◌, ◌^◌, ◌<◌, ◌≤◌, true, List, [], map, length, get_or, replicate}
use Rattle.std.proofs.Common.{Some, sym, ap, ◌∙◌, subst, arith}
use Rattle.std.proofs.lemmas.List.{length-map, get_or-map, same_lists, get_or_default, length-replicate}
use Rattle.std.proofs.lemmas.List.{get_or-replicate}
use Rattle.std.proofs.lemmas.Simd.{map-map}
use Rattle.std.proofs.Math.Nat.{mul-le-mul_right}
use Rattle.zarrs_codec_traits.specs.Prelude.{Region, count, count_of, sizes, whole, contains, ends_within, tuples}
use Rattle.zarrs_codec_traits.specs.Prelude.{place, tuple_at, linear_index, ArrayBytes, meaning, Level, size_in, picked}
use Rattle.zarrs_codec_traits.specs.Prelude.{linear, select, IsFit, at_box, list_at}
use Rattle.zarr_model.specs.Element.{Element, null, fixed_size, kind_of}
use Rattle.zarr_model.proofs.RegionLaws.{length-tuples, place_below, place-tuple_at, contains-tuple_at, get_or-tuples}
use Rattle.zarr_model.proofs.RegionLaws.{sizes_whole, count_within}
use Rattle.zarr_model.proofs.ArrayLaws.{inside_shape}

-- a list of a region's elements, by each of its tuples
pub listed : {E : Type 0} (region : Region) (f : List ℕ → E) (list : List E) (filler : E) → length list ≡ count region →
    ((tuple : List ℕ) → contains region tuple ≡ true → f tuple ≡ get_or list (place region tuple) filler) →
    map f (tuples region) ≡ list
listed region f list filler full agrees =
    let long : length (map f (tuples region)) ≡ length list =
    length-map (tuples region) f ∙ (length-tuples region ∙ sym full) in
    same_lists (map f (tuples region)) list long (λ k d h.
    let below : k < count region = subst (λ n. k < n) (long ∙ full) h in
    get_or-map f (tuples region) k [] d (subst (λ n. k < n) (sym (length-tuples region)) below)
    ∙ (ap f (get_or-tuples region k [] below)
    ∙ (agrees (tuple_at region k) (contains-tuple_at region k below)
    ∙ (ap (λ n. get_or list n filler) (place-tuple_at region k below)
    ∙ get_or_default list k filler d (subst (λ n. k < n) long h)))))

-- a selection of one element over and over
pub select-replicate : (shape : List ℕ) (region : Region) (f : Element) → ends_within region shape ≡ true →
    select shape region (replicate (count_of shape) f) ≡ replicate (count region) f
select-replicate shape region f inside =
    listed region _ (replicate (count region) f) f (length-replicate (count region) f) (λ tuple here.
    get_or-replicate (count_of shape) (place (whole shape) tuple) f null (subst (λ n. place (whole shape) tuple < n)
    (ap count_of (sizes_whole shape)) (place_below (whole shape) tuple (inside_shape region shape tuple inside here)))
    ∙ sym (get_or-replicate (count region) (place region tuple) f f (place_below region tuple here)))

pub box-fits : (level : Level) (region : Region) → ends_within region level.shape ≡ true →
    IsFit level.shape level.data_type → IsFit (sizes region) level.data_type
box-fits level region inside fits =
    let few : count region ≤ count_of level.shape = count_within region level.shape inside in
    let size : ℕ = size_in (fixed_size (kind_of level.data_type)) in
    let less : count region * size ≤ count_of level.shape * size = mul-le-mul_right size few in
    let first : count_of level.shape + 1 < 2 ^ 64 = fits.count in
    let second : count_of level.shape * size < 2 ^ 64 = fits.bytes in
    record { count = omega arith; bytes = omega arith }

-- the elements of a box are those at its tuples
pub boxed-picked : (level : Level) (box : Region) (places : List (List ℕ)) (raw : ArrayBytes) (xs : List Element) →
    places ≡ tuples box
    → list_at (at_box box level) raw ≡ Some (select level.shape box xs) →
    meaning (kind_of level.data_type) (length places) raw ≡ Some (picked null (linear level.shape places) xs)
boxed-picked level box places raw xs same e =
    ap (λ (p : List (List ℕ)). meaning (kind_of level.data_type) (length p) raw) same
    ∙ (ap (λ (n : ℕ). meaning (kind_of level.data_type) n raw) (length-tuples box)
    ∙ (e ∙ ap Some (sym (map-map (λ (k : ℕ). get_or xs k null) (linear_index level.shape) (tuples box))
    ∙ ap (λ (p : List (List ℕ)). picked null (linear level.shape p) xs) (sym same))))
