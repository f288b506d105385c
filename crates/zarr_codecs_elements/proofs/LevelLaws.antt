-- The level below an offset, and elements that it is put on or taken off.
use Rattle.std.proofs.Common.{◌≡◌, ℕ, zero, suc, ◌^◌, ◌<◌, ◌≤◌, ◌==◌, ℤ, Bool, true, false, List, [], ◌∷◌, length, map}
use Rattle.std.proofs.Common.{replicate, get_or, Some, None, refl, sym, ap, ap₂, ◌∙◌, subst}
use Rattle.std.proofs.Common.{arith, eq-eqb, eqb-true}
use Rattle.std.specs.List.{AllByRecursion}
use Rattle.std.proofs.lemmas.Bool.{cond-true}
use Rattle.std.proofs.Math.ListN.{get_or-map}
use Rattle.zarrs_codec_traits.specs.Prelude.{Region, tuples, place, whole, count_of, innermost_fill, AreBytes, select}
use Rattle.zarrs_codec_traits.specs.Prelude.{taken}
use Rattle.zarr_model.specs.Element.{Element, of_bytes, null, some, Kind, fixed, DataType, bool_type, int_type}
use Rattle.zarr_model.specs.Element.{uint_type, raw_type, string_type, bytes_type, optional_type, kind_of, fill_element}
use Rattle.zarr_model.specs.Codec.{Level, less_offset, number_of_bytes, element_less, opposite, offset_codec}
use Rattle.zarr_model.proofs.BytesLaws.{when_some}
use Rattle.zarr_model.proofs.VlenLaws.{length-low_bytes}
use Rattle.zarr_codecs_elements.specs.Numbers.{bytes_less}
use Rattle.zarr_codecs_elements.specs.Offset.{offset_type_unserved, offset_unserved}
use Rattle.zarr_codecs_elements.proofs.OffsetLaws.{bytes_back, low_proper}

-- a type that is served is so by a call that takes only some of a level
pub offset_serves : (data_type : DataType) (with_type : Bool) → offset_unserved (Some data_type) ≡ None →
    offset_unserved (taken with_type data_type) ≡ None
offset_serves data_type true served = served
offset_serves data_type false served = refl

-- the elements of a type that is served have one size
number_kind : (t : DataType) → offset_type_unserved t ≡ None → (n : ℕ) × (kind_of t ≡ fixed n)
number_kind (int_type n) served = (n, refl)
number_kind (uint_type n) served = (n, refl)
number_kind bool_type served = cc
number_kind (raw_type n) served = cc
number_kind string_type served = cc
number_kind bytes_type served = cc
number_kind (optional_type inner) served = cc

-- a fill value of one size
fixed_fill : (n : ℕ) (fill : List ℕ) (x : Element) → fill_element (fixed n) fill ≡ Some x →
    (length fill ≡ n) × (of_bytes fill ≡ x)
fixed_fill n fill x denotes = let parts = when_some (length fill == n) (of_bytes fill) x denotes in
    (eqb-true (length fill) n parts.0, parts.1)

fill_of_kind : (t : DataType) (n : ℕ) (fill : List ℕ) (x : Element) → kind_of t ≡ fixed n →
    fill_element (kind_of t) fill ≡ Some x → (length fill ≡ n) × (of_bytes fill ≡ x)
fill_of_kind t n fill x kind denotes = fixed_fill n fill x (ap (λ (k : Kind). fill_element k fill) (sym kind) ∙ denotes)

length-less : (z : ℤ) (fill : List ℕ) → length (bytes_less z fill) ≡ length fill
length-less z fill = length-low_bytes (length fill) (less_offset (256 ^ length fill) z (number_of_bytes fill))

pub below_denotes : (z : ℤ) (t : DataType) (fill : List ℕ) (x : Element) → offset_type_unserved t ≡ None →
    fill_element (kind_of t) fill ≡ Some x → fill_element (kind_of t) (bytes_less z fill) ≡ Some (element_less z x)
below_denotes z t fill x served denotes =
    let k = number_kind t served in
    let parts = fill_of_kind t k.0 fill x k.1 denotes in
    ap (λ (k : Kind). fill_element k (bytes_less z fill)) k.1
    ∙ (cond-true (length (bytes_less z fill) == k.0) (Some (of_bytes (bytes_less z fill))) None
    (eq-eqb _ _ (length-less z fill ∙ parts.0))
    ∙ ap (λ (e : Element). Some (element_less z e)) parts.1)

pub below_proper : (z : ℤ) (t : DataType) (fill : List ℕ) (x : Element) → offset_type_unserved t ≡ None →
    fill_element (kind_of t) fill ≡ Some x → AreBytes (element_less z x)
below_proper z t fill x served denotes =
    let k = number_kind t served in
    let parts = fill_of_kind t k.0 fill x k.1 denotes in
    subst (λ (e : Element). AreBytes (element_less z e)) parts.1
    (low_proper (length fill) (less_offset (256 ^ length fill) z (number_of_bytes fill)))

pub below_short : (z : ℤ) (t : DataType) (fill : List ℕ) → offset_type_unserved t ≡ None →
    length (innermost_fill (kind_of t) fill) < 2 ^ 32 → length (innermost_fill (kind_of t) (bytes_less z fill)) < 2 ^ 32
below_short z t fill served short =
    let k = number_kind t served in
    let here : length fill < 2 ^ 32 = subst (λ (k : Kind). length (innermost_fill k fill) < 2 ^ 32) k.1 short in
    let below : length (bytes_less z fill) < 2 ^ 32 = omega (arith, here, length-less z fill) in
    subst (λ (k : Kind). length (innermost_fill k (bytes_less z fill)) < 2 ^ 32) (sym k.1) below

pub same_count : (shape : List ℕ) → count_of shape ≤ count_of shape
same_count shape = omega arith

pub between_shapes : (shape other : List ℕ) → Some shape ≡ Some other → other ≡ shape
between_shapes shape other e = cc

-- what is put on is taken off again
element_back : (z : ℤ) (element : Element) → AreBytes element →
    element_less z (element_less (opposite z) element) ≡ element
element_back z null proper = refl
element_back z (some element) proper = refl
element_back z (of_bytes p) proper = ap of_bytes (bytes_back z p proper)

pub list_back : (z : ℤ) (list : List Element) → AllByRecursion AreBytes list →
    map (element_less z) (map (element_less (opposite z)) list) ≡ list
list_back z [] all = refl
list_back z (element ∷ list) all =
    ap₂ (λ (e : Element) (t : List Element). e ∷ t) (element_back z element all.0) (list_back z list all.1)

map_same : (f : Element → Element) (n : ℕ) (x : Element) → map f (replicate n x) ≡ replicate n (f x)
map_same f zero x = refl
map_same f (suc n) x = ap (λ (t : List Element). f x ∷ t) (map_same f n x)

pub below_fills : (z : ℤ) (level : Level) → AreBytes level.fill →
    (offset_codec z).decode_list level (replicate (count_of ((offset_codec z).level_below level).shape)
    ((offset_codec z).level_below level).fill) ≡ Some (replicate (count_of level.shape) level.fill)
below_fills z level proper = ap Some (map_same (element_less z) (count_of level.shape)
    (element_less (opposite z) level.fill) ∙ ap (replicate (count_of level.shape)) (element_back z level.fill proper))

-- a selection of elements, each less an offset
map-select : (f : Element → Element) (shape : List ℕ) (list : List Element) (places : List (List ℕ)) → f null ≡ null →
    map f (map (λ tuple. get_or list (place (whole shape) tuple) null) places) ≡
    map (λ tuple. get_or (map f list) (place (whole shape) tuple) null) places
map-select f shape list [] same = refl
map-select f shape list (tuple ∷ places) same = ap₂ (λ (x : Element) (t : List Element). x ∷ t)
    (sym (get_or-map f list (place (whole shape) tuple) null)
    ∙ ap (get_or (map f list) (place (whole shape) tuple)) same) (map-select f shape list places same)

pub select-less : (z : ℤ) (shape : List ℕ) (region : Region) (list : List Element) →
    map (element_less z) (select shape region list) ≡ select shape region (map (element_less z) list)
select-less z shape region list = map-select (element_less z) shape list (tuples region) refl
