-- A list of a part of a shape is that part of some list of the shape.
use Rattle.std.proofs.Common.{◌≡◌, ℕ, ◌<◌, true, List, [], ◌∷◌, length, map, get_or, refl, sym, ap, ap₂, ◌∙◌, subst}
use Rattle.std.proofs.lemmas.List.Elements.{recursion_from_All}
use Rattle.std.proofs.lemmas.List.{length-map, get_or-map}
use Rattle.std.specs.List.{AllByRecursion}
use Rattle.zarr_model.specs.Prelude.{Region, count, count_of, whole, contains, ends_within, tuples, place, tuple_at}
use Rattle.zarr_model.specs.Prelude.{Element, null, Array, blank_array, elements_in, written}
use Rattle.zarr_model.proofs.ArrayLaws.{elements_in-written, inside_shape}
use Rattle.zarr_model.proofs.RegionLaws.{length-tuples, get_or-tuples, contains-tuple_at, place_below, tuple_at-place}
use Rattle.zarr_model.proofs.RegionLaws.{count_whole}

module _ (shape : List ℕ) (region : Region) (part : List Element) (inside : ends_within region shape ≡ true)
    (long : length part ≡ count region) where
  with_part : Array Element
  with_part = written region part (blank_array shape null)

  pub list_with : List Element
  list_with = elements_in (whole shape) with_part

  pub list_long : length list_with ≡ count_of shape
  unfolding list_with
  list_long = length-map (tuples (whole shape)) with_part.element ∙ (length-tuples (whole shape) ∙ count_whole shape)

  at_tuple : (tuple : List ℕ) → contains (whole shape) tuple ≡ true →
      get_or list_with (place (whole shape) tuple) null ≡ with_part.element tuple
  unfolding list_with
  at_tuple tuple lies =
      let below : place (whole shape) tuple < count (whole shape) = place_below (whole shape) tuple lies in
      get_or-map with_part.element (tuples (whole shape)) (place (whole shape) tuple) [] null
      (subst (λ (n : ℕ). place (whole shape) tuple < n) (sym (length-tuples (whole shape))) below)
      ∙ ap with_part.element (get_or-tuples (whole shape) (place (whole shape) tuple) [] below
      ∙ tuple_at-place (whole shape) tuple lies)

  same_map : (f g : List ℕ → Element) (list : List (List ℕ)) → AllByRecursion (λ tuple. f tuple ≡ g tuple) list →
      map f list ≡ map g list
  same_map f g [] all = refl
  same_map f g (tuple ∷ list) all = ap₂ (λ (x : Element) (rest : List Element). x ∷ rest) all.0
      (same_map f g list all.1)

  pub part_of_list : map (λ tuple. get_or list_with (place (whole shape) tuple) null) (tuples region) ≡ part
  unfolding with_part
  part_of_list =
      same_map (λ tuple. get_or list_with (place (whole shape) tuple) null) with_part.element (tuples region)
      (recursion_from_All (λ tuple. get_or list_with (place (whole shape) tuple) null ≡ with_part.element tuple)
      (tuples region) (λ k d h.
      let below : k < count region = subst (λ (n : ℕ). k < n) (length-tuples region) h in
      subst (λ (t : List ℕ). get_or list_with (place (whole shape) t) null ≡ with_part.element t)
      (sym (get_or-tuples region k d below))
      (at_tuple (tuple_at region k)
      (inside_shape region shape (tuple_at region k) inside (contains-tuple_at region k below)))))
      ∙ elements_in-written region part (blank_array shape null) long
