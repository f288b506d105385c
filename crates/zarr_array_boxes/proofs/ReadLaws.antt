-- A region is read chunk by chunk.
use Rattle.std.proofs.Common.{[], ◌≡◌, ℕ, zero, suc, ◌+◌, ◌<◌, true, false, List, ◌∷◌, length, get_or, slice_get, Some}
use Rattle.std.proofs.Common.{sym, ap, ◌∙◌, subst, arith, ⊎_elim}
use Rattle.std.proofs.lemmas.Bool.{cases_Bool, cases_eq, cond-true, cond-false, true≢false}
use Rattle.std.proofs.lemmas.List.{length-map, get_or-map, same_lists}
use Rattle.zarr_model.specs.Prelude.{Region, count, contains, tuples, place, tuple_at, ends_within, Array, elements_in}
use Rattle.zarr_model.specs.Prelude.{Grid, IsChunk, chunks_meeting, CoversShape}
use Rattle.zarr_model.proofs.RegionLaws.{length-tuples, get_or-tuples, contains-tuple_at, place_below, tuple_at-place}
use Rattle.zarr_model.proofs.ArrayLaws.{inside_shape}
use Rattle.zarr_model.proofs.SessionLaws.{share_tuple-from}
use Rattle.zarr_model.proofs.FailureLaws.{meets_at}
use Rattle.zarrs_codec_slices.specs.Overlap.{Copied}

-- the list of a region has the array's elements in the boxes of the first chunks of a list
pub record HasRead {E : Type 0} (grid : Grid) (region : Region) (chunks : List (List ℕ)) (done : ℕ) (array : Array E)
    (list : List E) : Type 0 where
  pub as_long : length list ≡ count region
  pub each : (k number : ℕ) (chunk : List ℕ) (d : E) → k < count region → number < done →
      slice_get chunks number ≡ Some chunk →
      contains (grid.chunk_box chunk) (tuple_at region k) ≡ true → get_or list k d ≡ array.element (tuple_at region k)

-- an element of a box's list is the array's at its tuple
pub element_at : {E : Type 0} (box : Region) (array : Array E) (tuple : List ℕ) (d : E) → contains box tuple ≡ true →
    get_or (elements_in box array) (place box tuple) d ≡ array.element tuple
element_at box array tuple d inside =
    let below : place box tuple < count box = place_below box tuple inside in
    get_or-map array.element (tuples box) (place box tuple) [] d
    (subst (λ n. place box tuple < n) (sym (length-tuples box)) below)
    ∙ ap array.element (get_or-tuples box (place box tuple) [] below ∙ tuple_at-place box tuple inside)

module _ {E : Type 0} (grid : Grid) (region : Region) (chunks : List (List ℕ)) (array : Array E) where
  pub read-start : (list : List E) → length list ≡ count region → HasRead grid region chunks 0 array list
  read-start list long = record { as_long = long; each = λ k number chunk d h before. absurd (omega arith) }

  pub read-step : (done : ℕ) (chunk : List ℕ) (old new : List E) → slice_get chunks done ≡ Some chunk →
      HasRead grid region chunks done array old →
      Copied region (grid.chunk_box chunk) (elements_in (grid.chunk_box chunk) array) old new →
      HasRead grid region chunks (done + 1) array new
  read-step done chunk old new here so_far copied = record {
    as_long = copied.as_long ∙ so_far.as_long;
    each = λ k number other d h before listed inside. copied.each k d h ∙ ⊎_elim
        (λ (both : contains (grid.chunk_box chunk) (tuple_at region k) ≡ true).
        cond-true (contains (grid.chunk_box chunk) (tuple_at region k)) _ _ both
        ∙ element_at (grid.chunk_box chunk) array (tuple_at region k) d both)
        (λ (apart : contains (grid.chunk_box chunk) (tuple_at region k) ≡ false).
        cond-false (contains (grid.chunk_box chunk) (tuple_at region k)) _ _ apart ∙ ⊎_elim
        (λ (same : number ≡ done).
        let one : Some other ≡ Some chunk = sym listed ∙ (ap (slice_get chunks) same ∙ here) in
        let is : other ≡ chunk = cc in
        absurd (true≢false (sym inside ∙ (ap (λ c. contains (grid.chunk_box c) (tuple_at region k)) is ∙ apart))))
        (λ (differ : number ≡ done → ⊥). so_far.each k number other d h (omega arith) listed inside)
        (cases_eq number done))
        (cases_Bool (contains (grid.chunk_box chunk) (tuple_at region k)));
  }

-- once all chunks that the region meets are read, it is the region of the array
pub read-end : {E : Type 0} (shape : List ℕ) (grid : Grid) (region : Region) (chunks : List (List ℕ)) (array : Array E)
    (list : List E) → CoversShape shape grid → ends_within region shape ≡ true →
    chunks ≡ chunks_meeting grid region → HasRead grid region chunks (length chunks) array list →
    list ≡ elements_in region array
read-end {E} shape grid region chunks array list covers inside are read =
    same_lists list (elements_in region array)
    (read.as_long ∙ sym (length-map (tuples region) array.element ∙ length-tuples region)) (λ k d h.
    let below : k < count region = subst (λ n. k < n) read.as_long h in
    found k d below (covers.all_covered (tuple_at region k)
    (inside_shape region shape (tuple_at region k) inside (contains-tuple_at region k below)))
    ∙ sym (get_or-map array.element (tuples region) k [] d (subst (λ n. k < n) (sym (length-tuples region)) below)
    ∙ ap array.element (get_or-tuples region k [] below)))
  where
    found : (k : ℕ) (d : E) → k < count region →
        ((chunk : List ℕ) × IsChunk grid chunk × (contains (grid.chunk_box chunk) (tuple_at region k) ≡ true)) →
        get_or list k d ≡ array.element (tuple_at region k)
    found k d below (chunk, is_chunk, holds) =
        let met : (number : ℕ) × (slice_get (chunks_meeting grid region) number ≡ Some chunk) =
        meets_at grid region chunk is_chunk
        (share_tuple-from (grid.chunk_box chunk) region (tuple_at region k) holds (contains-tuple_at region k below)) in
        let listed : slice_get chunks met.0 ≡ Some chunk = ap (λ c. slice_get c met.0) are ∙ met.1 in
        read.each k met.0 chunk d below (listed_below chunks met.0 chunk listed) listed holds
      where
        listed_below : (xs : List (List ℕ)) (n : ℕ) (x : List ℕ) → slice_get xs n ≡ Some x → n < length xs
        listed_below [] n x e = cc
        listed_below (y ∷ ys) zero x e = omega arith
        listed_below (y ∷ ys) (suc n) x e = let rest : n < length ys = listed_below ys n x e in omega arith
