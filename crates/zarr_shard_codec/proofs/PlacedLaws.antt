-- Inner chunks that are put into a chunk one after another.
use Rattle.std.proofs.Common.{◌≡◌, ℕ, zero, suc, ◌+◌, ◌<◌, Bool, true, false, ◌&&◌, List, [], ◌∷◌, length, get_or}
use Rattle.std.proofs.Common.{slice_get, is_some, Option, Some, None, IsSome, refl, sym, ap, ◌∙◌, subst, arith}
use Rattle.std.proofs.lemmas.List.{length-map, get_or-map, same_lists, get_or_default}
use Rattle.std.proofs.lemmas.Bool.{cond-true, cond-false}
use Rattle.std.proofs.lemmas.Option.{same_Some}
use Rattle.std.specs.List.{list_all}
use Rattle.zarr_model.specs.Prelude.{Region, count, whole, contains, tuples, place, tuple_at, Element, null, Array}
use Rattle.zarr_model.specs.Prelude.{elements_in, Grid, IsChunk, CoversShape, chunks, Content, Layout, box_content}
use Rattle.zarr_model.specs.Prelude.{stored_array}
use Rattle.zarr_model.proofs.RegionLaws.{length-tuples, place_below, tuple_at-place, place-tuple_at, contains-tuple_at}
use Rattle.zarr_model.proofs.RegionLaws.{get_or-tuples}
use Rattle.zarr_model.proofs.StoreLaws.{stored-at}
use Rattle.zarrs_codec_traits.specs.Prelude.{Copied, select}
use Rattle.zarr_array_boxes.proofs.ReadLaws.{HasRead, read-start, read-step}
use Rattle.zarr_array_boxes.proofs.DecodeLaws.{each-step}
use Rattle.zarr_shard_codec.specs.Shard.{inner_content, inner_layout, inner_pairs, all_decode, by_index}

-- a list of a box's elements is the array's where it agrees at each tuple
list_of_box : {E : Type 0} (box : Region) (elements : List E) (array : Array E) (filler : E) →
    length elements ≡ count box →
    ((tuple : List ℕ) → contains box tuple ≡ true → array.element tuple ≡ get_or elements (place box tuple) filler) →
    elements ≡ elements_in box array
list_of_box box elements array filler full agrees =
    let long : length elements ≡ length (elements_in box array) =
    full ∙ (sym (length-tuples box) ∙ sym (length-map (tuples box) array.element)) in
    same_lists elements (elements_in box array) long (λ k d h.
    let below : k < count box = subst (λ n. k < n) full h in
    sym (get_or-map array.element (tuples box) k [] d (subst (λ n. k < n) (sym (length-tuples box)) below)
    ∙ (ap array.element (get_or-tuples box k [] below)
    ∙ (agrees (tuple_at box k) (contains-tuple_at box k below)
    ∙ (ap (λ n. get_or elements n filler) (place-tuple_at box k below)
    ∙ get_or_default elements k filler d h)))))

-- the chunk of a number stands there in the list of all
pub chunk_there : (grid : Grid) (number : ℕ) → number < count (whole grid.grid_shape) →
    slice_get (chunks grid) number ≡ Some (tuple_at (whole grid.grid_shape) number)
chunk_there grid number below = there (chunks grid) number (tuple_at (whole grid.grid_shape) number) (subst (λ n. number
    < n) (sym (length-tuples (whole grid.grid_shape))) below) (get_or-tuples (whole grid.grid_shape) number [] below)
  where
    there : (xs : List (List ℕ)) (n : ℕ) (x : List ℕ) → n < length xs → get_or xs n [] ≡ x → slice_get xs n ≡ Some x
    there [] n x within is = absurd (omega arith)
    there (y ∷ ys) zero x within is = ap Some is
    there (y ∷ ys) (suc n) x within is = there ys n x (omega arith) is

all_from : {X : Type 0} (test : X → Bool) (xs : List X) →
    ((n : ℕ) (x : X) → n < length xs → slice_get xs n ≡ Some x → test x ≡ true) → list_all test xs ≡ true
all_from test [] each = refl
all_from test (x ∷ xs) each = ap (λ b. b && list_all test xs) (each 0 x (omega arith) refl)
    ∙ all_from test xs (λ n y below is. each (suc n) y (omega arith) is)

none_from : {X : Type 0} (test : X → Bool) (xs : List X) (n : ℕ) (x : X) → slice_get xs n ≡ Some x → test x ≡ false →
    list_all test xs ≡ false
none_from test [] n x is fails = cc
none_from test (y ∷ ys) zero x is fails = let same : y ≡ x = cc in
    ap (λ b. b && list_all test ys) (ap test same ∙ fails)
none_from test (y ∷ ys) (suc n) x is fails = ap (λ b. test y && b) (none_from test ys n x is fails) ∙ never (test y)
  where
    never : (b : Bool) → (b && false) ≡ false
    never true = refl
    never false = refl

there_is : {A : Type 0} (x : Option A) → IsSome x → is_some x ≡ true
there_is (Some v) h = refl
there_is None h = cc

module _ (array : Layout Element) (covers : CoversShape array.shape array.grid) (value index : List ℕ) where
  abbrev own : Grid
  own = array.grid

  abbrev all : List (List ℕ)
  all = chunks own

  abbrev place_in : Layout Element
  place_in = inner_layout array value

  abbrev pairs : Content
  pairs = inner_pairs own index

  abbrev held : Array Element
  held = stored_array place_in pairs

  -- what makes an inner chunk one that decodes, of its pair
  abbrev decodes_by : List ℕ → Option (List ℕ) → Type 0
  decodes_by chunk pair = IsSome (box_content place_in (own.chunk_box chunk) pair)

  -- the first k inner chunks decode, and a list has their elements
  pub record HasPlaced (k : ℕ) (list : List Element) : Type 0 where
    pub decode : (place : ℕ) (chunk : List ℕ) → place < k → slice_get all place ≡ Some chunk →
        IsSome (inner_content array value index chunk)
    pub read : HasRead own (whole array.shape) all k held list

  pub none_placed : (list : List Element) → length list ≡ count (whole array.shape) → HasPlaced 0 list
  none_placed list long = record {
    decode = λ place chunk below e. absurd (omega (arith, below));
    read = read-start own (whole array.shape) all held list long;
  }

  -- what an inner chunk has are the elements of the array that all hold
  pub content_is : (chunk : List ℕ) (elements : List Element) → IsChunk own chunk →
      length elements ≡ count (own.chunk_box chunk) →
      inner_content array value index chunk ≡ Some elements → elements ≡ elements_in (own.chunk_box chunk) held
  content_is chunk elements is_chunk long content = list_of_box (own.chunk_box chunk) elements held array.fill long
      (λ tuple inside. stored-at place_in covers pairs chunk tuple elements is_chunk inside content)

  pub one_placed : (k : ℕ) (elements old new : List Element) → k < count (whole own.grid_shape) →
      length elements ≡ count (own.chunk_box (tuple_at (whole own.grid_shape) k)) →
      inner_content array value index (tuple_at (whole own.grid_shape) k) ≡ Some elements →
      Copied (whole array.shape) (own.chunk_box (tuple_at (whole own.grid_shape) k)) elements old new →
      HasPlaced k old → HasPlaced (k + 1) new
  one_placed k elements old new below long content copied so_far =
      let chunk = tuple_at (whole own.grid_shape) k in
      let is_chunk : IsChunk own chunk = contains-tuple_at (whole own.grid_shape) k below in
      let same : elements ≡ elements_in (own.chunk_box chunk) held = content_is chunk elements is_chunk long content in
      record {
        decode = each-step decodes_by (λ c. c) all pairs pairs k chunk (chunk_there own k below) (λ key. refl)
            so_far.decode (subst IsSome (sym content) refl);
        read = read-step own (whole array.shape) all held k chunk old new (chunk_there own k below) so_far.read
            (subst (λ xs. Copied (whole array.shape) (own.chunk_box chunk) xs old new) same copied);
      }

  -- once all are there it is what the shard decodes to
  pub all_placed : (k : ℕ) (list : List Element) → k ≡ count (whole own.grid_shape) → HasPlaced k list →
      by_index array value index ≡ Some list
  all_placed k list whole_count placed =
      let every : all_decode array value index ≡ true =
      all_from (λ chunk. is_some (inner_content array value index chunk)) all (λ n chunk below is.
      there_is (inner_content array value index chunk)
      (placed.decode n chunk (subst (λ m. n < m) (length-tuples (whole own.grid_shape) ∙ sym whole_count) below) is)) in
      let same : list ≡ elements_in (whole array.shape) held =
      same_lists list (elements_in (whole array.shape) held) (placed.read.as_long
      ∙ sym (length-map (tuples (whole array.shape)) held.element ∙ length-tuples (whole array.shape))) (λ j d h.
      let near : j < count (whole array.shape) = subst (λ n. j < n) placed.read.as_long h in
      found j d near
      (covers.all_covered (tuple_at (whole array.shape) j) (contains-tuple_at (whole array.shape) j near))
      ∙ sym (get_or-map held.element (tuples (whole array.shape)) j [] d (subst (λ n. j < n) (sym
      (length-tuples (whole array.shape))) near) ∙ ap held.element (get_or-tuples (whole array.shape) j [] near))) in
      cond-true _ _ _ every ∙ ap Some (sym same)
    where
      found : (j : ℕ) (d : Element) → j < count (whole array.shape) → ((chunk : List ℕ) × IsChunk own chunk ×
          (contains (own.chunk_box chunk) (tuple_at (whole array.shape) j) ≡ true)) →
          get_or list j d ≡ held.element (tuple_at (whole array.shape) j)
      found j d near (chunk, is_chunk, holds) =
          let number = place (whole own.grid_shape) chunk in
          let below : number < count (whole own.grid_shape) = place_below (whole own.grid_shape) chunk is_chunk in
          let listed : slice_get all number ≡ Some chunk =
          chunk_there own number below ∙ ap Some (tuple_at-place (whole own.grid_shape) chunk is_chunk) in
          placed.read.each j number chunk d near (subst (λ m. number < m) (sym whole_count) below) listed holds

  -- where one does not decode, the shard does not
  pub one_fails : (k : ℕ) → k < count (whole own.grid_shape) →
      inner_content array value index (tuple_at (whole own.grid_shape) k) ≡ None → by_index array value index ≡ None
  one_fails k below fails = cond-false _ _ _ (none_from (λ chunk. is_some (inner_content array value index chunk)) all k
      (tuple_at (whole own.grid_shape) k) (chunk_there own k below) (ap is_some fails))

  -- a list is what the shard decodes to where each inner chunk has its part of it
  pub all_selected : (list : List Element) → length list ≡ count (whole array.shape) →
      ((k : ℕ) → k < count (whole own.grid_shape) → inner_content array value index (tuple_at (whole own.grid_shape)
      k) ≡ Some (select array.shape (own.chunk_box (tuple_at (whole own.grid_shape) k)) list)) →
      by_index array value index ≡ Some list
  all_selected list long each = all_placed (count (whole own.grid_shape)) list refl (record {
    decode = λ n chunk below is. subst IsSome (sym (at n chunk below is)) refl;
    read = record {
      as_long = long;
      each = λ j n chunk d near below is holds. sym (there j n chunk d near below is holds);
    };
  })
    where
      at : (n : ℕ) (chunk : List ℕ) → n < count (whole own.grid_shape) → slice_get all n ≡ Some chunk →
          inner_content array value index chunk ≡ Some (select array.shape (own.chunk_box chunk) list)
      at n chunk below is =
          let same : tuple_at (whole own.grid_shape) n ≡ chunk =
          same_Some (tuple_at (whole own.grid_shape) n) chunk (sym (chunk_there own n below) ∙ is) in
          subst (λ c. inner_content array value index c ≡ Some (select array.shape (own.chunk_box c) list)) same
          (each n below)

      is_one : (n : ℕ) (chunk : List ℕ) → n < count (whole own.grid_shape) → slice_get all n ≡ Some chunk →
          IsChunk own chunk
      is_one n chunk below is =
          let same : tuple_at (whole own.grid_shape) n ≡ chunk =
          same_Some (tuple_at (whole own.grid_shape) n) chunk (sym (chunk_there own n below) ∙ is) in
          subst (IsChunk own) same (contains-tuple_at (whole own.grid_shape) n below)

      there : (j n : ℕ) (chunk : List ℕ) (d : Element) → j < count (whole array.shape) →
          n < count (whole own.grid_shape) → slice_get all n ≡ Some chunk →
          contains (own.chunk_box chunk) (tuple_at (whole array.shape) j) ≡ true →
          held.element (tuple_at (whole array.shape) j) ≡ get_or list j d
      there j n chunk d near below is holds =
          let box = own.chunk_box chunk in
          let tuple = tuple_at (whole array.shape) j in
          let within : place box tuple < count box = place_below box tuple holds in
          stored-at place_in covers pairs chunk tuple (select array.shape box list) (is_one n chunk below is) holds
          (at n chunk below is)
          ∙ (get_or-map (λ t. get_or list (place (whole array.shape) t) null) (tuples box) (place box tuple)
          [] array.fill (subst (λ m. place box tuple < m) (sym (length-tuples box)) within)
          ∙ (ap (λ t. get_or list (place (whole array.shape) t) null)
          (get_or-tuples box (place box tuple) [] within ∙ tuple_at-place box tuple holds)
          ∙ (ap (λ m. get_or list m null) (place-tuple_at (whole array.shape) j near)
          ∙ get_or_default list j null d (subst (λ m. j < m) (sym long) near))))
