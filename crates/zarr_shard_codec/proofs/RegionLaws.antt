-- A region's elements by the inner chunks that it meets.
use Rattle.std.proofs.Common.{◌≡◌, ℕ, suc, ◌+◌, ◌-◌, ◌^◌, ◌<◌, ◌≤◌, not, Bool, true, false, if◌then◌else◌, cond, List}
use Rattle.std.proofs.Common.{[], ◌∷◌, length, take, map, filter, get_or, slice_get, is_some, Option, Some, None}
use Rattle.std.proofs.Common.{option_and_then, refl, sym, ap, ◌∙◌, subst, subst₂, arith}
use Rattle.std.specs.List.{list_all, sum_by}
use Rattle.std.proofs.lemmas.Bool.{cond-true, cond-false, and_parts, and_from}
use Rattle.std.proofs.lemmas.List.{take_all}
use Rattle.std.proofs.lemmas.List.Sums.{sum_by-cons, sum_by_more}
use Rattle.std.proofs.lemmas.List.Folds.{list_all_more, list_all_at}
use Rattle.std.proofs.lemmas.Option.{slice_get_within, get_or_from_slice_get}
use Rattle.zarrs_codec_traits.specs.Prelude.{Region, count, whole, contains, tuple_at, ends_within, Element, Array}
use Rattle.zarrs_codec_traits.specs.Prelude.{elements_in, Grid, IsChunk, chunks, chunks_meeting, Layout, Options, Shown}
use Rattle.zarrs_codec_traits.specs.Prelude.{stored_array, share_tuple, Copied, select}
use Rattle.zarr_model.proofs.RegionLaws.{length-tuples, get_or-tuples, contains-tuple_at}
use Rattle.zarr_model.proofs.ArrayLaws.{inside_shape}
use Rattle.zarr_model.proofs.SessionLaws.{share_tuple-from}
use Rattle.zarr_model.proofs.FailureLaws.{meeting_is}
use Rattle.zarrs_codec_error.specs.declared.error.CodecError.{CodecError}
use Rattle.zarr_array_boxes.specs.BoxElements.{list_held}
use Rattle.zarr_array_boxes.specs.declared.box_elements.BoxElements.{BoxElements}
use Rattle.zarr_array_boxes.proofs.HeldLaws.{length-list_held}
use Rattle.zarr_array_boxes.proofs.ReadLaws.{HasRead, read-start, read-step, read-end}
use Rattle.zarr_shard_codec.specs.Index.{Pair, is_absent, pair_at}
use Rattle.zarr_shard_codec.specs.MetInner.{pair_calls, pair_size, HasPutInner}
use Rattle.zarr_shard_codec.specs.Placing.{inner_number}
use Rattle.zarr_shard_codec.specs.ReadRegion.{HasCost, NotRead, SaysMet, says_at}
use Rattle.zarr_shard_codec.specs.Region.{met_decode, region_by_index, region_list, met_pairs, SelectsRegion}
use Rattle.zarr_shard_codec.specs.Region.{WholeIsAll}
use Rattle.zarr_shard_codec.specs.Shard.{inner_layout, inner_pairs, inner_content, all_decode, by_index, index_of}
use Rattle.zarr_shard_codec.specs.Shard.{shard_list}
use Rattle.zarr_shard_codec.specs.ShardCodec.{inner_of, inner_grid, own_array}
use Rattle.zarr_shard_codec.specs.Whole.{HoldsOver}
use Rattle.zarr_shard_codec.specs.declared.shard_codec.ShardCodec.{ShardCodec}
use Rattle.zarr_shard_codec.proofs.CodecFacts.{covers, chunk_cut}
use Rattle.zarr_shard_codec.proofs.FetchLaws.{no_cost, both_cost, unread_after}
use Rattle.zarr_shard_codec.proofs.PlacedLaws.{content_is}
use Rattle.zarr_shard_codec.proofs.ShardLaws.{selects_inner}

-- what is so of each of a list is so of each that passes a filter
all_filtered : {X : Type 0} (test passes : X → Bool) (xs : List X) → list_all test xs ≡ true →
    list_all test (filter passes xs) ≡ true
all_filtered test passes [] all = refl
all_filtered test passes (x ∷ xs) all =
    let parts = and_parts (test x) (list_all test xs) all in
    go (passes x) parts.0 (all_filtered test passes xs parts.1)
  where
    go : (b : Bool) → test x ≡ true → list_all test (filter passes xs) ≡ true →
        list_all test (cond b (x ∷ filter passes xs) (filter passes xs)) ≡ true
    go true first rest = and_from (test x) _ first rest
    go false first rest = rest

-- a filter that each passes leaves all
filter-all : {X : Type 0} (passes : X → Bool) (xs : List X) →
    ((k : ℕ) (x : X) → slice_get xs k ≡ Some x → passes x ≡ true) → filter passes xs ≡ xs
filter-all passes [] each = refl
filter-all passes (x ∷ xs) each =
    cond-true (passes x) _ _ (each 0 x refl) ∙ ap (λ l. x ∷ l) (filter-all passes xs (λ k y is. each (suc k) y is))

module _ (checked validate : Bool) (array : Layout Element) (value : List ℕ) (region : Region) where
  abbrev held : List ℕ → Array Element
  held index = stored_array (inner_layout array value) (inner_pairs array.grid index)

  by_all : (index : List ℕ) (list : List Element) (all : Bool) → all_decode array value index ≡ all →
      by_index array value index ≡ Some list → met_decode array value region index ≡ true
  by_all index list true is e = all_filtered (λ chunk. is_some (inner_content array value index chunk))
      (λ chunk. share_tuple (array.grid.chunk_box chunk) region) (chunks array.grid) is
  by_all index list false is e = let none : by_index array value index ≡ None = cond-false _ _ _ is in cc

  by_found : (index : Option (List ℕ)) (list : List Element) → index_of checked validate array value ≡ index →
      shard_list checked validate array value ≡ Some list → ends_within region array.shape ≡ true →
      region_list checked validate array region value ≡ Some (select array.shape region list)
  by_found None list at e inside = let nothing : shard_list checked validate array value ≡ None =
      ap (option_and_then (by_index array value)) at in cc
  by_found (Some index) list at e inside =
      let all : by_index array value index ≡ Some list = sym (ap (option_and_then (by_index array value)) at) ∙ e in
      ap (option_and_then (region_by_index array value region)) at
      ∙ (cond-true _ _ _ (by_all index list (all_decode array value index) refl all)
      ∙ ap Some (sym (selects_inner checked validate array value index list region at e inside)))

pub selects_region : SelectsRegion
selects_region checked validate array value list region e inside =
    by_found checked validate array value region (index_of checked validate array value) list refl e inside

-- a chunk that is listed is one
is_listed : (grid : Grid) (k : ℕ) (chunk : List ℕ) → slice_get (chunks grid) k ≡ Some chunk → IsChunk grid chunk
is_listed grid k chunk is =
    let all : Region = whole grid.grid_shape in
    let below : k < count all = subst (λ n. k < n) (length-tuples all) (slice_get_within (chunks grid) k chunk is) in
    subst (λ c. contains all c ≡ true) (sym (get_or-tuples all k chunk below)
    ∙ get_or_from_slice_get (chunks grid) k chunk chunk is) (contains-tuple_at all k below)

-- the whole chunk meets each inner chunk
all_met : (codec : ShardCodec) →
    chunks_meeting (inner_grid codec) (whole (inner_of codec).shape) ≡ chunks (inner_grid codec)
all_met codec = filter-all (λ chunk. share_tuple ((inner_grid codec).chunk_box chunk) (whole (inner_of codec).shape))
    (chunks (inner_grid codec)) (λ k chunk is.
    let is_chunk : IsChunk (inner_grid codec) chunk = is_listed (inner_grid codec) k chunk is in
    let box = (inner_grid codec).chunk_box chunk in
    let some : 0 < count box = (covers codec).positive chunk is_chunk in
    let first : contains box (tuple_at box 0) ≡ true = contains-tuple_at box 0 some in
    share_tuple-from box (whole (inner_of codec).shape) (tuple_at box 0) first
    (inside_shape box (inner_of codec).shape (tuple_at box 0) (chunk_cut codec chunk is_chunk).1 first))

pub whole_is_all : WholeIsAll
whole_is_all codec under value =
    go (index_of codec.shard.checked under.validate_checksums (own_array codec under) value)
  where
    same : (index : List ℕ) → region_by_index (own_array codec under) value (whole (inner_of codec).shape) index ≡
        by_index (own_array codec under) value index
    same index = ap (λ l. if list_all (λ chunk. is_some (inner_content (own_array codec under) value index chunk)) l
        then Some (elements_in (whole (inner_of codec).shape) (stored_array (inner_layout (own_array codec under) value)
        (inner_pairs (inner_grid codec) index))) else None) (all_met codec)

    go : (index : Option (List ℕ)) → option_and_then (region_by_index (own_array codec under) value
        (whole (inner_of codec).shape)) index ≡ option_and_then (by_index (own_array codec under) value) index
    go None = refl
    go (Some index) = same index

-- a sum over a list that was made of another
sum_by-mapped : {X Y : Type 0} (f : X → Y) (g : Y → ℕ) (xs : List X) → sum_by g (map f xs) ≡ sum_by (λ x. g (f x)) xs
sum_by-mapped f g [] = refl
sum_by-mapped f g (x ∷ xs) = sum_by-cons g (f x) (map f xs)
    ∙ (ap (λ n. g (f x) + n) (sum_by-mapped f g xs) ∙ sym (sum_by-cons (λ y. g (f y)) x xs))

-- the pairs that are there, and how much they take
present_calls : (pairs : List Pair) → sum_by pair_calls pairs ≡ length (filter (λ pair. not (is_absent pair)) pairs)
present_calls [] = refl
present_calls (pair ∷ pairs) = sum_by-cons pair_calls pair pairs ∙ go (is_absent pair) (present_calls pairs)
  where
    go : (absent : Bool) → sum_by pair_calls pairs ≡ length (filter (λ p. not (is_absent p)) pairs) →
        (if absent then 0 else 1) + sum_by pair_calls pairs ≡ length (cond (not absent)
        (pair ∷ filter (λ p. not (is_absent p)) pairs) (filter (λ p. not (is_absent p)) pairs))
    go true rest = omega (arith, rest)
    go false rest = omega (arith, rest)

present_size : (pairs : List Pair) →
    sum_by pair_size pairs ≡ sum_by (λ pair. pair.size) (filter (λ pair. not (is_absent pair)) pairs)
present_size [] = refl
present_size (pair ∷ pairs) = sum_by-cons pair_size pair pairs ∙ go (is_absent pair) (present_size pairs)
  where
    go : (absent : Bool) → sum_by pair_size pairs ≡ sum_by (λ p. p.size) (filter (λ p. not (is_absent p)) pairs) →
        (if absent then 0 else pair.size) + sum_by pair_size pairs ≡ sum_by (λ p. p.size)
        (cond (not absent) (pair ∷ filter (λ p. not (is_absent p)) pairs) (filter (λ p. not (is_absent p)) pairs))
    go true rest = omega (arith, rest)
    go false rest =
        ap (λ n. pair.size + n) rest ∙ sym (sum_by-cons (λ p. p.size) pair (filter (λ p. not (is_absent p)) pairs))

module _ (codec : ShardCodec) (under : Options) (value index : List ℕ) (region : Region) where
  abbrev met : List (List ℕ)
  met = chunks_meeting (inner_grid codec) region

  abbrev own_held : Array Element
  own_held = stored_array (inner_layout (own_array codec under) value) (inner_pairs (inner_grid codec) index)

  abbrev decodes : List ℕ → Bool
  decodes chunk = is_some (inner_content (own_array codec under) value index chunk)

  abbrev calls_at : List ℕ → ℕ
  calls_at chunk = pair_calls (pair_at index (inner_number codec chunk))

  abbrev size_at : List ℕ → ℕ
  size_at chunk = pair_size (pair_at index (inner_number codec chunk))

  -- the first k inner chunks were read into the region's elements
  pub record HasReadSome (k : ℕ) (list : List Element) (before now : Shown) : Type 0 where
    pub cost : HasCost (sum_by calls_at (take k met)) (sum_by size_at (take k met)) before now
    pub decode : list_all decodes (take k met) ≡ true
    pub read : HasRead (inner_grid codec) region met k own_held list

  pub none_read : (elements : BoxElements) (store : Shown) → HoldsOver codec region elements → store.asks ≤ 2 ^ 64 - 1 →
      store.taken ≤ 2 ^ 64 - 1 → HasReadSome 0 (list_held elements) store store
  none_read elements store holds fits room = record {
    cost = no_cost store fits room;
    decode = refl;
    read = read-start (inner_grid codec) region met own_held (list_held elements)
        (length-list_held elements ∙ ap count holds.over);
  }

  pub one_read : (k : ℕ) (chunk seen : List ℕ) (old new : BoxElements) (before mid now : Shown) →
      slice_get met k ≡ Some chunk → seen ≡ value → HasReadSome k (list_held old) before mid →
      HasPutInner codec under seen index region chunk old new mid now → HasReadSome (k + 1) (list_held new) before now
  one_read k chunk seen old new before mid now here same so_far step =
      let own : HasPutInner codec under value index region chunk old new mid now =
      subst (λ v. HasPutInner codec under v index region chunk old new mid now) same step in
      let within : k < length met = slice_get_within met k chunk here in
      let at : get_or met k chunk ≡ chunk = get_or_from_slice_get met k chunk chunk here in
      let is_chunk : IsChunk (inner_grid codec) chunk = (meeting_is (inner_grid codec) region k chunk here).0 in
      let elements = content_is (own_array codec under) (covers codec) value index chunk own.put.list is_chunk
      own.put.as_long own.put.content in
      let calls : sum_by calls_at (take (k + 1) met) ≡ sum_by calls_at (take k met) + calls_at chunk =
      sum_by_more calls_at met k chunk within ∙ ap (λ c. sum_by calls_at (take k met) + calls_at c) at in
      let sizes : sum_by size_at (take (k + 1) met) ≡ sum_by size_at (take k met) + size_at chunk =
      sum_by_more size_at met k chunk within ∙ ap (λ c. sum_by size_at (take k met) + size_at c) at in
      record {
        cost = subst₂ (λ n m. HasCost n m before now) (sym calls) (sym sizes) (both_cost (sum_by calls_at (take k met))
            (sum_by size_at (take k met)) (calls_at chunk) (size_at chunk) before mid now so_far.cost own.cost);
        decode = list_all_more decodes met k chunk within
            ∙ and_from _ _ so_far.decode (ap decodes at ∙ ap is_some own.put.content);
        read = read-step (inner_grid codec) region met own_held k chunk (list_held old) (list_held new) here so_far.read
            (subst (λ xs. Copied region ((inner_grid codec).chunk_box chunk) xs (list_held old) (list_held new))
            elements own.put.copied);
      }

  -- all were
  pub all_read : (k : ℕ) (list : List Element) (before now : Shown) → k ≡ length met →
      ends_within region (inner_of codec).shape ≡ true → HasReadSome k list before now →
      (region_by_index (own_array codec under) value region index ≡ Some list) × HasCost
      (length (met_pairs codec region index)) (sum_by (λ pair. pair.size) (met_pairs codec region index)) before now
  all_read k list before now all inside done =
      let every : take k met ≡ met = take_all k met (omega (arith, all)) in
      let pairs = map (λ chunk. pair_at index (inner_number codec chunk)) met in
      let calls : sum_by calls_at (take k met) ≡ length (met_pairs codec region index) = ap (sum_by calls_at) every ∙
      (sym (sum_by-mapped (λ chunk. pair_at index (inner_number codec chunk)) pair_calls met) ∙ present_calls pairs) in
      let sizes : sum_by size_at (take k met) ≡ sum_by (λ pair. pair.size) (met_pairs codec region index) =
      ap (sum_by size_at) every
      ∙ (sym (sum_by-mapped (λ chunk. pair_at index (inner_number codec chunk)) pair_size met) ∙ present_size pairs) in
      let decode : list_all decodes met ≡ true = ap (list_all decodes) (sym every) ∙ done.decode in
      let whole_read : HasRead (inner_grid codec) region met (length met) own_held list =
      subst (λ n. HasRead (inner_grid codec) region met n own_held list) all done.read in
      let same : list ≡ elements_in region own_held = read-end (inner_of codec).shape (inner_grid codec) region met
      own_held list (covers codec) inside refl whole_read in
      (cond-true _ _ _ decode ∙ ap Some (sym same), subst₂ (λ n m. HasCost n m before now) calls sizes done.cost)

  -- one was not
  pub stops_reading : (k : ℕ) (chunk seen : List ℕ) (list : List Element) (before mid now : Shown) (e : CodecError) →
      slice_get met k ≡ Some chunk → seen ≡ value → HasReadSome k list before mid →
      NotRead (inner_content (own_array codec under) seen index chunk) (says_at codec under seen index chunk) mid now
      e →
      NotRead (region_by_index (own_array codec under) value region index) (SaysMet codec under region value index)
      before now e
  stops_reading k chunk seen list before mid now e here same so_far failed =
      unread_after (region_by_index (own_array codec under) value region index) (inner_content (own_array codec under)
      value index chunk) (SaysMet codec under region value index) (says_at codec under value index chunk)
      (sum_by calls_at (take k met)) (sum_by size_at (take k met)) before mid now e so_far.cost
      (λ none told. (
        cond-false _ _ _ (list_all_at decodes met k chunk (slice_get_within met k chunk here)
            (ap decodes (get_or_from_slice_get met k chunk chunk here) ∙ ap is_some none)),
        record { chunk = chunk; place = k; met = here; first = so_far.decode; fails = none; said = told },
      ))
      (subst (λ v. NotRead (inner_content (own_array codec under) v index chunk) (says_at codec under v index chunk) mid
      now e) same failed)
