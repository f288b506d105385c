-- An array is moved band by band.
use Rattle.std.proofs.Common.{◌≡◌, ℕ, zero, suc, ◌+◌, ◌-◌, ◌^◌, ◌<◌, ◌≤◌, true, false, List, [], ◌∷◌, ◌++◌, length, map}
use Rattle.std.proofs.Common.{take, get_or, slice_get, Some, None, IsSome, unwrap_or, refl, sym, ap, ap₂, ◌∙◌, subst}
use Rattle.std.proofs.Common.{arith, le_trans, ⊎_elim, ◌⊎◌, inl, inr, take_all}
use Rattle.std.proofs.Math.Path.{fun_ext}
use Rattle.std.proofs.lemmas.Bool.{cases_Bool, cond-true, cond-false}
use Rattle.std.proofs.lemmas.List.{length-map, get_or-map}
use Rattle.std.proofs.lemmas.List.Sums.{sum_by-cons, sum_by-append}
use Rattle.std.proofs.lemmas.Map.Views.{Contains-from_any}
use Rattle.zarr_array.proofs.RunsLaws.{take_next}
use Rattle.zarr_array.proofs.PaysLaws.{counted_more}
use Rattle.zarr_model.specs.Prelude.{Region, count, contains, tuples, place, Element, Array, kind, kind_of, array_bytes}
use Rattle.zarr_model.specs.Prelude.{meaning, Grid, IsChunk, chunks_meeting, is_among, chunk_content, box_content}
use Rattle.zarr_model.specs.Prelude.{SeesNoDamage, Options, Description, Content, layout, Means, read, write, reply_of}
use Rattle.zarr_model.specs.Prelude.{array_of, written_elements, Matches, answered, Shown, counted, elements_in}
use Rattle.zarr_model.specs.Prelude.{written}
use Rattle.zarr_model.proofs.RegionLaws.{length-tuples, get_or-tuples, place_below, tuple_at-place}
use Rattle.zarr_model.proofs.DamageLaws.{listed_at}
use Rattle.zarr_model.proofs.FailureLaws.{same_bytes, meeting_is}
use Rattle.zarr_rechunk.proofs.MeanLaws.{same_mean}
use Rattle.zarr_rechunk.specs.Bands.{bands}
use Rattle.zarr_rechunk.proofs.BandLaws.{BandsCut}
use Rattle.zarr_rechunk.specs.Moved.{with_regions, chunks_of_each, in_description, DecodesOrStays, DecodedOrStays}
use Rattle.zarr_rechunk.specs.Moved.{MeetsNone, AreMoved}
use Rattle.zarr_rechunk.specs.Band.{AreAlike, HasMovedBand}

-- the region of a number
pub region_here : {A : Type 0} (f : A → Region) (xs : List A) (i : ℕ) (x : A) → i < length xs → x ≡ get_or xs i x →
    slice_get (map f xs) i ≡ Some (f x)
region_here f [] i x within is = absurd (omega arith)
region_here f (y ∷ ys) zero x within is = ap (λ z. Some (f z)) (sym is)
region_here f (y ∷ ys) (suc i) x within is = region_here f ys i x (omega arith) is

-- an array with the elements of another one
with_more : {E : Type 0} (array : Array E) (regions more : List Region) (onto : Array E) →
    with_regions array (regions ++ more) onto ≡ with_regions array more (with_regions array regions onto)
with_more array [] more onto = refl
with_more array (region ∷ regions) more onto =
    with_more array regions more (written region (elements_in region array) onto)

module _ {E : Type 0} (array : Array E) (tuple : List ℕ) where
  written_at : (region : Region) (onto : Array E) → contains region tuple ≡ true →
      (written region (elements_in region array) onto).element tuple ≡ array.element tuple
  written_at region onto inside =
      let low : place region tuple < count region = place_below region tuple inside in
      cond-true (contains region tuple) _ _ inside
      ∙ (get_or-map array.element (tuples region) (place region tuple) [] onto.fill
      (subst (λ n. place region tuple < n) (sym (length-tuples region)) low)
      ∙ ap array.element (get_or-tuples region (place region tuple) [] low ∙ tuple_at-place region tuple inside))

  stays_at : (region : Region) (onto : Array E) → onto.element tuple ≡ array.element tuple →
      (written region (elements_in region array) onto).element tuple ≡ array.element tuple
  stays_at region onto has = ⊎_elim
      (λ (inside : contains region tuple ≡ true). written_at region onto inside)
      (λ (out : contains region tuple ≡ false). cond-false (contains region tuple) _ _ out ∙ has)
      (cases_Bool (contains region tuple))

  kept_at : (regions : List Region) (onto : Array E) → onto.element tuple ≡ array.element tuple →
      (with_regions array regions onto).element tuple ≡ array.element tuple
  kept_at [] onto has = has
  kept_at (region ∷ regions) onto has =
      kept_at regions (written region (elements_in region array) onto) (stays_at region onto has)

  put_at : (regions : List Region) (onto : Array E) (k : ℕ) (region : Region) → slice_get regions k ≡ Some region →
      contains region tuple ≡ true → (with_regions array regions onto).element tuple ≡ array.element tuple
  put_at [] onto k region e inside = cc
  put_at (first ∷ regions) onto zero region e inside =
      let same : first ≡ region = cc in
      kept_at regions (written first (elements_in first array) onto)
      (written_at first onto (subst (λ r. contains r tuple ≡ true) (sym same) inside))
  put_at (first ∷ regions) onto (suc k) region e inside =
      put_at regions (written first (elements_in first array) onto) k region e inside

-- once all bands are moved, the target means the array that the source means
pub all_moved : (source target : Description) (options : Options) (from_before from_now to_before to_now : Shown) →
    BandsCut target.shape target.grid →
    AreMoved source target options (bands target.shape target.grid) (length (bands target.shape target.grid))
    from_before from_now to_before to_now →
    (array onto : Array Element) → Means (layout source options) from_before.content array →
    Means (layout target options) to_before.content onto →
    Means (layout target options) to_now.content (in_description target array)
all_moved source target options from_before from_now to_before to_now cut moved array onto source_means target_means =
    let list : List Region = bands target.shape target.grid in
    let means : Means (layout target options) to_now.content (with_regions array list onto) =
    subst (λ l. Means (layout target options) to_now.content (with_regions array l onto))
    (take_all (length list) list (omega arith)) (moved.means array onto source_means target_means) in
    record {
      shape = refl;
      fill = refl;
      honest = means.honest;
      inside = λ chunk content tuple is_chunk decodes in_box in_shape.
          let (k, b, is, holds) = cut.covered tuple in_shape in
          means.inside chunk content tuple is_chunk decodes in_box in_shape ∙ put_at array tuple list onto k b is holds;
    }

nothing_at : {X : Type 0} (k : ℕ) (x : X) → slice_get [] k ≡ Some x → ⊥
nothing_at k x e = cc

-- before the first band nothing is moved
pub none_moved : (source target : Description) (options : Options) (list : List Region) (from to : Shown) →
    from.asks ≤ 2 ^ 64 - 1 → to.asks ≤ 2 ^ 64 - 1 → to.puts ≤ 2 ^ 64 - 1 →
    AreMoved source target options list 0 from from to to
none_moved source target options list from to from_fits to_fits puts_fit = record {
  same = λ key. refl;
  asked_from = omega (arith, from_fits);
  later_from = omega arith;
  asked_to = omega (arith, to_fits);
  put_to = omega (arith, puts_fit);
  later_to = omega arith;
  undamaged = record {
    sees = λ number band e. absurd (nothing_at number band e);
    decodes = λ number band e. absurd (nothing_at number band e);
  };
  others = λ key none. refl;
  stays = λ chunk is_chunk. inr refl;
  stood = λ chunk is_chunk. inr refl;
  honest = λ honest. honest;
  means = λ array onto source_means target_means. target_means;
}

more_chunks : (grid : Grid) (list : List Region) (k : ℕ) (b : Region) → slice_get list k ≡ Some b →
    chunks_of_each grid (take (k + 1) list) ≡ chunks_of_each grid (take k list) + length (chunks_meeting grid b)
more_chunks grid list k b e =
    ap (chunks_of_each grid) (take_next list k b e)
    ∙ (sum_by-append (λ r. length (chunks_meeting grid r)) (take k list) (b ∷ [])
    ∙ ap (λ n. chunks_of_each grid (take k list) + n) (sum_by-cons (λ r. length (chunks_meeting grid r)) b []
    ∙ (let same : length (chunks_meeting grid b) + 0 ≡ length (chunks_meeting grid b) = omega arith in same)))

more_calls : (grid : Grid) (list : List Region) (k : ℕ) (b : Region) (before mid now : ℕ) → slice_get list k ≡ Some b →
    mid ≡ counted before (chunks_of_each grid (take k list)) →
    now ≡ counted mid (length (chunks_meeting grid b)) → now ≡ counted before (chunks_of_each grid (take (k + 1) list))
more_calls grid list k b before mid now here so_far more =
    counted_more before mid now (chunks_of_each grid (take k list)) (length (chunks_meeting grid b)) so_far more
    ∙ ap (counted before) (sym (more_chunks grid list k b here))

-- a chunk that decodes or stands twice does so from the start
stays_on : (target : Description) (options : Options) (before mid now : Content) → DecodesOrStays target options before
    mid → DecodesOrStays target options mid now → DecodesOrStays target options before now
stays_on target options before mid now first second =
    λ chunk is_chunk. go chunk (first chunk is_chunk) (second chunk is_chunk)
  where
    go : (chunk : List ℕ) → IsSome (chunk_content (layout target options) mid chunk) ⊎
        (mid (target.key chunk) ≡ before (target.key chunk)) →
        IsSome (chunk_content (layout target options) now chunk) ⊎ (now (target.key chunk) ≡ mid (target.key chunk)) →
        IsSome (chunk_content (layout target options) now chunk) ⊎ (now (target.key chunk) ≡ before (target.key chunk))
    go chunk a (inl decodes) = inl decodes
    go chunk (inl decodes) (inr stands) =
        inl (subst IsSome (sym (ap (box_content (layout target options) (target.grid.chunk_box chunk)) stands)) decodes)
    go chunk (inr stood) (inr stands) = inr (stands ∙ stood)

-- so does one that decoded or stands
stood_on : (target : Description) (options : Options) (before mid now : Content) →
    DecodedOrStays target options before mid → DecodedOrStays target options mid now →
    DecodedOrStays target options before now
stood_on target options before mid now first second =
    λ chunk is_chunk. go chunk (first chunk is_chunk) (second chunk is_chunk)
  where
    go : (chunk : List ℕ) → IsSome (chunk_content (layout target options) before chunk) ⊎
        (mid (target.key chunk) ≡ before (target.key chunk)) →
        IsSome (chunk_content (layout target options) mid chunk) ⊎ (now (target.key chunk) ≡ mid (target.key chunk)) →
        IsSome (chunk_content (layout target options) before chunk) ⊎
        (now (target.key chunk) ≡ before (target.key chunk))
    go chunk (inl decoded) b = inl decoded
    go chunk (inr stood) (inl decodes) =
        inl (subst IsSome (ap (box_content (layout target options) (target.grid.chunk_box chunk)) stood) decodes)
    go chunk (inr stood) (inr stands) = inr (stands ∙ stood)

-- the chunks that a band meets decode before the bands ahead of it too
decoded_first : (target : Description) (options : Options) (b : Region) (before mid : Content) →
    DecodedOrStays target options before mid →
    ((chunk : List ℕ) → is_among (chunks_meeting target.grid b) chunk ≡ true →
    IsSome (chunk_content (layout target options) mid chunk)) →
    (chunk : List ℕ) → is_among (chunks_meeting target.grid b) chunk ≡ true →
    IsSome (chunk_content (layout target options) before chunk)
decoded_first target options b before mid first decodes chunk inside = ⊎_elim
    (λ (decoded : IsSome (chunk_content (layout target options) before chunk)). decoded)
    (λ (stood : mid (target.key chunk) ≡ before (target.key chunk)).
    subst IsSome (ap (box_content (layout target options) (target.grid.chunk_box chunk)) stood) (decodes chunk inside))
    (first chunk is_chunk)
  where
    is_chunk : IsChunk target.grid chunk
    is_chunk =
        let (k, here) = listed_at (chunks_meeting target.grid b) chunk
        (Contains-from_any same_bytes chunk (chunks_meeting target.grid b) inside) in
        (meeting_is target.grid b k chunk here).0

-- one more band that meets no damage
in_more : {X : Type 0} (xs : List X) (x : X) (k : ℕ) (y : X) → slice_get (xs ++ x ∷ []) k ≡ Some y →
    (slice_get xs k ≡ Some y) ⊎ (x ≡ y)
in_more [] x zero y e = let same : x ≡ y = cc in inr same
in_more [] x (suc k) y e = absurd (nothing_at k y e)
in_more (z ∷ xs) x zero y e = inl e
in_more (z ∷ xs) x (suc k) y e = in_more xs x k y e

more_met : (source target : Description) (options : Options) (list : List Region)
    (done : ℕ) (b : Region) (from to : Content) → slice_get list done ≡ Some b →
    MeetsNone source target options (take done list) from to → SeesNoDamage source options (read b ∷ []) from →
    ((chunk : List ℕ) → is_among (chunks_meeting target.grid b) chunk ≡ true →
    IsSome (chunk_content (layout target options) to chunk)) →
    MeetsNone source target options (take (done + 1) list) from to
more_met source target options list done b from to here met sees decodes = record {
  sees = λ number band e. ⊎_elim
      (λ (earlier : slice_get (take done list) number ≡ Some band). met.sees number band earlier)
      (λ (same : b ≡ band). subst (λ r. SeesNoDamage source options (read r ∷ []) from) same sees)
      (which number band e);
  decodes = λ number band e chunk inside. ⊎_elim
      (λ (earlier : slice_get (take done list) number ≡ Some band). met.decodes number band earlier chunk inside)
      (λ (same : b ≡ band).
      decodes chunk (subst (λ r. is_among (chunks_meeting target.grid r) chunk ≡ true) (sym same) inside))
      (which number band e);
}
  where
    which : (number : ℕ) (band : Region) → slice_get (take (done + 1) list) number ≡ Some band →
        (slice_get (take done list) number ≡ Some band) ⊎ (b ≡ band)
    which number band e =
        in_more (take done list) b number band (ap (λ l. slice_get l number) (sym (take_next list done b here)) ∙ e)

-- a band that was read, cleared and written is moved
pub one_more_moved : (source target : Description) (options : Options) (list : List Region)
    (done : ℕ) (b : Region) (from_before from_mid from_now to_before to_mid to_now : Shown) →
    AreAlike source target → slice_get list done ≡ Some b →
    AreMoved source target options list done from_before from_mid to_before to_mid →
    HasMovedBand source target options b from_mid from_now to_mid to_now →
    AreMoved source target options list (done + 1) from_before from_now to_before to_now
one_more_moved source target options list done b from_before from_mid from_now to_before to_mid to_now alike here so_far
    moved = record {
      same = λ key. moved.got.same key ∙ so_far.same key;
      asked_from =
          more_calls source.grid list done b from_before.asks from_mid.asks from_now.asks here so_far.asked_from
          moved.got.asks;
      later_from = le_trans so_far.later_from moved.got.later;
      asked_to =
          more_calls target.grid list done b to_before.asks to_mid.asks to_now.asks here so_far.asked_to moved.put.asks;
      put_to =
          more_calls target.grid list done b to_before.puts to_mid.puts to_now.puts here so_far.put_to moved.put.puts;
      later_to = le_trans so_far.later_to moved.put.later;
      undamaged = more_met source target options list done b from_before.content to_before.content here so_far.undamaged
          (subst (SeesNoDamage source options (read b ∷ [])) (fun_ext so_far.same) moved.got.undamaged)
          (decoded_first target options b to_before.content to_mid.content so_far.stood moved.put.decodes);
      others = λ key none. moved.put.others key none ∙ so_far.others key none;
      stays = stays_on target options to_before.content to_mid.content to_now.content so_far.stays moved.put.stays;
      stood = stood_on target options to_before.content to_mid.content to_now.content so_far.stood moved.put.stood;
      honest = λ honest. moved.put.honest (so_far.honest honest);
      means = λ array onto source_means target_means.
          let elements_are : List Element = elements_in b array in
          let from_means : Means (layout source options) from_mid.content array =
          subst (λ c. Means (layout source options) c array) (sym (fun_ext so_far.same)) source_means in
          let matches : Matches (kind source) (answered moved.bytes) (reply_of None (read b) array) =
          subst (λ why. Matches (kind source) (answered moved.bytes) (reply_of why (read b) array)) moved.got.accepted
          ((moved.got.serves from_means.honest).answers_match array from_means).0 in
          let new_is : moved.cleared ≡ array_bytes (kind source) elements_are = moved.clear elements_are matches in
          let to_means : Means (layout target options) to_mid.content (with_regions array (take done list) onto) =
          so_far.means array onto source_means target_means in
          let left : Means (layout target options) to_now.content
          (array_of target None (write b moved.cleared) (with_regions array (take done list) onto)) =
          subst (λ why. Means (layout target options) to_now.content
          (array_of target why (write b moved.cleared) (with_regions array (take done list) onto))) moved.put.accepted
          ((moved.put.serves to_means.honest).left.array_left (with_regions array (take done list) onto) to_means) in
          let long : length elements_are ≡ count b = length-map (tuples b) array.element ∙ length-tuples b in
          let given : written_elements target b moved.cleared ≡ elements_are =
          ap₂ (λ k v. unwrap_or (meaning k (count b) v) []) (ap kind_of (sym alike.data_type)) new_is
          ∙ (ap (λ n. unwrap_or (meaning (kind source) n (array_bytes (kind source) elements_are)) []) (sym long)
          ∙
          ap (λ o. unwrap_or o []) (same_mean (kind source) (length elements_are) moved.bytes elements_are matches)) in
          subst (Means (layout target options) to_now.content)
          (ap (λ xs. written b xs (with_regions array (take done list) onto)) given
          ∙ sym (ap (λ l. with_regions array l onto) (take_next list done b here)
          ∙ with_more array (take done list) (b ∷ []) onto))
          left;
    }
