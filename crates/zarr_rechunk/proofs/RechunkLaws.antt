-- All bands of the target are moved.
use Rattle.std.proofs.Common.{◌≡◌, ℕ, zero, suc, ◌==◌, true, false, Bool, not, List, [], ◌∷◌, length, take}
use Rattle.std.proofs.Common.{slice_get, Option, Some, None, IsSome, is_some, Result, Ok, Err, OnOk, IfErr, inr}
use Rattle.std.proofs.Common.{refl, sym, ap, ap₂, ◌∙◌, subst, take_all, arith, eq-eqb}
use Rattle.std.specs.List.{list_any}
use Rattle.std.proofs.Math.Path.{fun_ext}
use Rattle.std.proofs.lemmas.Bool.{or_parts}
use Rattle.zarr_model.specs.Prelude.{Region, count, ends_within, Element, Array, Kind, kind, kind_of, DataType}
use Rattle.zarr_model.specs.Prelude.{fixed_size, ArrayBytes, array_bytes, meaning, has_long_element, Options}
use Rattle.zarr_model.specs.Prelude.{Description, layout, IsHonest, IsSound, CoversShape, Means, Shown, counted}
use Rattle.zarr_model.specs.Prelude.{stored_array, Refusal, refused_if, or_then, is_too_large, region_refusal}
use Rattle.zarr_model.specs.Prelude.{incompatible_dimensionality, subset_out_of_bounds, region_too_large}
use Rattle.zarr_model.specs.Prelude.{element_too_long, refusal, reply, reply_of, read, write}
use Rattle.zarr_model.proofs.StoreLaws.{stored_array-meant, meant-same, Means-from_whole}
use Rattle.zarr_model.proofs.RunLaws.{reply-same}
use Rattle.zarr_model.proofs.RefusalLaws.{kept}
use Rattle.zarr_model.proofs.BytesLaws.{length-meaning, refusal-meaning}
use Rattle.zarr_model.proofs.RegionLaws.{rank_within}
use Rattle.zarr_array.specs.parts.Document.{ArrayDocument, describe}
use Rattle.zarr_rechunk.specs.Cleared.{AreElements}
use Rattle.zarr_rechunk.specs.Bands.{bands}
use Rattle.zarr_rechunk.specs.Moved.{AreMoved, MeetsNone, chunks_of_each, in_description, RepliesAlike}
use Rattle.zarr_rechunk.specs.Band.{AreAlike, AreCleared, HasReadBand, HasWrittenBand, HasMovedBand}
use Rattle.zarr_rechunk.specs.Fails.{is_large_band, has_large, MayMove, FailsAtBand, FailsToMove}
use Rattle.zarr_rechunk.specs.Whole.{HasMovedArray, HasNotMoved}
use Rattle.zarr_rechunk.specs.declared.error.RechunkError.{RechunkError}
use Rattle.zarr_rechunk.proofs.BandLaws.{BandsCut, IsProduct, each_product_is_cut}
use Rattle.zarr_rechunk.proofs.MeanLaws.{same_mean}
use Rattle.zarr_rechunk.proofs.ShortLaws.{still_short}
use Rattle.zarr_rechunk.proofs.MovedLaws.{all_moved}
use Rattle.zarr_rechunk.proofs.FailLaws.{only_memory}

-- a band is accepted: it has the rank, ends inside and is not too large
not_large : (list : List Region) (large : Region → Bool) (k : ℕ) (region : Region) → list_any large list ≡ false →
    slice_get list k ≡ Some region → large region ≡ false
not_large [] large k region none e = cc
not_large (first ∷ list) large zero region none e =
    let same : first ≡ region = cc in
    subst (λ r. large r ≡ false) same (or_parts (large first) (list_any large list) none).0
not_large (first ∷ list) large (suc k) region none e =
    not_large list large k region (or_parts (large first) (list_any large list) none).1 e

unrefused : (b : Bool) (why : Refusal) → b ≡ false → refused_if b why ≡ None
unrefused true why e = cc
unrefused false why e = refl

pub band_accepted : (target : Description) → BandsCut target.shape target.grid → has_large target
    (bands target.shape target.grid) ≡ false → (list : List Region) → list ≡ bands target.shape target.grid →
    (k : ℕ) (band : Region) → slice_get list k ≡ Some band → region_refusal target band ≡ None
band_accepted target cut none list are k band here =
    let at : slice_get (bands target.shape target.grid) k ≡ Some band = ap (λ l. slice_get l k) (sym are) ∙ here in
    let inside = cut.inside k band at in
    ap₂ or_then (kept _ _ (eq-eqb (length band) (length target.shape) (rank_within band target.shape inside)))
    (ap₂ or_then (kept _ _ inside) (unrefused (is_large_band target band) region_too_large
    (not_large (bands target.shape target.grid) (is_large_band target) k band none at)))

-- arrays that are alike accept the same regions
pub same_refusal : (source target : Description) (band : Region) → AreAlike source target →
    region_refusal source band ≡ region_refusal target band
same_refusal source target band alike =
    ap₂ (λ (shape : List ℕ) (type : DataType).
    or_then (refused_if (not (length band == length shape)) incompatible_dimensionality)
    (or_then (refused_if (not (ends_within band shape)) subset_out_of_bounds)
    (refused_if (is_too_large (fixed_size (kind_of type)) (count band)) region_too_large)))
    alike.shape alike.data_type

-- bytes that are elements mean some
pub are_some : (kind : Kind) (n : ℕ) (bytes : ArrayBytes) → IsSome (meaning kind n bytes) → AreElements kind bytes
are_some kind n bytes valid = go (meaning kind n bytes) refl valid
  where
    go : (o : Option (List Element)) → meaning kind n bytes ≡ o → IsSome o → AreElements kind bytes
    go None is there = cc
    go (Some list) is there =
        (list, subst (λ m. meaning kind m bytes ≡ Some list) (sym (length-meaning kind n bytes list is)) is)

-- what is cleared of a band's elements is accepted
pub write_accepted : (source target : Description) (b : Region) (bytes cleared : ArrayBytes) → AreAlike source target →
    region_refusal target b ≡ None →
    IsSome (meaning (kind source) (count b) bytes) → has_long_element bytes ≡ false →
    AreCleared (kind source) bytes cleared → refusal target (write b cleared) ≡ None
write_accepted source target b bytes cleared alike accepted valid short clear =
    go (meaning (kind source) (count b) bytes) refl valid
  where
    go : (o : Option (List Element)) → meaning (kind source) (count b) bytes ≡ o → IsSome o →
        refusal target (write b cleared) ≡ None
    go None is there = cc
    go (Some list) is there =
        let means : meaning (kind source) (length list) bytes ≡ Some list = subst (λ m.
        meaning (kind source) m bytes ≡ Some list) (sym (length-meaning (kind source) (count b) bytes list is)) is in
        let new_is : cleared ≡ array_bytes (kind source) list = clear list means in
        let some_is : is_some (meaning (kind target) (count b) cleared) ≡ true =
        ap₂ (λ (k : Kind) (v : ArrayBytes). is_some (meaning k (count b) v)) (ap kind_of (sym alike.data_type)) new_is
        ∙ ap is_some (same_mean (kind source) (count b) bytes list is) in
        ap₂ or_then accepted (ap₂ or_then ((refusal-meaning (kind target) (count b) cleared).1 some_is)
        (unrefused (has_long_element cleared) element_too_long
        (ap has_long_element new_is ∙ still_short (kind source) (count b) bytes list short is)))

pub moved_by : {T E : Type 0} (source target : Description) (options : Options) (b : Region) (bytes cleared :
    ArrayBytes) (from_before from_now to_before to_now : Shown) (r : Result T E) →
    HasReadBand source options b bytes from_before from_now → AreCleared (kind source) bytes cleared →
    OnOk r (HasWrittenBand target options b cleared to_before to_now) →
    OnOk r (HasMovedBand source target options b from_before from_now to_before to_now)
moved_by source target options b bytes cleared from_before from_now to_before to_now (Ok v) got clear put =
    record { bytes = bytes; cleared = cleared; got = got; clear = clear; put = put }
moved_by source target options b bytes cleared from_before from_now to_before to_now (Err e) got clear put = tt

-- a read of the same elements is answered alike
same_replies : (source target : Description) (array : Array Element) (region : Region) → AreAlike source target →
    reply target (read region) (in_description target array) ≡ reply source (read region) array
same_replies source target array region alike = in_any (region_refusal target region)
    ∙ ap (λ why. reply_of why (read region) array) (sym (same_refusal source target region alike))
  where
    in_any : (why : Option Refusal) →
        reply_of why (read region) (in_description target array) ≡ reply_of why (read region) array
    in_any None = refl
    in_any (Some refused) = refl

module _ (source target : Description) (options : Options) (list : List Region)
    (n : ℕ) (from_before from_now to_before to_now : Shown)
    (n_is : n ≡ length list) (product : IsProduct target.shape target.grid)
    (are : list ≡ bands target.shape target.grid) where
  all : AreMoved source target options list n from_before from_now to_before to_now →
      AreMoved source target options (bands target.shape target.grid) (length (bands target.shape target.grid))
      from_before from_now to_before to_now
  all moved = subst (λ l. AreMoved source target options l (length l) from_before from_now to_before to_now) are
      (subst (λ m. AreMoved source target options list m from_before from_now to_before to_now) n_is moved)

  whole : take (length (bands target.shape target.grid)) (bands target.shape target.grid) ≡
      bands target.shape target.grid
  whole = take_all (length (bands target.shape target.grid)) (bands target.shape target.grid) (omega arith)

  means_it : CoversShape target.shape target.grid → IsSound (layout target options) →
      AreMoved source target options list n from_before from_now to_before to_now →
      (array : Array Element) → Means (layout source options) from_before.content array → IsHonest (layout target
      options) to_before.content → Means (layout target options) to_now.content (in_description target array)
  means_it covers sound moved array means honest =
      all_moved source target options from_before from_now to_before to_now (each_product_is_cut target.shape
      target.grid product) (all moved) array (stored_array (layout target options) to_before.content) means
      (Means-from_whole (layout target options) covers to_before.content (stored_array (layout target options)
      to_before.content) (stored_array-meant (layout target options) covers sound to_before.content honest))

  replies_alike : CoversShape target.shape target.grid → IsSound (layout target options) → MayMove source target →
      AreMoved source target options list n from_before from_now to_before to_now →
      IsHonest (layout target options) to_before.content →
      RepliesAlike source target options from_now.content to_now.content
  replies_alike covers sound may moved = λ honest array other region from_means to_means.
      let means : Means (layout source options) from_before.content array =
      subst (λ c. Means (layout source options) c array) (fun_ext moved.same) from_means in
      let has : Means (layout target options) to_now.content (in_description target array) =
      means_it covers sound moved array means honest in
      reply-same target (read region) other (in_description target array) to_means.shape
      (meant-same (layout target options) covers to_now.content other (in_description target array) to_means has)
      ∙ same_replies source target array region may.alike

  pub array_moved : {T E : Type 0} (r : Result T E) → CoversShape target.shape target.grid →
      IsSound (layout target options) → MayMove source target →
      OnOk r (AreMoved source target options list n from_before from_now to_before to_now) →
      OnOk r (HasMovedArray source target options from_before from_now to_before to_now)
  array_moved (Ok v) covers sound may moved = record {
    may = may;
    moves = means_it covers sound moved;
    replies = replies_alike covers sound may moved;
    undamaged = subst (λ l. MeetsNone source target options l from_before.content to_before.content) whole
        (all moved).undamaged;
    asked_from = (all moved).asked_from ∙ ap (λ l. counted from_before.asks (chunks_of_each source.grid l)) whole;
    asked_to = (all moved).asked_to ∙ (ap (λ l. counted to_before.asks (chunks_of_each target.grid l)) whole
        ∙ ap (counted to_before.asks) (each_product_is_cut target.shape target.grid product).counted);
    put_to = (all moved).put_to ∙ (ap (λ l. counted to_before.puts (chunks_of_each target.grid l)) whole
        ∙ ap (counted to_before.puts) (each_product_is_cut target.shape target.grid product).counted);
  }
  array_moved (Err e) covers sound may moved = tt

-- an error at a band of the target
pub not_moved_array : {T : Type 0} (source target : ArrayDocument) (options : Options) (list : List Region)
    (from_before from_now to_before to_now : Shown) → list ≡ bands (describe target).shape (describe target).grid →
    (r : Result T RechunkError) → MayMove (describe source) (describe target) → IfErr r
    (λ error. FailsAtBand source target options list from_before from_now to_before to_now error.at error.kind) →
    IfErr r (HasNotMoved source target options from_before from_now to_before to_now)
not_moved_array source target options list from_before from_now to_before to_now are (Ok v) may h = tt
not_moved_array source target options list from_before from_now to_before to_now are (Err error) may h =
    let fails : FailsToMove source target options from_before from_now to_before to_now error =
    inr (
      may,
      subst (λ l. FailsAtBand source target options l from_before from_now to_before to_now error.at error.kind) are h,
    ) in record {
      cause = fails;
      complete = λ may honest_from honest_to calm_from calm_to.
          only_memory source target options from_before from_now to_before to_now may honest_from honest_to calm_from
          calm_to error.at error.kind (bands (describe target).shape (describe target).grid) fails;
    }

-- which is not one before any
pub begun : {T : Type 0} (X : Type 0) (source target : ArrayDocument) (options : Options) (list : List Region)
    (from_before from_now to_before to_now : Shown) (r : Result T RechunkError) →
    IfErr r (λ error. FailsAtBand source target options list from_before from_now to_before to_now error.at
    error.kind) → IfErr r (λ error. error.at ≡ None → X)
begun X source target options list from_before from_now to_before to_now (Ok v) h = tt
begun X source target options list from_before from_now to_before to_now (Err error) h =
    λ none. absurd (not_some h.number (sym none ∙ h.is_at))
  where
    not_some : (m : ℕ) → None ≡ Some m → ⊥
    not_some m e = cc
