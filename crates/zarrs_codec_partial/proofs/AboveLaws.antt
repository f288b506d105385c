-- Elements of the level below, and what a codec makes of them.
use Rattle.std.proofs.Common.{◌≡◌, ◌⊎◌, ◌&&◌, ℕ, Bool, true, false, List, length, get_or, Option, Some, None, IsSome}
use Rattle.std.proofs.Common.{option_and_then, Result, Ok, Err, IfOk, IfErr, refl, sym, ap, ap₂, ◌∙◌, subst, inl, inr}
use Rattle.std.proofs.Common.{⊎_elim}
use Rattle.std.proofs.lemmas.Simd.{map-map}
use Rattle.zarrs_codec.specs.Prelude.{Region, count, count_of, sizes, whole, ends_within, tuples, place, linear_index}
use Rattle.zarrs_codec.specs.Prelude.{ArrayBytes, meaning, Level, ArrayCodec, picked, raw_of, validity, Answers, linear}
use Rattle.zarrs_codec.specs.Prelude.{Unserved, list_at, at_box, select, Gives, IsFit, IsHandleError, is_all}
use Rattle.zarr_model.proofs.RegionLaws.{length-tuples, sizes_whole}
use Rattle.zarr_model.specs.Element.{Element, null, Kind, DataType, fill_element, kind_of}
use Rattle.zarr_model.proofs.Choices.{some_now}
use Rattle.zarrs_codec_error.specs.declared.error.CodecError.{CodecError}
use Rattle.zarrs_codec_error.specs.declared.error.CodecError.TheVariants as codec
use Rattle.zarrs_codec_array_bytes.specs.declared.array_bytes.ArrayBytes as code
use Rattle.zarrs_codec_traits.proofs.LevelLaws.{valid_memory}
use Rattle.zarrs_codec_traits.proofs.SelectLaws.{listed, box-fits}
use Rattle.zarrs_codec.proofs.BoxLaws.{whole_is_all}
use Rattle.zarrs_codec.specs.Lists.{Refused, ListSeen, HasListFill, is_short, AreFew, KeepsList, LooksAt, ReadsList}
use Rattle.zarrs_codec.specs.Lists.{IsListError}
use Rattle.zarrs_codec_partial_elements.proofs.AbsentLaws.{kind_back}
use Rattle.zarrs_codec_partial.specs.Above.{IsBelow, asked_box_below, first_unserved, list_raised}

-- the level below, as it is seen in a handle of it
module _ (codec : ArrayCodec) (fill_below : DataType → List ℕ → List ℕ) (level : Level) (fill : List ℕ)
    (seen : ListSeen) (is : IsBelow codec fill_below level fill seen) where
  abbrev below : Level
  below = codec.level_below level

  pub same_kind : kind_of seen.level.data_type ≡ kind_of below.data_type
  same_kind = kind_back (kind_of seen.level.data_type) (kind_of below.data_type) is.kind

  -- a box of it can be asked for
  pub box_few : (box : Region) → IsFit below.shape below.data_type → ends_within box below.shape ≡ true →
      AreFew (kind_of seen.level.data_type) (length (tuples box))
  box_few box fits inside =
      let fit : IsFit (sizes box) below.data_type = box-fits below box inside fits in
      subst (λ (n : ℕ). AreFew (kind_of seen.level.data_type) n) (sym (length-tuples box))
      (subst (λ (k : Kind). AreFew k (count box)) (sym same_kind) (record { count = fit.count; bytes = fit.bytes }))

  pub all_long : (box : Region) → box ≡ whole below.shape → length (tuples box) ≡ count_of below.shape
  all_long box all = length-tuples box ∙ ap count all ∙ ap count_of (sizes_whole below.shape)

  pub all_few : (box : Region) → IsFit below.shape below.data_type → box ≡ whole below.shape →
      AreFew (kind_of seen.level.data_type) (length (tuples box))
  all_few box fits all =
      subst (λ (n : ℕ). AreFew (kind_of seen.level.data_type) n) (sym (all_long box all))
      (subst (λ (k : Kind). AreFew k (count_of below.shape)) (sym same_kind)
      (record { count = fits.count; bytes = fits.bytes }))

  -- what is given of a box of it
  pub box_valid : (box : Region) (raw : ArrayBytes) → IsSome (meaning (kind_of seen.level.data_type)
      (length (tuples box)) raw) → IsSome (list_at (at_box box below) raw)
  box_valid box raw there =
      subst (λ (n : ℕ). IsSome (meaning (kind_of below.data_type) n raw)) (length-tuples box)
      (subst (λ (k : Kind). IsSome (meaning k (length (tuples box)) raw)) same_kind there)

  pub box_means : (box : Region) (raw : ArrayBytes) (ys : List Element) → meaning (kind_of seen.level.data_type)
      (length (tuples box)) raw ≡ Some (picked null (linear seen.level.shape (tuples box)) ys)
      → list_at (at_box box below) raw ≡ Some (select below.shape box ys)
  box_means box raw ys means =
      ap₂ (λ (k : Kind) (n : ℕ). meaning k n raw) (sym same_kind) (sym (length-tuples box)) ∙ (means
      ∙ (ap Some (map-map (λ (k : ℕ). get_or ys k null) (linear_index seen.level.shape) (tuples box))
      ∙ ap (λ (s : List ℕ). Some (select s box ys)) is.shape))

  pub all_valid : (box : Region) (raw : ArrayBytes) → box ≡ whole below.shape →
      IsSome (meaning (kind_of seen.level.data_type) (length (tuples box)) raw) → IsSome (list_at below raw)
  all_valid box raw all there =
      subst (λ (n : ℕ). IsSome (meaning (kind_of below.data_type) n raw))
      (ap (λ (b : Region). count b) all ∙ ap count_of (sizes_whole below.shape)) (box_valid box raw there)

  pub all_means : (box : Region) (raw : ArrayBytes) (ys : List Element) → box ≡ whole below.shape →
      length ys ≡ count_of below.shape → meaning (kind_of seen.level.data_type) (length (tuples box)) raw ≡
      Some (picked null (linear seen.level.shape (tuples box)) ys)
      → list_at below raw ≡ Some ys
  all_means box raw ys all long means =
      let n : count box ≡ count_of below.shape =
      ap (λ (b : Region). count b) all ∙ ap count_of (sizes_whole below.shape) in
      ap (λ (n : ℕ). meaning (kind_of below.data_type) n raw) (sym n) ∙ (box_means box raw ys means
      ∙ (ap (λ (b : Region). Some (select below.shape b ys)) all
      ∙ ap Some (listed (whole below.shape) (λ tuple. get_or ys (place (whole below.shape) tuple) null) ys null
      (long ∙ sym (ap count_of (sizes_whole below.shape))) (λ tuple here. refl))))

  -- what is given for all of it is at its level
  pub all_same : (box : Region) (raw : ArrayBytes) → box ≡ whole below.shape →
      meaning (kind_of seen.level.data_type) (length (tuples box)) raw ≡ list_at below raw
  all_same box raw all = ap₂ (λ (k : Kind) (n : ℕ). meaning k n raw) same_kind (all_long box all)

  pub all_below : (box : Region) → box ≡ whole below.shape → is_all seen.level.shape (Some box) ≡ true
  all_below box all = ap₂ (λ (s : List ℕ) (b : Region). is_all s (Some b)) is.shape all ∙ whole_is_all below.shape

-- a list above is one of a list below
pub above_of : (decode : List Element → Option (List Element)) (list : Option (List Element)) (xs : List Element) →
    option_and_then decode list ≡ Some xs → (ys : List Element) × ((list ≡ Some ys) × (decode ys ≡ Some xs))
above_of decode None xs is = cc
above_of decode (Some ys) xs is = (ys, (refl, is))

pub above_none : (decode : List Element → Option (List Element)) (list : Option (List Element)) → list ≡ None →
    option_and_then decode list ≡ None
above_none decode list is = ap (λ (l : Option (List Element)). option_and_then decode l) is

pub above_some : (decode : List Element → Option (List Element)) (list : Option (List Element)) → IsSome list →
    ((ys : List Element) → list ≡ Some ys → IsSome (decode ys)) → IsSome (option_and_then decode list)
above_some decode None there all = cc
above_some decode (Some ys) there all = all ys refl

-- why there are no elements above
pub above_told : (decode : List Element → Option (List Element)) (list : Option (List Element)) (there : Bool) (tells :
    CodecError → Type 0) (before now : ℕ) (e : CodecError) → IsListError there list tells before now e
    → IsListError there (option_and_then decode list) tells before now e
above_told decode list there tells before now e told =
    ⊎_elim (λ (h : IsHandleError before now e). inl h)
    (λ (t : ((list ≡ None) ⊎ (there ≡ false)) × tells e).
    inr (⊎_elim (λ (n : list ≡ None). inl (above_none decode list n)) (λ (n : there ≡ false). inr n) t.0, t.1)) told

pub valid_fails : {T : Type 0} (level : Level) (raw : ArrayBytes) (P : CodecError → Type 0) (r : Result T CodecError) →
    IsSome (list_at level raw) → Answers (validity (kind_of level.data_type) (count_of level.shape) raw) r →
    P codec.OutOfMemory → IfErr r P
valid_fails level raw P (Ok v) there answers memory = tt
valid_fails level raw P (Err e) there answers memory = subst P (sym (valid_memory level raw e there answers)) memory

pub valid_fails_memory : {T : Type 0} (level : Level) (raw : ArrayBytes) (r : Result T CodecError) →
    IsSome (list_at level raw) → Answers (validity (kind_of level.data_type) (count_of level.shape) raw) r →
    IfErr r (λ e. e ≡ codec.OutOfMemory)
valid_fails_memory level raw (Ok v) there answers = tt
valid_fails_memory level raw (Err e) there answers = valid_memory level raw e there answers

-- all elements above, of all below
pub decoded_means : (decode : List Element → Option (List Element)) (level : Level) (ys xs : List Element)
    (r : Result code.ArrayBytes CodecError) → decode ys ≡ Some xs →
    IfOk r (λ v. Gives (list_at level (raw_of v)) (decode ys)) → IfOk r (λ v. list_at level (raw_of v) ≡ Some xs)
decoded_means decode level ys xs (Ok v) is gives = gives.same ∙ is
decoded_means decode level ys xs (Err e) is gives = tt

pub decoded_valid : (decode : List Element → Option (List Element))
    (level below : Level) (raw : ArrayBytes) (r : Result code.ArrayBytes CodecError) → IsSome (list_at below raw)
    → ((ys : List Element) → list_at below raw ≡ Some ys → IfOk r (λ v. Gives (list_at level (raw_of v)) (decode ys))) →
    IfOk r (λ v. IsSome (list_at level (raw_of v)))
decoded_valid decode level below raw (Err e) there gives = tt
decoded_valid decode level below raw (Ok v) there gives = go (list_at below raw) refl there
  where
    go : (o : Option (List Element)) → list_at below raw ≡ o → IsSome o → IsSome (list_at level (raw_of v))
    go None is held = cc
    go (Some ys) is held = (gives ys is).there

-- what is shown of the handle below
pub own_served : (own : Option Unserved) (below : Option Refused) (element : Option Element) →
    first_unserved own below element ≡ None → own ≡ None
own_served own below None is = cc
own_served (Some why) below (Some x) is = cc
own_served None below (Some x) is = refl

pub below_served : (own : Option Unserved) (below : Option Refused) (element : Option Element) →
    first_unserved own below element ≡ None → below ≡ None
below_served own below None is = cc
below_served (Some why) below (Some x) is = cc
below_served None below (Some x) is = is

pub fill_served : (own : Option Unserved) (below : Option Refused) (element : Option Element) →
    first_unserved own below element ≡ None → IsSome element
fill_served own below None is = cc
fill_served own below (Some x) is = refl

-- where what is below is not served, though the codec serves its level
pub unserved_below : (own : Option Unserved) (below : Option Refused) (element : Option Element) → own ≡ None →
    IsSome element → IsSome (first_unserved own below element) → IsSome below
unserved_below own below None is there some = cc
unserved_below (Some why) below (Some x) is there some = cc
unserved_below None below (Some x) is there some = some

pub below_short : (own below : Bool) → (own && below) ≡ true → below ≡ true
below_short true below is = is
below_short false below is = cc

pub own_short : (own below : Bool) → (own && below) ≡ true → own ≡ true
own_short true below is = refl
own_short false below is = cc

module _ (level : Level) (fill : List ℕ) (unserved : Option Unserved)
    (codec : ArrayCodec) (region_below : List ℕ → Region → Region) where
  pub raised_keeps : (old new : ListSeen) → KeepsList old new → KeepsList (list_raised level fill unserved codec
      region_below old) (list_raised level fill unserved codec region_below new)
  raised_keeps old new keeps = record {
    level = refl;
    fill = refl;
    short = ap (λ (b : Bool). is_short level fill && b) keeps.short;
    unserved = ap (λ (b : Option Refused). first_unserved unserved b (fill_element (kind_of level.data_type) fill))
        keeps.unserved;
    there = keeps.there;
    list = λ under. ap (λ (l : Option (List Element)). option_and_then (codec.decode_list level) l) (keeps.list under);
    content = keeps.content;
    key = keeps.key;
    place = keeps.place;
    cost = keeps.cost;
    taking =
        λ asked. keeps.taking (Some (asked_box_below region_below level.shape (codec.level_below level).shape asked));
    whole =
        λ asked. keeps.whole (Some (asked_box_below region_below level.shape (codec.level_below level).shape asked));
    size = keeps.size;
    later = keeps.later;
  }

  pub raised_reads : {T E : Type 0} (asked : Option Region) (old new : ListSeen) (result : Result T E) →
      ReadsList (Some (asked_box_below region_below level.shape (codec.level_below level).shape asked)) old new result
      → ReadsList asked (list_raised level fill unserved codec region_below old)
      (list_raised level fill unserved codec region_below new) result
  raised_reads asked old new result reads = record {
    keeps = raised_keeps old new reads.keeps;
    asks = reads.asks;
    asks_err = reads.asks_err;
    taken = reads.taken;
    taken_err = reads.taken_err;
  }

  pub raised_looks : {T E : Type 0} (old new : ListSeen) (result : Result T E) → LooksAt old new result →
      LooksAt (list_raised level fill unserved codec region_below old)
      (list_raised level fill unserved codec region_below new) result
  raised_looks old new result looks = record {
    keeps = raised_keeps old new looks.keeps;
    asks = looks.asks;
    asks_err = looks.asks_err;
    taken = looks.taken;
  }

-- a fill value that denotes an element does so below
pub below_fill : (codec : ArrayCodec) (fill_below : DataType → List ℕ → List ℕ) (level : Level) (fill : List ℕ)
    (seen : ListSeen) (x : Element) → IsBelow codec fill_below level fill seen
    → fill_element (kind_of (codec.level_below level).data_type) (fill_below level.data_type fill) ≡ Some x →
    HasListFill seen
below_fill codec fill_below level fill seen x is denotes =
    some_now _ x (ap₂ (λ (k : Kind) (f : List ℕ). fill_element k f) (same_kind codec fill_below level fill seen is)
    is.fill ∙ denotes)
