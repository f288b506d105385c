-- Elements above that are stored as elements below.
use Rattle.std.proofs.Common.{◌≡◌, ◌⊎◌, ℕ, Bool, true, false, ◌||◌, ◌&&◌, List, replicate, Option, Some, None, IsSome}
use Rattle.std.proofs.Common.{option_map, option_and_then, Result, Ok, Err, IfOk, IfErr, OnOk, refl, sym, ap, ap₂, ◌∙◌}
use Rattle.std.proofs.Common.{subst, inl, inr, ⊎_elim}
use Rattle.std.proofs.lemmas.Result.{on_ok_weaker, on_err_weaker}
use Rattle.zarrs_codec.specs.Prelude.{Region, count_of, whole, Element, Kind, DataType, fill_element, kind_of}
use Rattle.zarrs_codec.specs.Prelude.{ArrayBytes, meaning, Level, ArrayCodec, Options, has_long_element, raw_of}
use Rattle.zarrs_codec.specs.Prelude.{Unserved, list_at, IsHandleError, Refused, ListSeen, TellsFault, fills, is_short}
use Rattle.zarr_model.proofs.BytesLaws.{length-meaning}
use Rattle.zarr_model.proofs.Choices.{some_given}
use Rattle.zarrs_codec_error.specs.declared.error.CodecError.{CodecError}
use Rattle.zarrs_codec_array_bytes.specs.declared.array_bytes.ArrayBytes as code
use Rattle.zarrs_codec_traits.proofs.HeldFaultLaws.{unless}
use Rattle.zarrs_codec.specs.ListWrites.{is_kept, is_stored, HoldsList, HoldsStored, IsAbsent, SameList, IsRefused}
use Rattle.zarrs_codec.specs.ListWrites.{ErasesList, PutsList, StaysList, KeepsRest, UnaskedList, Rewrites}
use Rattle.zarrs_codec.specs.Updates.{Stores, Updates}
use Rattle.zarrs_codec_partial_elements.proofs.WriteLaws.{dropped_list, filled_list}
use Rattle.zarrs_codec_partial.specs.Above.{IsBelow, IsFilled, HandsOn, list_raised, first_unserved, IsUnencodedBelow}
use Rattle.zarrs_codec_partial.specs.Above.{IsEncodedBelow}
use Rattle.zarrs_codec_partial.proofs.AboveLaws.{same_kind, below_served, unserved_below, below_short, own_short}

-- what the codec's laws say of the fill
pub filled_by : (codec : ArrayCodec) (fill_below : DataType → List ℕ → List ℕ) (level : Level) (fill : List ℕ) →
    fill_element (kind_of level.data_type) fill ≡ Some level.fill
    → fill_element (kind_of (codec.level_below level).data_type) (fill_below level.data_type fill) ≡
    Some (codec.level_below level).fill
    → codec.decode_list level (replicate (count_of (codec.level_below level).shape) (codec.level_below level).fill) ≡
    Some (replicate (count_of level.shape) level.fill) → IsFilled codec fill_below level fill
filled_by codec fill_below level fill own below decodes = record { own = own; below = below; decodes = decodes }

module _ (codec : ArrayCodec) (fill_below : DataType → List ℕ → List ℕ) (level : Level) (fill : List ℕ)
    (facts : IsFilled codec fill_below level fill) where
  abbrev below : Level
  below = codec.level_below level

  abbrev element : Option Element
  element = fill_element (kind_of level.data_type) fill

  abbrev element_below : Option Element
  element_below = fill_element (kind_of below.data_type) (fill_below level.data_type fill)

  -- the fill's list below, and above
  below_fills : fills below (fill_below level.data_type fill) ≡ Some (replicate (count_of below.shape) below.fill)
  below_fills = ap (option_map (replicate (count_of below.shape))) facts.below

  own_fills : fills level fill ≡ Some (replicate (count_of level.shape) level.fill)
  own_fills = ap (option_map (replicate (count_of level.shape))) facts.own

  -- elements that are not stored, handed on as the fill's below
  pub hands_fill : (under : Options) (bytes encoded : ArrayBytes)
      → ((list : List Element) → IsSome element → list_at level bytes ≡ Some list → false ≡ is_kept under element list)
      → list_at below encoded ≡ Some (replicate (count_of below.shape) below.fill) →
      (is_short level fill ≡ true → has_long_element encoded ≡ false)
      → HandsOn codec level fill (fill_below level.data_type fill) under bytes encoded
  hands_fill under bytes encoded dropped means short = record {
    decodes = λ list there is. ap (λ (l : Option (List Element)). option_and_then (codec.decode_list level) l) means
        ∙ (facts.decodes ∙ (sym own_fills ∙ filled list there is));
    kept = λ list ys there is held. filled_list below (fill_below level.data_type fill) under ys (below_fills
        ∙ (sym means ∙ held)) (off under.store_empty_chunks _ (dropped list there is)) ∙ dropped list there is;
    short = λ there few long. short few;
  }
    where
      filled : (list : List Element) → IsSome element → list_at level bytes ≡ Some list → fills level fill ≡ Some list
      filled list there is = dropped_list level fill under list
          (length-meaning (kind_of level.data_type) (count_of level.shape) bytes list is) (dropped list there is)

      off : (s a : Bool) → false ≡ (s || a) → s ≡ false
      off true a e = cc
      off false a e = refl

  -- elements that are stored, handed on as what they are encoded to
  pub hands_encoded : (under : Options) (bytes encoded : ArrayBytes)
      → ((list : List Element) → IsSome element → list_at level bytes ≡ Some list → true ≡ is_kept under element list)
      → option_and_then (codec.decode_list level) (list_at below encoded) ≡ list_at level bytes →
      (has_long_element bytes ≡ false → has_long_element encoded ≡ false)
      → HandsOn codec level fill (fill_below level.data_type fill) under bytes encoded
  hands_encoded under bytes encoded stored decodes short = record {
    decodes = λ list there is. decodes ∙ is;
    kept = λ list ys there is held.
        go ys list held (decoded ys list held is) (stored list there is) (is_kept under element_below ys) refl;
    short = λ there few long. short long;
  }
    where
      decoded : (ys list : List Element) → list_at below encoded ≡ Some ys → list_at level bytes ≡ Some list →
          codec.decode_list level ys ≡ Some list
      decoded ys list held is =
          ap (λ (l : Option (List Element)). option_and_then (codec.decode_list level) l) (sym held) ∙ (decodes ∙ is)

      off : (s a : Bool) → false ≡ (s || a) → s ≡ false
      off true a e = cc
      off false a e = refl

      differ : {P : Type 0} → true ≡ false → P
      differ e = cc

      go : (ys list : List Element) → list_at below encoded ≡ Some ys → codec.decode_list level ys ≡ Some list →
          true ≡ is_kept under element list → (b : Bool) → is_kept under element_below ys ≡ b →
          is_kept under element_below ys ≡ is_kept under element list
      go ys list held same kept true e = e ∙ kept
      go ys list held same kept false e =
          let long = length-meaning (kind_of below.data_type) (count_of below.shape) encoded ys held in
          let empty : fills below (fill_below level.data_type fill) ≡ Some ys =
          dropped_list below (fill_below level.data_type fill) under ys long (sym e) in
          let ups : fills level fill ≡ Some list = own_fills ∙ (sym facts.decodes ∙ (ap (λ (l : Option (List Element)).
          option_and_then (codec.decode_list level) l) (sym below_fills ∙ empty) ∙ same)) in
          differ (kept ∙ filled_list level fill under list ups (off under.store_empty_chunks _ (sym e)))

-- the same of calls, where the fill value denotes an element
module _ (codec : ArrayCodec) (fill_below : DataType → List ℕ → List ℕ) (level : Level) (fill : List ℕ)
    (under : Options) (bytes : ArrayBytes) (r : Result code.ArrayBytes CodecError)
    (facts : IsSome (fill_element (kind_of level.data_type) fill) → IsFilled codec fill_below level fill) where
  abbrev Hands : code.ArrayBytes → Type 0
  Hands v = HandsOn codec level fill (fill_below level.data_type fill) under bytes (raw_of v)

  -- what is handed on is so where the fill value denotes an element, and else nothing is said
  hands_if : (encoded : ArrayBytes) → (IsSome (fill_element (kind_of level.data_type) fill) →
      HandsOn codec level fill (fill_below level.data_type fill) under bytes encoded) →
      HandsOn codec level fill (fill_below level.data_type fill) under bytes encoded
  hands_if encoded hands = record {
    decodes = λ list there is. (hands there).decodes list there is;
    kept = λ list ys there is held. (hands there).kept list ys there is held;
    short = λ there few long. (hands there).short there few long;
  }

  pub hands_filled : ((list : List Element) → IsSome (fill_element (kind_of level.data_type) fill) →
      list_at level bytes ≡ Some list → false ≡ is_kept under (fill_element (kind_of level.data_type) fill) list)
      → (IsSome (fill_element (kind_of level.data_type) fill) → IfOk r (λ v. list_at (codec.level_below level)
      (raw_of v) ≡ Some (replicate (count_of (codec.level_below level).shape) (codec.level_below level).fill)))
      → (IsSome (fill_element (kind_of level.data_type) fill) → is_short level fill ≡ true →
      IfOk r (λ v. has_long_element (raw_of v) ≡ false)) → IfOk r Hands
  hands_filled dropped means short = go r means short
    where
      go : (q : Result code.ArrayBytes CodecError) →
          (IsSome (fill_element (kind_of level.data_type) fill) → IfOk q (λ v. list_at (codec.level_below level)
          (raw_of v) ≡ Some (replicate (count_of (codec.level_below level).shape) (codec.level_below level).fill)))
          → (IsSome (fill_element (kind_of level.data_type) fill) → is_short level fill ≡ true →
          IfOk q (λ v. has_long_element (raw_of v) ≡ false)) → IfOk q Hands
      go (Ok v) means short = hands_if (raw_of v) (λ there. hands_fill codec fill_below level fill (facts there) under
          bytes (raw_of v) dropped (means there) (short there))
      go (Err e) means short = tt

  pub hands_given : ((list : List Element) → IsSome (fill_element (kind_of level.data_type) fill) →
      list_at level bytes ≡ Some list → true ≡ is_kept under (fill_element (kind_of level.data_type) fill) list)
      → IfOk r (λ v. option_and_then (codec.decode_list level) (list_at (codec.level_below level) (raw_of v)) ≡ list_at
      level bytes) → (has_long_element bytes ≡ false → IfOk r (λ v. has_long_element (raw_of v) ≡ false)) → IfOk r Hands
  hands_given stored decodes short = go r decodes short
    where
      go : (q : Result code.ArrayBytes CodecError) → IfOk q (λ v. option_and_then (codec.decode_list level)
          (list_at (codec.level_below level) (raw_of v)) ≡ list_at level bytes)
          → (has_long_element bytes ≡ false → IfOk q (λ v. has_long_element (raw_of v) ≡ false)) → IfOk q Hands
      go (Ok v) decodes short = hands_if (raw_of v)
          (λ there. hands_encoded codec fill_below level fill (facts there) under bytes (raw_of v) stored decodes short)
      go (Err e) decodes short = tt

module _ (codec : ArrayCodec) (fill_below : DataType → List ℕ → List ℕ) (level : Level) (fill : List ℕ)
    (unserved : Option Unserved) (region_below : List ℕ → Region → Region) where
  abbrev see : ListSeen → ListSeen
  see below = list_raised level fill unserved codec region_below below

  -- what is held below is held above
  holds_above : (stored : Bool) (ys list : List Element) (new : ListSeen) → codec.decode_list level ys ≡ Some list →
      HoldsList stored (Some ys) new → HoldsList stored (Some list) (see new)
  holds_above stored ys list new decodes holds = record {
    there = holds.there;
    list = λ under.
        ap (λ (l : Option (List Element)). option_and_then (codec.decode_list level) l) (holds.list under) ∙ decodes;
  }

  same_above : (old new : ListSeen) → SameList old new → SameList (see old) (see new)
  same_above old new same = record {
    there = same.there;
    list =
        λ under. ap (λ (l : Option (List Element)). option_and_then (codec.decode_list level) l) (same.list under);
  }

  pub puts_above : {T : Type 0} (stored : Bool) (ys list : List Element)
      (old new : ListSeen) (result : Result T CodecError) → codec.decode_list level ys ≡ Some list
      → PutsList stored ys old new result → PutsList stored list (see old) (see new) result
  puts_above stored ys list old new result decodes puts = record {
    ok = on_ok_weaker result (λ (h : HoldsList stored (Some ys) new). holds_above stored ys list new decodes h) puts.ok;
    failed = on_err_weaker result (λ case. ⊎_elim (λ (same : SameList old new). inl (same_above old new same))
        (λ (more : IsAbsent new ⊎ HoldsStored stored ys new). inr (⊎_elim (λ (a : IsAbsent new). inl a)
        (λ (h : HoldsStored stored ys new). inr (stored_above stored h)) more)) case) puts.failed;
  }
    where
      stored_above : (b : Bool) → HoldsStored b ys new → HoldsStored b list (see new)
      stored_above false holds = absurd holds
      stored_above true holds = holds_above true ys list new decodes holds

  pub erases_above : {T : Type 0} (old new : ListSeen) (result : Result T CodecError) → ErasesList old new result →
      ErasesList (see old) (see new) result
  erases_above old new result erases = record {
    ok = erases.ok;
    failed = on_err_weaker result (λ case. ⊎_elim (λ (same : SameList old new). inl (same_above old new same))
        (λ (a : IsAbsent new). inr a) case) erases.failed;
  }

  pub rest_above : (old new : ListSeen) → KeepsRest old new → KeepsRest (see old) (see new)
  rest_above old new rest = record {
    level = refl;
    fill = refl;
    short = ap (λ (b : Bool). is_short level fill && b) rest.short;
    unserved = ap (λ (b : Option Refused). first_unserved unserved b (fill_element (kind_of level.data_type) fill))
        rest.unserved;
    others = rest.others;
    key = rest.key;
    place = rest.place;
    cost = rest.cost;
    whole = λ asked. rest.whole _;
    later = rest.later;
  }

  pub stays_above : (old new : ListSeen) → StaysList old new → StaysList (see old) (see new)
  stays_above old new stays = let same = same_above old new (record { there = stays.there; list = stays.list }) in
      record { there = stays.there; list = same.list; content = stays.content }

  -- nothing is read where all elements are given
  unasked_of : {T : Type 0} (old new : ListSeen) (result : Result T CodecError) → Rewrites false old new result →
      UnaskedList old new
  unasked_of old new (Ok v) rewrites = record { asks = rewrites.asks; taken = rewrites.taken }
  unasked_of old new (Err e) rewrites = record { asks = rewrites.asks_err; taken = rewrites.taken_err }

-- what is given below is what is encoded
given_of : (decode : List Element → Option (List Element)) (o : Option (List Element)) (list : List Element) →
    option_and_then decode o ≡ Some list → (ys : List Element) × ((o ≡ Some ys) × (decode ys ≡ Some list))
given_of decode None list is = cc
given_of decode (Some ys) list is = (ys, (refl, is))

told_above : {T : Type 0} (before now : ℕ) (decode : List Element → Option (List Element))
    (unencoded : List Element → CodecError → Type 0) (ys list : List Element) (r : Result T CodecError) →
    decode ys ≡ Some list → IfErr r (λ e. IsHandleError before now e ⊎ unencoded ys e)
    → IfErr r (λ e. IsHandleError before now e ⊎ IsUnencodedBelow decode unencoded list e)
told_above before now decode unencoded ys list (Ok v) decodes told = tt
told_above before now decode unencoded ys list (Err e) decodes told =
    ⊎_elim (λ (h : IsHandleError before now e). inl h) (λ (u : unencoded ys e).
    let b : IsUnencodedBelow decode unencoded list e = record { below = ys; decodes = decodes; told = u } in inr b) told

taken_above : {T : Type 0} (decode : List Element → Option (List Element)) (takes : List Element → Type 0)
    (ys list : List Element) (r : Result T CodecError) → decode ys ≡ Some list → OnOk r (takes ys) →
    OnOk r (IsEncodedBelow decode takes list)
taken_above decode takes ys list (Ok v) decodes taken = let b : IsEncodedBelow decode takes list =
    record { below = ys; decodes = decodes; taken = taken } in b
taken_above decode takes ys list (Err e) decodes taken = tt

-- a change below that all elements are given to
pub record PutsAll {T : Type 0} (under : Options) (unencoded : List Element → CodecError → Type 0)
    (takes : List Element → Type 0) (Short : Type 0) (bytes : ArrayBytes) (given : Option (List Element))
    (old new : ListSeen) (result : Result T CodecError) : Type 0 where
  pub puts : (ys : List Element) → old.unserved ≡ None → given ≡ Some ys →
      PutsList (is_stored under old ys) ys old new result
  pub unserved : IsSome old.unserved → IsRefused old new result
  pub rewrites : Rewrites false old new result
  pub cause : (ys : List Element) → old.unserved ≡ None → given ≡ Some ys →
      IfErr result (λ e. IsHandleError old.shown.faults new.shown.faults e ⊎ unencoded ys e)
  pub taken : (ys : List Element) → old.unserved ≡ None → given ≡ Some ys → OnOk result (takes ys)
  pub encoded : (ys : List Element) → old.unserved ≡ None → old.short ≡ true → Short → has_long_element bytes ≡ false →
      given ≡ Some ys → IfErr result (IsHandleError old.shown.faults new.shown.faults)
  pub fault : IfErr result (TellsFault old.shown.faults new.shown.faults)

module _ {T : Type 0} (under : Options) (tells : CodecError → Type 0) (unencoded : List Element → CodecError → Type 0)
    (takes : List Element → Type 0) (Short : Type 0) (indices : List ℕ)
    (number : ℕ) (bytes : ArrayBytes) (old new : ListSeen) (result : Result T CodecError) where
  told_all : (ys : List Element) (r : Result T CodecError) →
      IfErr r (λ e. IsHandleError old.shown.faults new.shown.faults e ⊎ (⊥ ⊎ unencoded ys e)) →
      IfErr r (λ e. IsHandleError old.shown.faults new.shown.faults e ⊎ unencoded ys e)
  told_all ys (Ok v) told = tt
  told_all ys (Err e) told = ⊎_elim (λ (h : IsHandleError old.shown.faults new.shown.faults e). inl h)
      (λ (m : ⊥ ⊎ unencoded ys e). inr (⊎_elim (λ (no : ⊥). absurd no) (λ (u : unencoded ys e). u) m)) told

  told_short : (r : Result T CodecError) → IfErr r (λ e. IsHandleError old.shown.faults new.shown.faults e ⊎ ⊥) →
      IfErr r (IsHandleError old.shown.faults new.shown.faults)
  told_short (Ok v) told = tt
  told_short (Err e) told =
      ⊎_elim (λ (h : IsHandleError old.shown.faults new.shown.faults e). h) (λ (no : ⊥). absurd no) told

  pub puts_all : (all fits : Bool) → all ≡ true → fits ≡ true →
      Updates under (record { all = all; fits = fits; indices = indices; number = number; bytes = bytes }) tells
      unencoded takes Short old new result
      → PutsAll under unencoded takes Short bytes (meaning (kind_of old.level.data_type) number bytes) old new result
  puts_all true true is fit updates = record {
    puts = λ ys served means. updates.puts ys served means;
    unserved = updates.unserved;
    rewrites = updates.rewrites;
    cause = λ ys served means. told_all ys result (updates.cause ys served refl means);
    taken = λ ys served means. updates.taken ys served means;
    encoded = λ ys served few short_takes short means.
        told_short result (updates.encoded ys served few short_takes short refl means);
    fault = updates.fault;
  }
  puts_all true false is fit updates = cc
  puts_all false fits is fit updates = cc

-- all elements below were given what these are encoded to
module _ (codec : ArrayCodec) (fill_below : DataType → List ℕ → List ℕ) (level : Level) (fill : List ℕ)
    (unserved : Option Unserved) (region_below : List ℕ → Region → Region) where
  abbrev shown : ListSeen → ListSeen
  shown below = list_raised level fill unserved codec region_below below

  pub stores_above : {T : Type 0}
      (under : Options) (bytes encoded : ArrayBytes) (number : ℕ) (unencoded : List Element → CodecError → Type 0)
      (takes : List Element → Type 0) (Short : Type 0) (old new : ListSeen) (result : Result T CodecError)
      → unserved ≡ None → IsSome (fill_element (kind_of level.data_type) fill) → IsBelow codec fill_below level fill
      old → HandsOn codec level fill (fill_below level.data_type fill) under bytes encoded
      → meaning (kind_of old.level.data_type) number encoded ≡ list_at (codec.level_below level) encoded
      →
      PutsAll under unencoded takes Short encoded (meaning (kind_of old.level.data_type) number encoded) old new result
      → Stores under bytes (IsUnencodedBelow (codec.decode_list level) unencoded)
      (IsEncodedBelow (codec.decode_list level) takes) Short (shown old) (shown new) result
  stores_above under bytes encoded number unencoded takes Short old new result own filled is hands same puts =
      let decode = codec.decode_list level in
      let given = meaning (kind_of old.level.data_type) number encoded in
      let unasked = unasked_of codec fill_below level fill unserved region_below old new result puts.rewrites in
      let decodes = (λ (list : List Element) (means : list_at level bytes ≡ Some list).
      ap (λ (o : Option (List Element)). option_and_then decode o) same ∙ hands.decodes list filled means) in
      let put =
      (λ (list : List Element) (served : (shown old).unserved ≡ None) (means : list_at level bytes ≡ Some list).
      let g = given_of decode given list (decodes list means) in
      let stored = stored_same old under g.0 is ∙ hands.kept list g.0 filled means (sym same ∙ g.1.0) in
      subst (λ (b : Bool). PutsList b list (shown old) (shown new) result) stored
      (puts_above codec fill_below level fill unserved region_below (is_stored under old g.0) g.0 list old new result
      g.1.1 (puts.puts g.0 (below_served _ _ _ served) g.1.0))) in
      record {
        puts = λ list served means. put list served means;
        left = λ list served means. (put list served means).failed;
        unserved = λ some.
            let refused = puts.unserved (unserved_below unserved old.unserved
            (fill_element (kind_of level.data_type) fill) own filled some) in
            record {
              err = refused.err;
              stays = stays_above codec fill_below level fill unserved region_below old new refused.stays;
            };
        unchanged = unless result (stays_above codec fill_below level fill unserved region_below old new)
            puts.rewrites.unchanged;
        rest = rest_above codec fill_below level fill unserved region_below old new puts.rewrites.rest;
        unasked = record { asks = unasked.asks; taken = unasked.taken };
        cause = λ list served means.
            let g = given_of decode given list (decodes list means) in
            told_above _ _ decode unencoded g.0 list result g.1.1 (puts.cause g.0 (below_served _ _ _ served) g.1.0);
        taken = λ list served means.
            let g = given_of decode given list (decodes list means) in
            taken_above decode takes g.0 list result g.1.1 (puts.taken g.0 (below_served _ _ _ served) g.1.0);
        encoded = λ served few short_takes there short. some_given (list_at level bytes) there
            (λ list means. let g = given_of decode given list (decodes list means) in
            puts.encoded g.0 (below_served _ _ _ served) (below_short _ _ few) short_takes
            (hands.short filled (own_short _ _ few) short) g.1.0);
        fault = puts.fault;
      }
    where
      -- what is stored below, as the codec has it
      stored_same : (seen : ListSeen) (under : Options) (ys : List Element) → IsBelow codec fill_below level fill seen
          → is_stored under seen ys ≡ is_kept under
          (fill_element (kind_of (codec.level_below level).data_type) (fill_below level.data_type fill)) ys
      stored_same seen under ys is = ap₂ (λ (k : Kind) (f : List ℕ). is_kept under (fill_element k f) ys)
          (same_kind codec fill_below level fill seen is) is.fill
