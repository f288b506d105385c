-- The list that is held, by cases.
use Rattle.std.proofs.Common.{◌≡◌, ◌⊎◌, ℕ, Bool, true, false, is_some, if◌then◌else◌, List, [], ◌∷◌}
use Rattle.std.proofs.Common.{length, replicate, Option, Some, None, IsSome, option_map, Result, Ok, Err, IfOk}
use Rattle.std.proofs.Common.{IfErr, OnOk, MatchResult, refl, sym, ap, ap₂, ◌∙◌, subst, arith, inl, inr, ⊎_elim}
use Rattle.std.proofs.Math.Path.{fun_ext}
use Rattle.std.proofs.lemmas.Bool.{le-leb}
use Rattle.zarrs_codec_traits.specs.Prelude.{Region, count, count_of, ends_within, has_size}
use Rattle.zarrs_codec_traits.specs.Prelude.{filled_with, meaning, Level, Options, has_long_element}
use Rattle.zarrs_codec_traits.specs.Prelude.{is_valid, slice_of, slices_of, first_invalid, raw_of, BytesAnswer, fine}
use Rattle.zarrs_codec_traits.specs.Prelude.{told_by, other_fill, Answers, fill_answer, Unserved}
use Rattle.zarrs_codec_traits.specs.Prelude.{IsDecodeError, RefusesAs, list_at, at_box, select, Gives, Held, Seen}
use Rattle.zarrs_codec_traits.specs.Prelude.{IsSoundSeen, value_part}
use Rattle.zarr_model.specs.Element.{Element, kind_of, fill_element}
use Rattle.zarrs_codec_slices.proofs.FilledLaws.{filled_valid}
use Rattle.zarr_model.proofs.Choices.{some_now}
use Rattle.zarrs_storage.specs.declared.byte_range.ByteRange.{ByteRange}
use Rattle.zarrs_storage.specs.declared.byte_range.ByteRange.TheVariants.{FromStart}
use Rattle.zarrs_codec_error.specs.declared.error.CodecError.{CodecError}
use Rattle.zarrs_codec_error.specs.declared.error.CodecError.TheVariants as codec
use Rattle.zarrs_codec_array_bytes.specs.declared.array_bytes.ArrayBytes as code
use Rattle.zarrs_codec_array_bytes.proofs.ToldLaws.{says_some}
use Rattle.zarrs_codec_traits.specs.Parts as parts
use Rattle.zarrs_codec_traits.specs.Parts.{part_lengths_answer}
use Rattle.zarrs_codec_traits.proofs.SelectLaws.{select-replicate}
use Rattle.zarrs_codec_traits.specs.Reads.{Keeps, Looks, ReadsRanges, GivesParts, AreParts, RefusesSome, IsHandleError}
use Rattle.zarrs_codec_traits.specs.Reads.{IsReadError, IsPartError}
use Rattle.zarrs_codec_traits.proofs.PartLaws.{as_many}
use Rattle.zarrs_codec.specs.Lists.{fills, IsListError, KeepsList, LooksAt, ReadsList}
use Rattle.zarrs_codec.proofs.SliceLaws.{parts_sliced}
use Rattle.zarrs_codec_partial_elements.specs.Level.{list_of, found, held_in, IsPartRefused, IsOtherFill, undecoded}
use Rattle.zarrs_codec_partial_elements.specs.Level.{parts_say, ranges_say, own_says, level_says, ranges_for, listed}
use Rattle.zarrs_codec.specs.Selects.{every, boxed}
use Rattle.zarrs_codec_partial_elements.specs.Boxes.{Denotes, IsShort, GivesElements}

-- one half of an answer
ok_of : {T : Type 0} (P : T → Type 0) (Q : CodecError → Type 0) (r : Result T CodecError) → MatchResult r P Q → IfOk r P
ok_of P Q (Ok v) holds = holds
ok_of P Q (Err e) holds = tt

weaker : {T : Type 0} (P Q : T → Type 0) (r : Result T CodecError) → ((v : T) → P v → Q v) → IfOk r P → IfOk r Q
weaker P Q (Ok v) f p = f v p
weaker P Q (Err e) f p = tt

pub weaker_err : {T : Type 0} (P Q : CodecError → Type 0) (r : Result T CodecError) → ((e : CodecError) → P e → Q e) →
    IfErr r P → IfErr r Q
weaker_err P Q (Ok v) f p = tt
weaker_err P Q (Err e) f p = f e p

pub err_of : {T : Type 0} (P : T → Type 0) (Q : CodecError → Type 0) (r : Result T CodecError) → MatchResult r P Q →
    IfErr r Q
err_of P Q (Ok v) holds = tt
err_of P Q (Err e) holds = holds

-- the fill, where it denotes an element
filled_by : (element : Option Element) (n : ℕ) (xs : List Element) → option_map (replicate n) element ≡ Some xs →
    (x : Element) × ((element ≡ Some x) × (replicate n x ≡ xs))
filled_by None n xs e = cc
filled_by (Some x) n xs e = let same : replicate n x ≡ xs = cc in (x, (refl, same))

sized : {T : Type 0} (b : Bool) (v : T) → Answers (fill_answer b) (Ok v) → b ≡ true
sized true v answers = refl
sized false v answers = cc

-- what is made of any fill value is valid
made_valid : (level : Level) (fill : List ℕ) (r : Result code.ArrayBytes CodecError) →
    Answers (fill_answer (has_size (kind_of level.data_type) fill)) r
    → IfOk r (λ v. raw_of v ≡ filled_with (kind_of level.data_type) (count_of level.shape) fill) →
    IfOk r (λ v. IsSome (list_at level (raw_of v)))
made_valid level fill (Ok v) answers is =
    let means = filled_valid (kind_of level.data_type) (count_of level.shape) fill (sized _ v answers) in
    some_now _ _ (ap (list_at level) is ∙ means.is)
made_valid level fill (Err e) answers is = tt

pub fill_all : (level : Level) (fill : List ℕ) (r : Result code.ArrayBytes CodecError)
    → Answers (fill_answer (has_size (kind_of level.data_type) fill)) r →
    IfOk r (λ v. raw_of v ≡ filled_with (kind_of level.data_type) (count_of level.shape) fill)
    → ((x : Element) → fill_element (kind_of level.data_type) fill ≡ Some x →
    IfOk r (λ v. list_at level (raw_of v) ≡ Some (replicate (count_of level.shape) x)))
    → (IsShort level fill → IfOk r (λ v. has_long_element (raw_of v) ≡ false)) →
    GivesElements (every level) level fill (fills level fill) r
fill_all level fill r answers made filled short = record {
  value = λ xs e. let by = filled_by _ _ xs e in weaker _ _ r (λ v is. is ∙ ap Some by.1.1) (filled by.0 by.1.0);
  valid = made_valid level fill r answers made;
  short = short;
}

-- why a fill is refused
pub fill_told : {T : Type 0} (level : Level) (fill : List ℕ) (r : Result T CodecError) →
    Answers (fill_answer (has_size (kind_of level.data_type) fill)) r →
    IfErr r (λ e. (e ≡ codec.OutOfMemory) ⊎ IsOtherFill level fill e)
fill_told level fill (Ok v) answers = tt
fill_told level fill (Err e) answers = go (has_size (kind_of level.data_type) fill) refl answers
  where
    go : (b : Bool) → has_size (kind_of level.data_type) fill ≡ b →
        (e ≡ codec.OutOfMemory) ⊎ (told_by e ≡ fill_answer b) → (e ≡ codec.OutOfMemory) ⊎ IsOtherFill level fill e
    go true is told =
        ⊎_elim (λ (m : e ≡ codec.OutOfMemory). inl m) (λ (t : told_by e ≡ fine). absurd (says_some e t)) told
    go false is told = ⊎_elim (λ (m : e ≡ codec.OutOfMemory). inl m) (λ (t : told_by e ≡ other_fill). inr (is, t)) told

pub fill_part : (level : Level) (fill : List ℕ) (box : Region) (r : Result code.ArrayBytes CodecError) →
    ends_within box level.shape ≡ true
    → Answers (fill_answer (has_size (kind_of level.data_type) fill)) r →
    IfOk r (λ v. raw_of v ≡ filled_with (kind_of level.data_type) (count box) fill)
    → ((x : Element) → fill_element (kind_of level.data_type) fill ≡ Some x →
    IfOk r (λ v. meaning (kind_of level.data_type) (count box) (raw_of v) ≡ Some (replicate (count box) x)))
    → (IsShort level fill → IfOk r (λ v. has_long_element (raw_of v) ≡ false)) →
    GivesElements (boxed box level) level fill (fills level fill) r
fill_part level fill box r inside answers made filled short = record {
  value = λ xs e. let by = filled_by _ _ xs e in
      weaker _ _ r (λ v is. is ∙ ap Some
      (sym (select-replicate level.shape box by.0 inside) ∙ ap (select level.shape box) by.1.1)) (filled by.0 by.1.0);
  valid = made_valid (at_box box level) fill r answers made;
  short = short;
}

module _ (level : Level) (fill : List ℕ) (decode : List ℕ → Option (List Element)) (absent : Option (List Element))
    (held : Held) where
  pub all_of_value : (value : List ℕ) (Q : CodecError → Type 0) (r : Result code.ArrayBytes CodecError) →
      held ≡ Some (Some value) → MatchResult r (λ v. Gives (list_at level (raw_of v)) (decode value)) Q
      → IfOk r (λ v. has_long_element (raw_of v) ≡ false) →
      GivesElements (every level) level fill (list_of decode absent held) r
  all_of_value value Q r is gives short =
      let ok = ok_of _ Q r gives in
      record {
        value = λ xs e. weaker _ _ r (λ v given. given.same ∙ (sym (ap (list_of decode absent) is) ∙ e)) ok;
        valid = weaker _ _ r (λ v given. given.there) ok;
        short = λ few. short;
      }

  pub box_of_value : (box : Region) (value : List ℕ) (r : Result code.ArrayBytes CodecError) → held ≡ Some (Some value)
      → ((xs : List Element) → decode value ≡ Some xs → MatchResult r
      (λ v. list_at (at_box box level) (raw_of v) ≡ Some (select level.shape box xs)) (λ e. e ≡ codec.OutOfMemory))
      → IfOk r (λ v. IsSome (list_at (at_box box level) (raw_of v))) → IfOk r (λ v.
      has_long_element (raw_of v) ≡ false) → GivesElements (boxed box level) level fill (list_of decode absent held) r
  box_of_value box value r is gives valid short = record {
    value = λ xs e. ok_of _ _ r (gives xs (sym (ap (list_of decode absent) is) ∙ e));
    valid = valid;
    short = λ few. short;
  }

  pub box_of_broken : (box : Region) (r : Result code.ArrayBytes CodecError) → held ≡ None
      → IfOk r (λ v. IsSome (list_at (at_box box level) (raw_of v))) → IfOk r (λ v.
      has_long_element (raw_of v) ≡ false) → GivesElements (boxed box level) level fill (list_of decode absent held) r
  box_of_broken box r is valid short = record {
    value = λ xs e. absurd (none (sym (ap (list_of decode absent) is) ∙ e));
    valid = valid;
    short = λ few. short;
  }
    where
      none : {A : Type 0} {x : A} → None ≡ Some x → ⊥
      none e = cc

module _ (level : Level) (fill : List ℕ) (decode : List ℕ → Option (List Element)) (says : List ℕ → CodecError → Type 0)
    (tells : Option (List ByteRange) → CodecError → Type 0)
    (below : Seen) (under : Options) (asked : Option (List ByteRange)) (before now : ℕ) where
  abbrev Fails : CodecError → Type 0
  Fails e = IsListError below.there (list_of decode (fills level fill) (held_in below under))
      (level_says level fill decode says tells below under asked) before now e

  abbrev Own : Held → CodecError → Type 0
  Own h e =
      own_says level fill says (ranges_say level fill (undecoded decode says) below.there (below.part under) asked) h e

  none_found : below.held under ≡ None →
      (list_of decode (fills level fill) (held_in below under) ≡ None) ⊎ (below.there ≡ false)
  none_found is = go below.there refl
    where
      go : (b : Bool) → below.there ≡ b →
          (list_of decode (fills level fill) (held_in below under) ≡ None) ⊎ (below.there ≡ false)
      go true here = inl (ap₂ (λ (t : Bool) (h : Held). list_of decode (fills level fill) (found t h)) here is)
      go false gone = inr gone

  value_found : (value : List ℕ) → below.held under ≡ Some (Some value) →
      list_of decode (fills level fill) (held_in below under) ≡ decode value
  value_found value is = ap (λ (h : Held). list_of decode (fills level fill) (found below.there h)) is

  -- what was asked for is refused
  is_refused : {e : CodecError} (other : Option (List ByteRange)) → asked ≡ other →
      IsPartRefused (below.held under) (below.part under) other × tells other e →
      IsPartRefused (below.held under) (below.part under) asked × tells asked e
  is_refused {e} other is refuses = subst (λ (a : Option (List ByteRange)).
      IsPartRefused (below.held under) (below.part under) a × tells a e) (sym is) refuses

  pub read_fails : asked ≡ None → (e : CodecError) → IsReadError (below.held under) (tells None) before now e → Fails e
  read_fails whole e told = ⊎_elim (λ (h : IsHandleError before now e). inl h)
      (λ (none : (below.held under ≡ None) × tells None e). inr (none_found none.0, inl (is_refused None whole none)))
      told

  pub value_fails : (value : List ℕ) (e : CodecError) → below.held under ≡ Some (Some value) →
      IsDecodeError (decode value) (says value) e → Fails e
  value_fails value e is told = ⊎_elim (λ (m : e ≡ codec.OutOfMemory). inl (inl m))
      (λ (none : (decode value ≡ None) × says value e).
      inr (inl (value_found value is ∙ none.0), inr (subst (λ (h : Held). Own h e) (sym is) none.1))) told

  pub value_fails_if : {T : Type 0} (value : List ℕ) (r : Result T CodecError) → below.held under ≡ Some (Some value) →
      IfErr r (IsDecodeError (decode value) (says value)) → IfErr r Fails
  value_fails_if value r is told = weaker_err _ _ r (λ e t. value_fails value e is t) told

  pub value_fails_by : {T : Type 0} (value : List ℕ) (P : T → Type 0) (r : Result T CodecError) →
      below.held under ≡ Some (Some value) → MatchResult r P (IsDecodeError (decode value) (says value)) → IfErr r Fails
  value_fails_by value P r is told = value_fails_if value r is (err_of P _ r told)

  pub broken_fails : (e : CodecError) → below.held under ≡ None → (e ≡ codec.OutOfMemory) ⊎
      ranges_say level fill (undecoded decode says) below.there (below.part under) asked e → Fails e
  broken_fails e is (inl memory) = inl (inl memory)
  broken_fails e is (inr why) = inr (none_found is, inr (subst (λ (h : Held). Own h e) (sym is) why))

  -- ranges that are refused of a value that decodes are not all valid for it
  pub parts_fail : (ranges : List ByteRange) (e : CodecError) → asked ≡ Some ranges → ((value : List ℕ) → below.held
      under ≡ Some (Some value) → (range : ByteRange) → below.part under range ≡ value_part (Some value) range)
      → ((value : Option (List ℕ)) → below.held under ≡ Some value → is_some value ≡ below.there) →
      ((value : List ℕ) → ¬ (first_invalid (length value) ranges ≡ None) → decode value ≡ None)
      → IsPartError (below.part under) ranges (tells (Some ranges)) before now e → Fails e
  parts_fail ranges e some whole all asks told =
      ⊎_elim (λ (h : IsHandleError before now e). inl h)
      (λ (r : RefusesSome (below.part under) ranges × tells (Some ranges) e).
      inr (go (below.held under) refl r.0, inl (is_refused (Some ranges) some r))) told
    where
      refused : (value : List ℕ) (ranges : List ByteRange) →
          ((range : ByteRange) → below.part under range ≡ value_part (Some value) range) →
          RefusesSome (below.part under) ranges → ¬ (first_invalid (length value) ranges ≡ None)
      refused value [] same refuses =
          λ none. given (sym (refuses (FromStart 0 None)) ∙ (same (FromStart 0 None) ∙ ap (λ (b : Bool).
          if b then Some (Some (slice_of (FromStart 0 None) value)) else None) (le-leb 0 (length value) (omega arith))))
        where
          given : {A : Type 0} {x : A} → None ≡ Some x → ⊥
          given e = cc
      refused value (range ∷ ranges) same refuses = λ none.
          let s = split (is_valid range (length value)) range (first_invalid (length value) ranges) none in
          ⊎_elim (λ (is : below.part under range ≡ None).
          given (sym is ∙ (same range ∙ ap (λ (b : Bool). if b then Some (Some (slice_of range value)) else None) s.0)))
          (λ (more : RefusesSome (below.part under) ranges). refused value ranges same more s.1) refuses
        where
          given : {A : Type 0} {x : A} → None ≡ Some x → ⊥
          given e = cc

          split : (b : Bool) (range : ByteRange) (rest : Option ByteRange) → (if b then rest else Some range) ≡ None →
              (b ≡ true) × (rest ≡ None)
          split true range rest e = (refl, e)
          split false range rest e = cc

      go : (h : Held) → below.held under ≡ h → RefusesSome (below.part under) ranges →
          (list_of decode (fills level fill) (held_in below under) ≡ None) ⊎ (below.there ≡ false)
      go None is refuses = none_found is
      go (Some None) is refuses = inr (sym (all None is))
      go (Some (Some value)) is refuses =
          inl (value_found value is ∙ asks value (refused value ranges (whole value is) refuses))

-- as many parts as are asked for
pub asked_answer : (part : ByteRange → Held) (request : Option (List ByteRange)) (ranges : List ByteRange)
    (given : List (List ℕ)) → request ≡ Some ranges → AreParts part ranges given → parts.IsAnswer request given
asked_answer part request ranges given some are =
    subst (λ (r : Option (List ByteRange)). parts.IsAnswer r given) (sym some) (as_many part ranges given are)

never : true ≡ false → ⊥
never e = cc

module _ (level : Level) (fill : List ℕ) (decode : List ℕ → Option (List Element)) (absent : Option (List Element))
    (held : Held) (there : Bool) (all : (value : Option (List ℕ)) → held ≡ Some value → is_some value ≡ there) where
  pub list_absent : there ≡ false → list_of decode absent (found there held) ≡ absent
  list_absent gone = go held refl
    where
      go : (h : Held) → held ≡ h → list_of decode absent (found there held) ≡ absent
      go None is = ap (list_of decode absent) (ap₂ found gone is)
      go (Some None) is = ap (list_of decode absent) (ap (found there) is)
      go (Some (Some value)) is = absurd (never (all (Some value) is ∙ gone))

  module _ (part : ByteRange → Held) (ranges : List ByteRange) (given : List (List ℕ)) (whole : (value : List ℕ) →
      held ≡ Some (Some value) → (range : ByteRange) → part range ≡ value_part (Some value) range)
      (are : AreParts part ranges given) (here : there ≡ true) where
    pub box_of_parts : (box : Region) (r : Result code.ArrayBytes CodecError)
        → ((value : List ℕ) (xs : List Element) → given ≡ slices_of ranges value → decode value ≡ Some xs → MatchResult
        r (λ v. list_at (at_box box level) (raw_of v) ≡ Some (select level.shape box xs)) (λ e. e ≡ codec.OutOfMemory))
        → IfOk r (λ v. IsSome (list_at (at_box box level) (raw_of v))) → IfOk r (λ v. has_long_element (raw_of v) ≡
        false) → GivesElements (boxed box level) level fill (list_of decode absent (found there held)) r
    box_of_parts box r gives valid short = go held refl
      where
        go : (h : Held) → held ≡ h →
            GivesElements (boxed box level) level fill (list_of decode absent (found there held)) r
        go None is = box_of_broken level fill decode absent (found there held) box r (ap₂ found here is) valid short
        go (Some None) is = absurd (never (sym here ∙ sym (all None is)))
        go (Some (Some value)) is =
            box_of_value level fill decode absent (found there held) box value r (ap (found there) is)
            (λ xs e. gives value xs (parts_sliced part ranges value given (whole value is) are).slices e) valid short

-- memory ran out, or it did not
abbrev is_memory : CodecError → Bool
is_memory codec.OutOfMemory = true
is_memory _ = false

memory_or : (e : CodecError) → (e ≡ codec.OutOfMemory) ⊎ (is_memory e ≡ false)
memory_or codec.OutOfMemory = inl refl
memory_or _ = inr refl

no_memory : {P : Type 0} (e : CodecError) → is_memory e ≡ false → e ≡ codec.OutOfMemory → P
no_memory e other is = absurd (never (sym (ap is_memory is) ∙ other))

-- what is told of parts, by their lengths and by every value that has them
pub parts_told : (decode : List ℕ → Option (List Element)) (says : List ℕ → CodecError → Type 0)
    (ranges : List ByteRange) (given : List (List ℕ)) (e : CodecError) →
    RefusesAs {T = code.ArrayBytes} (part_lengths_answer ranges given) (Err e)
    → ((value : List ℕ) → given ≡ slices_of ranges value → part_lengths_answer ranges given ≡ fine →
    IsDecodeError (decode value) (says value) e) →
    (e ≡ codec.OutOfMemory) ⊎ parts_say (undecoded decode says) ranges given (part_lengths_answer ranges given) e
parts_told decode says ranges given e lengths cause =
    go (part_lengths_answer ranges given) lengths (λ value are long. cause value are long)
  where
    said : is_memory e ≡ false → (value : List ℕ) → IsDecodeError (decode value) (says value) e →
        undecoded decode says value e
    said other value why = ⊎_elim (λ (m : e ≡ codec.OutOfMemory). no_memory e other m)
        (λ (s : (decode value ≡ None) × says value e). s) why

    go : (told : BytesAnswer) → RefusesAs {T = code.ArrayBytes} told (Err e) → ((value : List ℕ) →
        given ≡ slices_of ranges value → told ≡ fine → IsDecodeError (decode value) (says value) e) →
        (e ≡ codec.OutOfMemory) ⊎ parts_say (undecoded decode says) ranges given told e
    go fine refuses cause =
        ⊎_elim (λ (m : e ≡ codec.OutOfMemory). inl m)
        (λ (other : is_memory e ≡ false). let say : parts_say (undecoded decode says) ranges given fine e =
        λ value are. said other value (cause value are refl) in inr say) (memory_or e)
    go _ refuses cause = refuses

-- why elements of parts are refused
pub given_fails : {T : Type 0} (level : Level) (fill : List ℕ) (decode : List ℕ → Option (List Element))
    (says : List ℕ → CodecError → Type 0) (tells : Option (List ByteRange) → CodecError → Type 0)
    (below : Seen) (under : Options) (sound : IsSoundSeen below)
    (ranges : List ByteRange) (before now : ℕ) (given : List (List ℕ)) (r : Result T CodecError) →
    GivesParts below.there (below.part under) ranges (Some given)
    → IfErr r
    (λ e. (e ≡ codec.OutOfMemory) ⊎ parts_say (undecoded decode says) ranges given (part_lengths_answer ranges given) e)
    → ((value : List ℕ) → given ≡ slices_of ranges value → part_lengths_answer ranges given ≡ fine →
    IfErr r (IsDecodeError (decode value) (says value)))
    → IfErr r (IsListError below.there (list_of decode (fills level fill) (held_in below under))
    (level_says level fill decode says tells below under (Some ranges)) before now)
given_fails level fill decode says tells below under sound ranges before now given r parts told cause =
    go (below.held under) refl
  where
    some : (e : CodecError) → (e ≡ codec.OutOfMemory) ⊎
        parts_say (undecoded decode says) ranges given (part_lengths_answer ranges given) e → (e ≡ codec.OutOfMemory) ⊎
        ranges_say level fill (undecoded decode says) below.there (below.part under) (Some ranges) e
    some e (inl memory) = inl memory
    some e (inr why) = inr (Some given, (parts, why))

    go : (h : Held) → below.held under ≡ h → IfErr r (IsListError below.there (list_of decode (fills level fill)
        (held_in below under)) (level_says level fill decode says tells below under (Some ranges)) before now)
    go None is = weaker_err _ _ r
        (λ e t. broken_fails level fill decode says tells below under (Some ranges) before now e is (some e t)) told
    go (Some None) is = absurd (never (sym parts.0 ∙ sym (sound.all_there under None is)))
    go (Some (Some value)) is =
        let s =
        parts_sliced (below.part under) ranges value given (λ range. sound.whole under value range is) parts.1 in
        value_fails_if level fill decode says tells below under (Some ranges) before now value r is
        (cause value s.slices s.lengths)

-- what is given has a list
pub value_decodes : {T : Type 0} (decode : List ℕ → Option (List Element)) (absent : Option (List Element))
    (there : Bool) (held : Held) (given : T → Option (List Element)) (Q : CodecError → Type 0) (r : Result T CodecError)
    (value : List ℕ) → held ≡ Some (Some value)
    → MatchResult r (λ v. Gives (given v) (decode value)) Q → OnOk r (IsSome (list_of decode absent (found there held)))
value_decodes decode absent there held given Q (Ok v) value is gives =
    let same : list_of decode absent (found there held) ≡ decode value =
    ap (λ (h : Held). list_of decode absent (found there h)) is in
    subst (λ (o : Option (List Element)). IsSome o) (gives.same ∙ sym same) gives.there
value_decodes decode absent there held given Q (Err e) value is gives = tt

filled_some : (n : ℕ) (element : Option Element) → IsSome element → IsSome (option_map (replicate n) element)
filled_some n None some = cc
filled_some n (Some x) some = refl

pub absent_decodes : (level : Level) (fill : List ℕ) (list : Option (List Element)) (there : Bool) →
    list ≡ fills level fill → there ≡ false → (there ≡ true) ⊎ Denotes level fill → IsSome list
absent_decodes level fill list there is gone (inl here) = absurd (never (sym here ∙ gone))
absent_decodes level fill list there is gone (inr denotes) = subst (λ (o : Option (List Element)). IsSome o) (sym is)
    (filled_some (count_of level.shape) (fill_element (kind_of level.data_type) fill) denotes)

-- what is shown of the handle below
module _ (level : Level) (fill : List ℕ) (unserved : Option Unserved)
    (meaning : Options → List ℕ → Option (List Element)) (request : Region → Option (List ByteRange)) where
  pub listed_keeps : (old new : Seen) → Keeps old new →
      KeepsList (listed level fill unserved meaning request old) (listed level fill unserved meaning request new)
  listed_keeps old new keeps = record {
    level = refl;
    fill = refl;
    short = refl;
    unserved = refl;
    there = keeps.there;
    list = λ under. ap₂ (λ (t : Bool) (h : Held). list_of (meaning under) (fills level fill) (found t h)) keeps.there
        (keeps.held under);
    content = keeps.content;
    key = keeps.key;
    place = keeps.place;
    cost = keeps.cost;
    taking = λ asked. keeps.taking (ranges_for request level.shape asked);
    whole = λ asked. refl;
    size = keeps.size;
    later = keeps.later;
  }

  pub listed_reads : {T E : Type 0} (asked : Option Region) (old new : Seen) (result : Result T E) →
      ReadsRanges (ranges_for request level.shape asked) old new result
      → ReadsList asked (listed level fill unserved meaning request old)
      (listed level fill unserved meaning request new) result
  listed_reads asked old new result reads = record {
    keeps = listed_keeps old new reads.keeps;
    asks = reads.asks;
    asks_err = reads.asks_err;
    taken = reads.taken;
    taken_err = reads.taken_err;
  }

  pub listed_looks : {T E : Type 0} (old new : Seen) (result : Result T E) → Looks old new result →
      LooksAt (listed level fill unserved meaning request old) (listed level fill unserved meaning request new) result
  listed_looks old new result looks = record {
    keeps = listed_keeps old new looks.keeps;
    asks = looks.asks;
    asks_err = looks.asks_err;
    taken = looks.taken;
  }

module _ (level : Level) (fill : List ℕ) (decode : List ℕ → Option (List Element)) (says : List ℕ → CodecError → Type 0)
    (asked : Option (List ByteRange)) (e : CodecError) where
  abbrev Said : Bool → (ByteRange → Held) → Held → (CodecError → Type 0) → Type 0
  Said there part held tells = (IsPartRefused held part asked × tells e) ⊎
      own_says level fill says (ranges_say level fill (undecoded decode says) there part asked) held e

  pub list_told : (old_tells new_tells : Option (List ByteRange) → CodecError → Type 0)
      (old new : Seen) (under : Options) → Keeps old new → (new_tells asked e → old_tells asked e) → level_says level
      fill decode says new_tells new under asked e → level_says level fill decode says old_tells old under asked e
  list_told old_tells new_tells old new under keeps back told =
      let part : new.part under ≡ old.part under = fun_ext (λ range. keeps.part under range) in
      let same : Said old.there (old.part under) (old.held under) (new_tells asked) =
      subst (λ (h : Held). Said old.there (old.part under) h (new_tells asked)) (keeps.held under)
      (subst (λ (p : ByteRange → Held). Said old.there p (new.held under) (new_tells asked)) part
      (subst (λ (t : Bool). Said t (new.part under) (new.held under) (new_tells asked)) keeps.there told)) in
      ⊎_elim (λ (t : IsPartRefused (old.held under) (old.part under) asked × new_tells asked e). inl (t.0, back t.1))
      (λ (own : own_says level fill says (ranges_say level fill (undecoded decode says) old.there (old.part under)
      asked) (old.held under) e). inr own) same
