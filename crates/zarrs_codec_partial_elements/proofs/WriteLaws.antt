-- Elements that are written through a codec.
use Rattle.std.proofs.Common.{◌≡◌, ◌⊎◌, ℕ, ◌*◌, Bool, true, false, is_some, not, ◌||◌, ◌==◌, List}
use Rattle.std.proofs.Common.{[], ◌∷◌, length, replicate, Option, Some, None, IsSome, option_map, Result, Ok, Err, IfOk}
use Rattle.std.proofs.Common.{IfErr, OnErr, refl, sym, ap, ap₂, ◌∙◌, ◌↔◌, subst, inl, inr, ⊎_elim, eqb-true}
use Rattle.std.specs.List.{list_all}
use Rattle.std.specs.Bool.{IsTrue}
use Rattle.std.proofs.lemmas.Result.{on_ok_weaker, on_err_weaker}
use Rattle.std.proofs.lemmas.Bool.{and_parts}
use Rattle.zarrs_codec.specs.Prelude.{Region, count_of, sizes, tuples, ends_within, ArrayBytes}
use Rattle.zarrs_codec.specs.Prelude.{meaning, Level, Options, bytes_refusal}
use Rattle.zarrs_codec.specs.Prelude.{raw_of, list_at, Gives, Held, Seen, IsSoundSeen, IsFailedRead}
use Rattle.zarrs_codec.specs.Prelude.{IsHandleError, ListSeen, by_codec, fills, Stores}
use Rattle.zarr_model.proofs.RegionLaws.{length-tuples}
use Rattle.zarr_model.proofs.BytesLaws.{length-meaning, refusal-meaning}
use Rattle.zarr_model.specs.Element.{Element, Kind, same_element}
use Rattle.zarr_model.specs.Element.{fill_element, kind_of, fixed_size}
use Rattle.zarr_model.proofs.ElementLaws.{each_same, all_same}
use Rattle.zarr_model.proofs.Choices.{some_now, none_some, always_ok}
use Rattle.zarrs_storage.specs.declared.byte_range.ByteRange.{ByteRange}
use Rattle.zarrs_codec_slices.specs.Picking.{size_in, replaced}
use Rattle.zarrs_codec_error.specs.declared.error.CodecError.{CodecError}
use Rattle.zarrs_codec_error.specs.declared.error.CodecError.TheVariants as codec
use Rattle.zarrs_codec_array_bytes.specs.Levels.{inner_length}
use Rattle.zarrs_codec_array_bytes.specs.Refusals.{BytesAnswer, fine, told_by, lengths_refusal, lengths_answer}
use Rattle.zarrs_codec_array_bytes.specs.Refusals.{sized_answer, then_answer, first_answer, validity, Answers}
use Rattle.zarrs_codec_array_bytes.specs.declared.array_bytes.ArrayBytes as code
use Rattle.zarrs_codec_array_bytes.proofs.ToldLaws.{says_some}
use Rattle.zarrs_codec_array_bytes_parts.specs.Pairs.{pair_refusal, both_answer, update_answer}
use Rattle.zarrs_codec_traits.specs.Errors.{Unserved, IsNoFault, RefusesBy, IsFormRefusal}
use Rattle.zarrs_codec_traits.proofs.FaultLaws.{answers_no_fault, served_no_fault, known_sized, known_validity}
use Rattle.zarrs_codec_traits.proofs.FaultLaws.{known_then, known_first, known_form}
use Rattle.zarrs_codec_traits.proofs.LevelLaws.{valid_some}
use Rattle.zarrs_codec_traits.specs.Writes.{Holds, Stays, Stands, UnlessFault, Writes, Unasked}
use Rattle.zarrs_codec_traits.proofs.HeldFaultLaws.{unless}
use Rattle.zarrs_codec.specs.Boxes.{same_lengths, is_all}
use Rattle.zarrs_codec.specs.ListWrites.{given_answer, are_all, is_kept, updated, HoldsList, IsAbsent, SameList, IsLeft}
use Rattle.zarrs_codec.specs.ListWrites.{ErasesList, PutsList, StaysList, KeepsRest}
use Rattle.zarrs_codec.proofs.FaultLaws.{handle_faults, own_faults}
use Rattle.zarrs_codec.proofs.UpdateLaws.{fault_told, fault_only, handle_told}
use Rattle.zarrs_codec_partial_elements.specs.Level.{list_of, found, listed}
use Rattle.zarrs_codec_partial_elements.specs.Writing.{IsBeyond, IsTaken}

bool_split : (b : Bool) → (b ≡ true) ⊎ (b ≡ false)
bool_split true = inl refl
bool_split false = inr refl

-- whether a list is of the fill
pub tested : (element : Option Element) (number : ℕ) (xs : List Element) (b : Bool) → IsSome element → length xs ≡
    number → ((x : Element) → element ≡ Some x → IsTrue b ↔ (xs ≡ replicate number x)) → b ≡ are_all element xs
tested None number xs b there long test = cc
tested (Some x) number xs b there long test =
    ⊎_elim
    (λ (yes : b ≡ true). yes ∙ sym (ap (list_all (same_element x)) ((test x refl).0 yes) ∙ all_same x number))
    (λ (no : b ≡ false). ⊎_elim
    (λ (all : list_all (same_element x) xs ≡ true).
    absurd (differ (sym no ∙ (test x refl).1 (each_same x xs all ∙ ap (λ (n : ℕ). replicate n x) long))))
    (λ (none : list_all (same_element x) xs ≡ false). no ∙ sym none) (bool_split (list_all (same_element x) xs)))
    (bool_split b)
  where
    differ : false ≡ true → ⊥
    differ e = cc

-- of a list that is not kept, the fill's is the same
pub dropped_list : (level : Level) (fill : List ℕ) (under : Options) (xs : List Element) → length xs ≡ count_of
    level.shape → false ≡ is_kept under (fill_element (kind_of level.data_type) fill) xs → fills level fill ≡ Some xs
dropped_list level fill under xs long dropped =
    go (fill_element (kind_of level.data_type) fill) under.store_empty_chunks dropped
  where
    not_true : (b : Bool) → false ≡ not b → b ≡ true
    not_true true e = refl
    not_true false e = cc

    go : (element : Option Element) (s : Bool) → false ≡ (s || not (are_all element xs)) →
        option_map (replicate (count_of level.shape)) element ≡ Some xs
    go element true e = cc
    go None false e = cc
    go (Some x) false e = ap Some (sym (each_same x xs (not_true _ e) ∙ ap (λ (n : ℕ). replicate n x) long))

any : Options
any = record { store_empty_chunks = true; validate_checksums = true }

-- and where the options drop, what is the fill's is not kept
pub filled_list : (level : Level) (fill : List ℕ) (under : Options) (xs : List Element) → fills level fill ≡ Some xs →
    under.store_empty_chunks ≡ false → is_kept under (fill_element (kind_of level.data_type) fill) xs ≡ false
filled_list level fill under xs is off = go (fill_element (kind_of level.data_type) fill) is
  where
    go : (element : Option Element) → option_map (replicate (count_of level.shape)) element ≡ Some xs →
        is_kept under element xs ≡ false
    go None is = cc
    go (Some x) is =
        let same : replicate (count_of level.shape) x ≡ xs = cc in
        let all : list_all (same_element x) xs ≡ true =
        subst (λ (l : List Element). list_all (same_element x) l ≡ true) same (all_same x (count_of level.shape)) in
        ap₂ (λ (s a : Bool). s || not a) off all

-- what a change of the value is to its elements
module _ (level : Level) (fill : List ℕ) (unserved : Option Unserved)
    (meaning : Options → List ℕ → Option (List Element)) (request : Region → Option (List ByteRange)) where
  abbrev see : Seen → ListSeen
  see seen = listed level fill unserved meaning request seen

  held_list : (new : Seen) (under : Options) (held : Held) → new.held under ≡ held →
      (see new).list under ≡ list_of (meaning under) (fills level fill) (found new.there held)
  held_list new under held is = ap (λ (h : Held). list_of (meaning under) (fills level fill) (found new.there h)) is

  holds_value : (value : List ℕ) (list : List Element) (new : Seen) → IsSoundSeen new → ((under : Options) →
      meaning under value ≡ Some list) → Holds (Some value) new → HoldsList true (Some list) (see new)
  holds_value value list new sound means holds = record {
    there = sym (sound.all_there any (Some value) (holds any));
    list = λ under. held_list new under _ (holds under) ∙ means under;
  }

  holds_none : (new : Seen) → IsSoundSeen new → Holds None new → IsAbsent (see new)
  holds_none new sound holds = sym (sound.all_there any None (holds any))

  same_list : (old new : Seen) → Stands old new → SameList (see old) (see new)
  same_list old new same = record {
    there = same.there;
    list = λ under. ap₂ (λ (t : Bool) (h : Held). list_of (meaning under) (fills level fill) (found t h)) same.there
        (same.held under);
  }

  pub puts_value : {T : Type 0} (value : List ℕ) (list : List Element) (old new : Seen) (result : Result T CodecError) →
      IsSoundSeen new → ((under : Options) → meaning under value ≡ Some list) → Writes (Some value) old new result
      → PutsList true list (see old) (see new) result
  puts_value value list old new result sound means writes = record {
    ok = on_ok_weaker result (holds_value value list new sound means) writes.ok;
    failed = on_err_weaker result (λ case. ⊎_elim (λ (same : Stands old new). inl (same_list old new same))
        (λ (more : Holds (Some value) new ⊎ Holds None new). inr (⊎_elim (λ (h : Holds (Some value) new). inr
        (holds_value value list new sound means h)) (λ (h : Holds None new). inl (holds_none new sound h)) more)) case)
        writes.failed;
  }

  pub puts_absent : {T : Type 0} (list : List Element) (old new : Seen) (result : Result T CodecError) → IsSoundSeen
      new → fills level fill ≡ Some list → Writes None old new result → PutsList false list (see old) (see new) result
  puts_absent list old new result sound is writes = record {
    ok = on_ok_weaker result (λ (h : Holds None new). let l : HoldsList false (Some list) (see new) =
        record { there = holds_none new sound h; list = λ under. held_list new under _ (h under) ∙ is } in l) writes.ok;
    failed = on_err_weaker result (λ case. ⊎_elim (λ (same : Stands old new). inl (same_list old new same))
        (λ (more : Holds None new ⊎ Holds None new). inr (inl (⊎_elim (λ (h : Holds None new). holds_none new sound h)
        (λ (h : Holds None new). holds_none new sound h) more))) case) writes.failed;
  }

  pub erases : {T : Type 0} (old new : Seen) (result : Result T CodecError) → IsSoundSeen new →
      Writes None old new result → ErasesList (see old) (see new) result
  erases old new result sound writes = record {
    ok = on_ok_weaker result (holds_none new sound) writes.ok;
    failed = on_err_weaker result (λ case. ⊎_elim (λ (same : Stands old new). inl (same_list old new same))
        (λ (more : Holds None new ⊎ Holds None new). inr (⊎_elim (λ (h : Holds None new). holds_none new sound h)
        (λ (h : Holds None new). holds_none new sound h) more)) case) writes.failed;
  }

  pub written_rest : {T : Type 0} (value : Option (List ℕ)) (old new : Seen) (result : Result T CodecError) →
      Writes value old new result → KeepsRest (see old) (see new)
  written_rest value old new result writes =
      record {
        level = refl;
        fill = refl;
        short = refl;
        unserved = refl;
        others = writes.others;
        key = writes.key;
        place = writes.place;
        cost = writes.cost;
        whole = λ asked. refl;
        later = writes.later;
      }

  pub written_unchanged : {T : Type 0} (value : Option (List ℕ)) (old new : Seen) (result : Result T CodecError) →
      Writes value old new result → UnlessFault result (StaysList (see old) (see new))
  written_unchanged value old new result writes =
      unless result (λ (stays : Stays old new). let s : StaysList (see old) (see new) = let same =
      same_list old new (record { there = stays.there; held = stays.held }) in
      record { there = stays.there; list = same.list; content = stays.content } in s) writes.unchanged

  -- the value was replaced by one that decodes to these elements
  pub stores_value : {T : Type 0} (under : Options) (raw : ArrayBytes) (unencoded : List Element → CodecError → Type 0)
      (takes : List Element → Type 0) (Short : Type 0) (value : List ℕ)
      (old new : Seen) (result : Result T CodecError) → IsSoundSeen new
      → ((list : List Element) → list_at level raw ≡ Some list →
      true ≡ is_kept under (fill_element (kind_of level.data_type) fill) list)
      → (unserved ≡ None → (under : Options) → meaning under value ≡ list_at level raw) → Writes (Some value) old new
      result → Unasked old new → IfErr result (IsHandleError old.shown.faults new.shown.faults)
      → ((list : List Element) → list_at level raw ≡ Some list → takes list) → unserved ≡ None →
      Stores under raw unencoded takes Short (see old) (see new) result
  stores_value under raw unencoded takes Short value old new result sound kept decodes writes unasked cause encoded is =
      record {
        puts = λ list served means. subst (λ (b : Bool). PutsList b list (see old) (see new) result) (kept list means)
            (puts_value value list old new result sound (λ under. decodes is under ∙ means) writes);
        left = λ list served means.
            subst (λ (b : Bool). OnErr result (IsLeft (λ other. b) (Some list) (see old) (see new))) (kept list means)
            (puts_value value list old new result sound (λ under. decodes is under ∙ means) writes).failed;
        unserved = λ some. absurd (none_some (option_map by_codec unserved) (ap (option_map by_codec) is) some);
        unchanged = written_unchanged (Some value) old new result writes;
        rest = written_rest (Some value) old new result writes;
        unasked = record { asks = unasked.asks; taken = unasked.taken };
        cause = λ list served means. handle_told _ _ (unencoded list) result cause;
        taken = λ list served means. always_ok result (encoded list means);
        encoded = λ served few short_takes there short. cause;
        fault = handle_faults _ _ result cause;
      }

  -- it was erased
  pub stores_none : {T : Type 0} (under : Options) (raw : ArrayBytes) (unencoded : List Element → CodecError → Type 0)
      (takes : List Element → Type 0) (Short : Type 0) (old new : Seen) (result : Result T CodecError) → IsSoundSeen new
      → ((list : List Element) → list_at level raw ≡ Some list →
      false ≡ is_kept under (fill_element (kind_of level.data_type) fill) list)
      → Writes None old new result → Unasked old new → IfErr result (IsFailedRead old.shown.faults new.shown.faults) →
      ((list : List Element) → list_at level raw ≡ Some list → takes list) → unserved ≡ None
      → Stores under raw unencoded takes Short (see old) (see new) result
  stores_none under raw unencoded takes Short old new result sound dropped writes unasked cause encoded is = record {
    puts = λ list served means.
        let long = length-meaning (kind_of level.data_type) (count_of level.shape) raw list means in
        let not_kept = dropped list means in
        subst (λ (b : Bool). PutsList b list (see old) (see new) result) not_kept
        (puts_absent list old new result sound (dropped_list level fill under list long not_kept) writes);
    left = λ list served means. on_err_weaker result (λ case. ⊎_elim (λ (same : SameList (see old) (see new)). inl same)
        (λ (gone : IsAbsent (see new)). inr (inl gone)) case) (erases old new result sound writes).failed;
    unserved = λ some. absurd (none_some (option_map by_codec unserved) (ap (option_map by_codec) is) some);
    unchanged = written_unchanged None old new result writes;
    rest = written_rest None old new result writes;
    unasked = record { asks = unasked.asks; taken = unasked.taken };
    cause = λ list served means. fault_told _ _ (unencoded list) result cause;
    taken = λ list served means. always_ok result (encoded list means);
    encoded = λ served few short_takes there short. fault_only _ _ result cause;
    fault = own_faults _ _ result cause;
  }

-- of options that drop, what is kept is not the fill
pub kept_false : (under : Options) (element : Option Element) (xs : List Element) (b : Bool) →
    under.store_empty_chunks ≡ false → b ≡ are_all element xs → not b ≡ is_kept under element xs
kept_false under element xs b is same = ap not same ∙ sym (ap (λ (s : Bool). s || not (are_all element xs)) is)

-- the test of options and of elements
pub dropped_by : (under : Options) (kind : Kind) (fill : List ℕ) (number : ℕ) (list : List Element) (b : Bool) →
    under.store_empty_chunks ≡ false → IsSome (fill_element kind fill) → length list ≡ number
    → ((x : Element) → fill_element kind fill ≡ Some x → IsTrue b ↔ (list ≡ replicate number x)) →
    not b ≡ is_kept under (fill_element kind fill) list
dropped_by under kind fill number list b off denotes long test = kept_false under (fill_element kind fill) list b off
    (tested (fill_element kind fill) number list b denotes long test)

-- what a codec encodes
pub taken_by : (level : Level) (raw : ArrayBytes) (list : List Element) (beyond : ArrayBytes → BytesAnswer) →
    then_answer (validity (kind_of level.data_type) (count_of level.shape) raw) (beyond raw) ≡ fine →
    list_at level raw ≡ Some list
    → IsTaken beyond level list
taken_by level raw list beyond answer means = record {
  bytes = raw;
  means = means;
  fits =
      sym (ap (λ (t : BytesAnswer). then_answer t (beyond raw)) (valid_some level raw (ap is_some means))) ∙ answer;
}

-- why a codec does not encode elements
pub beyond_told : (level : Level) (raw : ArrayBytes) (list : List Element)
    (beyond : ArrayBytes → BytesAnswer) (before now : ℕ) (e : CodecError) → list_at level raw ≡ Some list
    → (e ≡ codec.OutOfMemory) ⊎ (told_by e ≡ then_answer (validity (kind_of level.data_type) (count_of level.shape) raw)
    (beyond raw)) → IsHandleError before now e ⊎ IsBeyond beyond level list e
beyond_told level raw list beyond before now e means answer =
    ⊎_elim (λ (m : e ≡ codec.OutOfMemory). inl (inl m))
    (λ (t : told_by e ≡ then_answer (validity (kind_of level.data_type) (count_of level.shape) raw) (beyond raw)).
    inr (let b : IsBeyond beyond level list e = record {
      bytes = raw;
      means = means;
      told =
          t ∙ ap (λ (v : BytesAnswer). then_answer v (beyond raw)) (valid_some level raw (ap is_some means));
    } in b)) answer

pub short_told : (level : Level) (raw : ArrayBytes) (beyond : ArrayBytes →
    BytesAnswer) (before now : ℕ) (e : CodecError) → IsSome (list_at level raw) → beyond raw ≡ fine
    → (e ≡ codec.OutOfMemory) ⊎ (told_by e ≡ then_answer (validity (kind_of level.data_type) (count_of level.shape) raw)
    (beyond raw)) → IsHandleError before now e
short_told level raw beyond before now e there all answer =
    ⊎_elim (λ (m : e ≡ codec.OutOfMemory). inl m)
    (λ (t : told_by e ≡ then_answer (validity (kind_of level.data_type) (count_of level.shape) raw) (beyond raw)).
    absurd (says_some e (t ∙ ap₂ then_answer (valid_some level raw there) all))) answer

-- elements and an indexer that are tested first
pub given_memory : (kind : Kind) (fits : Bool) (number : ℕ) (raw : ArrayBytes) (given : List Element) (e : CodecError) →
    fits ≡ true → meaning kind number raw ≡ Some given
    → (e ≡ codec.OutOfMemory) ⊎ (told_by e ≡ given_answer kind fits number raw) → e ≡ codec.OutOfMemory
given_memory kind fits number raw given e inside means answer =
    let refused : bytes_refusal kind number raw ≡ None = (refusal-meaning kind number raw).1 (ap is_some means) in
    let valid : validity kind number raw ≡ fine =
    ap (sized_answer (inner_length raw) (number * size_in (fixed_size kind))) refused in
    ⊎_elim (λ (m : e ≡ codec.OutOfMemory). m)
    (λ (t : told_by e ≡ given_answer kind fits number raw). absurd (says_some e
    (t ∙ ap₂ (λ (v : BytesAnswer) (f : Bool). then_answer v (first_answer None f fine)) valid inside))) answer

-- which is no fault
pub given_no_fault : (kind : Kind) (fits : Bool) (number : ℕ) (raw : ArrayBytes) (e : CodecError) →
    (e ≡ codec.OutOfMemory) ⊎ (told_by e ≡ given_answer kind fits number raw) → IsNoFault e
given_no_fault kind fits number raw e answer =
    answers_no_fault {T = Unit {0}} (Err e) (given_answer kind fits number raw)
    (known_then _ _ (known_validity kind number raw) (known_first None fits fine refl)) answer

pub encode_no_fault : (T : Type 0) (level : Level) (raw : ArrayBytes) (beyond : BytesAnswer) (unserved :
    Option Unserved) (e : CodecError) → IsFormRefusal beyond → RefusesBy {T = T} unserved (Err e)
    → (unserved ≡ None → (e ≡ codec.OutOfMemory) ⊎
    (told_by e ≡ then_answer (validity (kind_of level.data_type) (count_of level.shape) raw) beyond)) → IsNoFault e
encode_no_fault T level raw beyond unserved e form refuses answer =
    served_no_fault {T = T} unserved (Err e) refuses
    (λ served. answers_no_fault {T = T} (Err e) _ (known_then _ beyond
    (known_validity (kind_of level.data_type) (count_of level.shape) raw) (known_form beyond form)) (answer served))

pub update_no_fault : {T : Type 0} (size : Option ℕ) (fits : Bool) (n m : ℕ) (old new : ArrayBytes) (r :
    Result T CodecError) → Answers (update_answer size fits n old m new) r → IfErr r IsNoFault
update_no_fault size fits n m old new r answers =
    let width = size_in size in
    answers_no_fault r (update_answer size fits n old m new)
    (known_first (pair_refusal size old new) fits (both_answer width n old m new)
    (known_then (lengths_answer width n old) (lengths_answer width m new) (known_sized (inner_length old) (n * width)
    (lengths_refusal width n old)) (known_sized (inner_length new) (m * width) (lengths_refusal width m new)))) answers

-- the old elements with some put in
pub updated_gives : (level : Level) (indices : List ℕ) (given : List Element) (list : Option (List Element))
    (old : ArrayBytes) (r : Result code.ArrayBytes CodecError) → IsSome list
    → ((xs : List Element) → list ≡ Some xs → list_at level old ≡ Some xs)
    → ((xs : List Element) → list_at level old ≡ Some xs →
    IfOk r (λ v. list_at level (raw_of v) ≡ Some (replaced indices given xs)))
    → IfOk r (λ v. Gives (list_at level (raw_of v)) (option_map (replaced indices given) list))
updated_gives level indices given None old r held value put = cc
updated_gives level indices given (Some xs) old (Ok v) held value put = let is = put xs (value xs refl) in
    record { same = is; there = some_now _ _ is }
updated_gives level indices given (Some xs) old (Err e) held value put = tt

pub updated_fails : {T : Type 0} (list : Option (List Element))
    (level : Level) (old : ArrayBytes) (P : CodecError → Type 0) (r : Result T CodecError) → IsSome (list_at level old)
    → ((xs : List Element) → list_at level old ≡ Some xs → IfErr r (λ e. e ≡ codec.OutOfMemory)) → P codec.OutOfMemory →
    IfErr r P
updated_fails list level old P (Ok v) there told memory = tt
updated_fails list level old P (Err e) there told memory = go (list_at level old) refl there
  where
    go : (o : Option (List Element)) → list_at level old ≡ o → IsSome o → P e
    go None is held = cc
    go (Some xs) is held = subst P (sym (told xs is)) memory

pub err_memory : {T : Type 0} (r : Result T CodecError) (told : CodecError → Type 0) → IfErr r told →
    ((e : CodecError) → told e → e ≡ codec.OutOfMemory) → IfErr r (λ e. e ≡ codec.OutOfMemory)
err_memory (Ok v) told is to = tt
err_memory (Err e) told is to = to e is

pub answers_err : {T : Type 0} (wanted : BytesAnswer) (r : Result T CodecError) → Answers wanted r →
    IfErr r (λ e. (e ≡ codec.OutOfMemory) ⊎ (told_by e ≡ wanted))
answers_err wanted (Ok v) is = tt
answers_err wanted (Err e) is = is

-- all elements are given
same_shape : (a b : List ℕ) → same_lengths a b ≡ true → a ≡ b
same_shape [] [] e = refl
same_shape [] (m ∷ b) e = cc
same_shape (n ∷ a) [] e = cc
same_shape (n ∷ a) (m ∷ b) e =
    let parts = and_parts (n == m) (same_lengths a b) e in
    ap₂ (λ (x : ℕ) (xs : List ℕ). x ∷ xs) (eqb-true n m parts.0) (same_shape a b parts.1)

pub all_places : (shape : List ℕ) (asked : Option Region) (places : List (List ℕ)) → is_all shape asked ≡ true →
    ((box : Region) → asked ≡ Some box → places ≡ tuples box) → length places ≡ count_of shape
all_places shape None places e boxed = cc
all_places shape (Some box) places e boxed =
    let parts = and_parts (ends_within box shape) (same_lengths (sizes box) shape) e in
    ap length (boxed box refl) ∙ (length-tuples box ∙ ap count_of (same_shape (sizes box) shape parts.1))

pub all_gives : (level : Level) (covers : Bool) (places : List (List ℕ)) (indices : List ℕ) (given : List Element)
    (list : Option (List Element)) (raw copy : ArrayBytes) → true ≡ covers → length places ≡ count_of level.shape →
    copy ≡ raw
    → meaning (kind_of level.data_type) (length places) raw ≡ Some given →
    Gives (list_at level copy) (updated covers indices given list)
all_gives level covers places indices given list raw copy all long same means =
    let is : list_at level copy ≡ Some given =
    ap (list_at level) same ∙ (ap (λ (n : ℕ). meaning (kind_of level.data_type) n raw) (sym long) ∙ means) in
    let gives : Gives (list_at level copy) (updated true indices given list) =
    record { same = is; there = some_now _ _ is } in
    subst (λ (b : Bool). Gives (list_at level copy) (updated b indices given list)) all gives
