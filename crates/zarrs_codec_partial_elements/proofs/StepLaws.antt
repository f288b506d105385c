-- Steps of a level of elements, whatever is below it.
use Rattle.std.proofs.Common.{◌≡◌, ◌⊎◌, ℕ, Bool, true, false, List, length, Option, Some, None, IsSome, Result, Ok, Err}
use Rattle.std.proofs.Common.{if◌then◌else◌, IfOk, IfErr, not, refl, sym, ap, ◌∙◌, subst, inl, inr, ⊎_elim}
use Rattle.zarrs_codec.specs.Prelude.{Region, tuples, count_of, ArrayBytes, meaning, Level, Options, has_long_element}
use Rattle.zarrs_codec.specs.Prelude.{raw_of, linear, picked, list_at, told_by, fine, first_answer, Answers, IfUnfit}
use Rattle.zarrs_codec.specs.Prelude.{IsNoFault, RefusesAs, smaller_box, is_all, Change, Choice, Indexed, every, boxed}
use Rattle.zarrs_codec.specs.Prelude.{placed, ListSeen, RefusesFor}
use Rattle.zarr_model.specs.Element.{Element, null, kind_of}
use Rattle.zarr_model.proofs.RegionLaws.{length-tuples}
use Rattle.zarr_model.proofs.Choices.{some_now, always_ok}
use Rattle.zarrs_codec_error.specs.declared.error.CodecError.{CodecError}
use Rattle.zarrs_codec_error.specs.declared.error.CodecError.TheVariants as codec
use Rattle.zarrs_codec_array_bytes.specs.Refusals.{extract_answer}
use Rattle.zarrs_codec_array_bytes.specs.declared.array_bytes.ArrayBytes as code
use Rattle.zarrs_codec_array_bytes.proofs.ToldLaws.{says_some}
use Rattle.zarrs_codec_array_bytes.proofs.ExtractLaws.{extract_told}
use Rattle.zarrs_codec_traits.proofs.FaultLaws.{memory_no_fault, answers_no_fault, known_extract, known_first}
use Rattle.zarrs_codec_traits.proofs.SelectLaws.{boxed-picked}
use Rattle.zarrs_codec.specs.Boxes.{is_smaller}
use Rattle.zarrs_codec.specs.Selects.{Selects, ReadsIndexed}
use Rattle.zarrs_codec.proofs.BoxLaws.{all_not_smaller}
use Rattle.zarrs_codec.proofs.FaultLaws.{no_fault, no_faults}
use Rattle.zarrs_codec.proofs.NamedLaws.{refused_never, refused_memory, refused_still}
use Rattle.zarrs_codec.proofs.SelectsLaws.{reads_not, reads_still}
use Rattle.zarrs_codec.proofs.UpdateLaws.{unread_if}
use Rattle.zarrs_codec_partial_elements.specs.Steps.{ReadsStep, MakesElements}
use Rattle.zarrs_codec_partial_elements.proofs.ServedLaws.{fitting_named}

-- the box that is read by itself is the indexer's
pub smaller_is : (shape : List ℕ) (asked : Option Region) (box : Region) → smaller_box shape asked ≡ Some box →
    asked ≡ Some box
smaller_is shape None box e = cc
smaller_is shape (Some other) box e = go (is_smaller shape other) e
  where
    go : (b : Bool) → (if b then Some other else None) ≡ Some box → Some other ≡ Some box
    go true e = e
    go false e = cc

-- where the box of all elements is asked for, no smaller one is read
pub none_smaller : (shape : List ℕ) (asked : Option Region) → is_all shape asked ≡ true → smaller_box shape asked ≡ None
none_smaller shape asked all = go (smaller_box shape asked) refl
  where
    go : (o : Option Region) → smaller_box shape asked ≡ o → smaller_box shape asked ≡ None
    go None is = is
    go (Some box) is = all_not_smaller shape asked box is all

-- an indexer that fits is not refused
pub fit_refuses : {T : Type 0} (fits : Bool) (r : Result T CodecError) → fits ≡ true →
    RefusesAs (first_answer None fits fine) r
fit_refuses true r fit = tt
fit_refuses false r fit = cc

-- one that does not is, by what is told
unfit_refuses : (T : Type 0) (fits : Bool) (e : CodecError) → (e ≡ codec.OutOfMemory) ⊎
    (told_by e ≡ first_answer None fits fine) → RefusesAs {T = T} (first_answer None fits fine) (Err e)
unfit_refuses T true e answer = tt
unfit_refuses T false e answer = answer

pub fits_not : {P : Type 0} (fits : Bool) → fits ≡ true → fits ≡ false → P
fits_not true fit unfits = cc
fits_not false fit unfits = cc

fitting_memory : (fits : Bool) (e : CodecError) → fits ≡ true →
    (e ≡ codec.OutOfMemory) ⊎ (told_by e ≡ first_answer None fits fine) → e ≡ codec.OutOfMemory
fitting_memory fits e fit answer =
    ⊎_elim (λ (m : e ≡ codec.OutOfMemory). m) (λ (t : told_by e ≡ first_answer None fits fine).
    absurd (says_some e (t ∙ ap (λ (b : Bool). first_answer None b fine) fit))) answer

-- a failure gives no elements, whichever are asked for
pub none_selected : {under : Options} {asked : Option Region} {choice other : Choice} {in_order : Bool}
    {tells : CodecError → Type 0} {old new : ListSeen} {e : CodecError} →
    Selects under asked choice in_order tells old new (Err e) → Selects under asked other in_order tells old new (Err e)
none_selected selects = record {
  value = λ list served is. tt;
  valid = λ served filled. tt;
  failed = selects.failed;
  decodes = λ served there all. tt;
  all = λ served filled all. tt;
  named = selects.named;
  short = λ served few. tt;
  fault = selects.fault;
  reads = selects.reads;
}

-- one before anything was read
pub early_selected : (under : Options) (asked : Option Region) (choice : Choice) (in_order : Bool)
    (tells : CodecError → Type 0) (seen : ListSeen) (e : CodecError) →
    (seen.unserved ≡ None → in_order ≡ true → e ≡ codec.OutOfMemory) →
    (in_order ≡ true → RefusesFor {T = code.ArrayBytes} seen.unserved (Err e)) → IsNoFault e →
    Selects under asked choice in_order tells seen seen (Err e)
early_selected under asked choice in_order tells seen e memory named own = record {
  value = λ list served is. tt;
  valid = λ served filled. tt;
  failed = λ served ok. inl (inl (memory served ok));
  decodes = λ served there all. tt;
  all = λ served filled all. tt;
  named = named;
  short = λ served few. tt;
  fault = no_fault _ _ e own;
  reads = reads_not asked seen e;
}

pub memory_selected : (under : Options) (asked : Option Region) (choice : Choice) (tells : CodecError → Type 0)
    (seen : ListSeen) (e : CodecError) → e ≡ codec.OutOfMemory → Selects under asked choice true tells seen seen (Err e)
memory_selected under asked choice tells seen e is = early_selected under asked choice true tells seen e
    (λ served ok. is) (λ ok. refused_memory code.ArrayBytes seen.unserved e is) (memory_no_fault e is)

-- the elements of a box are those at its places
boxed_means : (level : Level) (box : Region) (places : List (List ℕ)) (xs : List Element)
    (r : Result code.ArrayBytes CodecError) → places ≡ tuples box → IfOk r (λ v.
    meaning (kind_of level.data_type) (boxed box level).number (raw_of v) ≡ Some ((boxed box level).pick xs)) →
    IfOk r (λ v.
    meaning (kind_of level.data_type) (length places) (raw_of v) ≡ Some (picked null (linear level.shape places) xs))
boxed_means level box places xs (Ok v) same is = boxed-picked level box places (raw_of v) xs same is
boxed_means level box places xs (Err e) same is = tt

pub boxed_valid : (level : Level) (box : Region) (places : List (List ℕ)) (r : Result code.ArrayBytes CodecError) →
    places ≡ tuples box → IfOk r (λ v.
    IsSome (meaning (kind_of level.data_type) (boxed box level).number (raw_of v))) →
    IfOk r (λ v. IsSome (meaning (kind_of level.data_type) (length places) (raw_of v)))
boxed_valid level box places (Ok v) same is = subst (λ (n : ℕ). IsSome (meaning (kind_of level.data_type) n (raw_of v)))
    (sym (ap length same ∙ length-tuples box)) is
boxed_valid level box places (Err e) same is = tt

pub boxed_selected : {under : Options} {asked : Option Region} {in_order : Bool} {tells : CodecError → Type 0}
    {old new : ListSeen} {r : Result code.ArrayBytes CodecError} (box : Region) (places : List (List ℕ)) →
    places ≡ tuples box → Selects under asked (boxed box old.level) in_order tells old new r →
    Selects under asked (placed places old.level) in_order tells old new r
boxed_selected {old = old} {r = r} box places same selects = record {
  value = λ list served is. boxed_means old.level box places list r same (selects.value list served is);
  valid = λ served filled. boxed_valid old.level box places r same (selects.valid served filled);
  failed = selects.failed;
  decodes = selects.decodes;
  all = selects.all;
  named = selects.named;
  short = selects.short;
  fault = selects.fault;
  reads = selects.reads;
}

-- elements at some places, out of all of them
placed_valid : (level : Level) (places : List (List ℕ)) (r : Result code.ArrayBytes CodecError) (raw : ArrayBytes) →
    IsSome (list_at level raw)
    → ((ys : List Element) → list_at level raw ≡ Some ys → IfOk r (λ v.
    meaning (kind_of level.data_type) (length places) (raw_of v) ≡ Some (picked null (linear level.shape places) ys)))
    → IfOk r (λ v. IsSome (meaning (kind_of level.data_type) (length places) (raw_of v)))
placed_valid level places (Err e) raw there chosen = tt
placed_valid level places (Ok v) raw there chosen = go (list_at level raw) refl there
  where
    go : (o : Option (List Element)) → list_at level raw ≡ o → IsSome o →
        IsSome (meaning (kind_of level.data_type) (length places) (raw_of v))
    go None is held = cc
    go (Some ys) is held = some_now _ _ (chosen ys is)

listed_fails : {T : Type 0} (level : Level) (fits : Bool) (raw : ArrayBytes) (r : Result T CodecError)
    (P : CodecError → Type 0) → fits ≡ true → IsSome (list_at level raw)
    → Answers (extract_answer (kind_of level.data_type) fits (count_of level.shape) raw) r → P codec.OutOfMemory →
    IfErr r P
listed_fails level fits raw (Ok v) P inside valid answers memory = tt
listed_fails level fits raw (Err e) P inside valid answers memory = go (list_at level raw) refl valid
  where
    go : (o : Option (List Element)) → list_at level raw ≡ o → IsSome o → P e
    go None is some = cc
    go (Some xs) is some = subst P
        (sym (extract_told (kind_of level.data_type) fits (count_of level.shape) raw xs e inside is answers)) memory

pub listed_step : {under : Options} {tells : Options → Option Region → CodecError → Type 0} {old new : ListSeen}
    {whole : code.ArrayBytes} {r : Result code.ArrayBytes CodecError} (places : List (List ℕ)) (fits : Bool) →
    ReadsStep under None every tells old new (Ok whole) → fits ≡ true
    → ((xs : List Element) → list_at old.level (raw_of whole) ≡ Some xs → IfOk r (λ v.
    meaning (kind_of old.level.data_type) (length places) (raw_of v) ≡
    Some (picked null (linear old.level.shape places) xs)))
    → Answers (extract_answer (kind_of old.level.data_type) fits (count_of old.level.shape) (raw_of whole)) r
    → (has_long_element (raw_of whole) ≡ false → IfOk r (λ v. has_long_element (raw_of v) ≡ false)) →
    ReadsStep under None (placed places) tells old new r
listed_step {old = old} {new = new} {whole = whole} {r = r} places fits step inside chosen answer short = record {
  selects = λ asked is. let selects = step.selects asked is in record {
    value = λ list served e. chosen list (selects.value list served e);
    valid = λ served filled. placed_valid old.level places r (raw_of whole) (step.valid served) chosen;
    failed = λ served ok.
        listed_fails old.level fits (raw_of whole) r _ inside (step.valid served) answer (inl (inl refl));
    decodes = λ served there all. always_ok r (selects.decodes served there all);
    all = λ served filled all. always_ok r (selects.all served filled all);
    named = λ ok. refused_never old.unserved whole r (selects.named ok);
    short = λ served few. short (selects.short served few);
    fault = no_faults _ _ r (answers_no_fault r _
        (known_extract (kind_of old.level.data_type) fits (count_of old.level.shape) (raw_of whole)) answer);
    reads = reads_still asked old new whole r selects.reads;
  };
  valid = λ served. placed_valid old.level places r (raw_of whole) (step.valid served) chosen;
}

pub listed_not : {under : Options} {tells : Options → Option Region → CodecError → Type 0} {old new : ListSeen}
    {e : CodecError} (places : List (List ℕ)) → ReadsStep under None every tells old new (Err e) →
    ReadsStep under None (placed places) tells old new (Err e)
listed_not places step =
    record { selects = λ asked is. none_selected (step.selects asked is); valid = λ served. tt }

-- a whole call, of an indexer that fits
module _ (under : Options) (at : Indexed) (tells : Options → Option Region → CodecError → Type 0) where
  pub indexed_fit : (old new : ListSeen) (r : Result code.ArrayBytes CodecError) → at.fits ≡ true →
      Selects under at.asked (placed at.places old.level) true (tells under at.asked) old new r →
      ReadsIndexed under at tells old new r
  indexed_fit old new r fit selects = record {
    unfit = fit_refuses at.fits r fit;
    refusal = λ unfits. fits_not at.fits fit unfits;
    unread = λ unfits. fits_not at.fits fit unfits;
    selects = subst (λ (b : Bool).
        Selects under at.asked (placed at.places old.level) b (tells under at.asked) old new r) (sym fit) selects;
  }

  -- at a level that is not served
  pub indexed_unserved : (T : Type 0) (seen : ListSeen) (e : CodecError) → at.fits ≡ true →
      RefusesFor {T = T} seen.unserved (Err e) → (seen.unserved ≡ None → e ≡ codec.OutOfMemory) → IsNoFault e →
      ReadsIndexed under at tells seen seen (Err e)
  indexed_unserved T seen e fit named memory own =
      indexed_fit seen seen (Err e) fit (early_selected under at.asked (placed at.places seen.level) true
      (tells under at.asked) seen e (λ served ok. memory served)
      (λ ok. refused_still T code.ArrayBytes seen.unserved e named) own)

  -- of one that does not
  pub indexed_unfit : (seen : ListSeen) (e : CodecError) → (e ≡ codec.OutOfMemory) ⊎
      (told_by e ≡ first_answer None at.fits fine) → IfUnfit at.refuses e →
      ReadsIndexed under at tells seen seen (Err e)
  indexed_unfit seen e answer told = record {
    unfit = unfit_refuses code.ArrayBytes at.fits e answer;
    refusal = λ unfits. told;
    unread = λ unfits. record { asks = refl; taken = refl; faults = refl };
    selects = early_selected under at.asked (placed at.places seen.level) at.fits (tells under at.asked) seen e
        (λ served fit. fitting_memory at.fits e fit answer)
        (λ fit. fitting_named code.ArrayBytes seen.unserved at.fits e fit answer)
        (answers_no_fault {T = code.ArrayBytes} (Err e) _ (known_first None at.fits fine refl) answer);
  }

-- new elements of which it is known whether all are given
pub makes_so : {under : Options} {change : Change} {tells : CodecError → Type 0} {old new : ListSeen}
    {result : Result code.ArrayBytes CodecError} {all : Bool} → all ≡ change.all →
    MakesElements under (record change { all = all }) tells old new result →
    MakesElements under change tells old new result
makes_so {under} {change} {tells} {old} {new} {result} same makes = subst (λ (b : Bool).
    MakesElements under (record change { all = b }) tells old new result) same makes

-- memory runs out before they are made
pub makes_early : (under : Options) (change : Change) (tells : CodecError → Type 0) (seen : ListSeen) (e : CodecError) →
    e ≡ codec.OutOfMemory → MakesElements under change tells seen seen (Err e)
makes_early under change tells seen e is = record {
  made = record {
    gives = λ given served means. tt;
    failed = λ given served means. inl (inl is);
    short = λ served few short. tt;
    fault = no_fault _ _ e (memory_no_fault e is);
  };
  reads = unread_if (not change.all) None seen e;
  named = refused_memory code.ArrayBytes seen.unserved e is;
  served = λ read. refused_memory code.ArrayBytes seen.unserved e is;
  valid = λ all there. tt;
}

pub both_ways : {P : Type 0} (b : Bool) → true ≡ b → b ≡ false → P
both_ways true is other = cc
both_ways false is other = cc

-- the new elements, which are given or are made of old ones that are served
pub given_or_read : {P Q : Type 0} (all : Bool) → (all ≡ false → P) → (all ≡ true → Q) → P ⊎ Q
given_or_read true read given = inr (given refl)
given_or_read false read given = inl (read refl)
