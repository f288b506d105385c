-- Elements that are read and put into a target.
use Rattle.std.proofs.Common.{◌≡◌, ◌==◌, ◌⊎◌, ℕ, Bool, true, false, List, length, Option, Some, None, IsSome, Result}
use Rattle.std.proofs.Common.{Ok, Err, IfOk, IfErr, OnOk, refl, sym, ◌∙◌, subst, inl, inr, ⊎_elim, true≢false}
use Rattle.zarrs_codec_traits.specs.Prelude.{Region, Element, Kind, kind_of, ArrayBytes, meaning, Options, raw_of}
use Rattle.zarrs_codec_traits.specs.Prelude.{BytesAnswer, fine, told, told_by, into_answer, IsPut, held_by, IsTargetOf}
use Rattle.zarrs_codec_traits.specs.Prelude.{first_answer, RefusesAs, RefusesCount}
use Rattle.zarr_model.proofs.Choices.{some_given, always_ok, always_err}
use Rattle.zarrs_codec_error.specs.declared.error.CodecError.{CodecError}
use Rattle.zarrs_codec_array_bytes.specs.declared.array_bytes.ArrayBytes as code
use Rattle.zarrs_codec_traits.proofs.IntoLaws.{into_means, held_after, put_after}
use Rattle.zarrs_codec_array_bytes_parts.specs.Targets.{ArePut, target_answer}
use Rattle.zarrs_codec_array_bytes_parts.specs.declared.array_bytes_fixed_disjoint_view.ArrayBytesFixedDisjointView.{
  ArrayBytesFixedDisjointView,
}
use Rattle.zarrs_codec.specs.Lists.{ListSeen, HasListFill, ReadsList}
use Rattle.zarrs_codec.specs.Selects.{Indexed, placed, Selects, CountsIndexed, HasListOrFill, SelectsInto, KeepsFrame}
use Rattle.zarrs_codec.proofs.FaultLaws.{no_faults, target_no_fault}
use Rattle.zarrs_codec.proofs.NamedLaws.{refused_never, refused_still}
use Rattle.zarrs_codec.proofs.UpdateLaws.{keeps_self}

pub reads_not : {T E : Type 0} (asked : Option Region) (seen : ListSeen) (e : E) →
    ReadsList {T = T} asked seen seen (Err e)
reads_not asked seen e =
    record { keeps = keeps_self seen; asks = tt; asks_err = inl refl; taken = tt; taken_err = inl refl }

-- a read that was made, whatever comes after it
pub reads_still : {T U E F : Type 0} (asked : Option Region) (old new : ListSeen) (v : U) (result : Result T E) →
    ReadsList {E = F} asked old new (Ok v) → ReadsList asked old new result
reads_still asked old new v result reads =
    record {
      keeps = reads.keeps;
      asks = always_ok result reads.asks;
      asks_err = always_err result (inr reads.asks);
      taken = always_ok result reads.taken;
      taken_err = always_err result (inr reads.taken);
    }

-- what was tested before elements were given, whatever comes after them
never_unfit : {U P : Type 0} (fits : Bool) (v : U) → RefusesAs (first_answer None fits fine) (Ok v) → fits ≡ false → P
never_unfit true v refuses is = absurd (true≢false is)
never_unfit false v refuses is = absurd refuses

unfit_after : {T U : Type 0} (fits : Bool) (v : U) (result : Result T CodecError) →
    RefusesAs (first_answer None fits fine) (Ok v) → RefusesAs (first_answer None fits fine) result
unfit_after true v result refuses = tt
unfit_after false v result refuses = absurd refuses

count_after : {T U : Type 0} (same : Bool) (num expected : ℕ) (v : U) (result : Result T CodecError) →
    RefusesCount same num expected (Ok v) → RefusesCount same num expected result
count_after true num expected v result refuses = tt
count_after false num expected v result refuses = absurd refuses

pub counts_after : {T U : Type 0} (num : ℕ) (at : Indexed) (old new : ListSeen) (v : U) (result : Result T CodecError) →
    CountsIndexed num at old new (Ok v) → CountsIndexed num at old new result
counts_after num at old new v result counts = record {
  counted = count_after (num == length at.places) num (length at.places) v result counts.counted;
  unfit = λ same. unfit_after at.fits v result (counts.unfit same);
  refusal = λ same unfit. never_unfit at.fits v (counts.unfit same) unfit;
  unread = counts.unread;
}

-- and where none were
unfit_still : (T U : Type 0) (fits : Bool) (e : CodecError) → RefusesAs {T = T} (first_answer None fits fine) (Err e) →
    RefusesAs {T = U} (first_answer None fits fine) (Err e)
unfit_still T U true e refuses = tt
unfit_still T U false e refuses = refuses

count_still : (T U : Type 0) (same : Bool) (num expected : ℕ) (e : CodecError) →
    RefusesCount {T = T} same num expected (Err e) → RefusesCount {T = U} same num expected (Err e)
count_still T U true num expected e refuses = tt
count_still T U false num expected e refuses = refuses

pub counts_still : {T U : Type 0} (num : ℕ) (at : Indexed) (old new : ListSeen) (e : CodecError) →
    CountsIndexed {T = T} num at old new (Err e) → CountsIndexed {T = U} num at old new (Err e)
counts_still {T} {U} num at old new e counts = record {
  counted = count_still T U (num == length at.places) num (length at.places) e counts.counted;
  unfit = λ same. unfit_still T U at.fits e (counts.unfit same);
  refusal = counts.refusal;
  unread = counts.unread;
}

-- elements that are put into a target's views
module _ (kind : Kind) (number : ℕ) (raw : ArrayBytes) (olds news : List ArrayBytesFixedDisjointView)
    (from to : ArrayBytesFixedDisjointView) where
  pub put_holds : {T : Type 0} (xs : List Element) (result : Result T CodecError) → meaning kind number raw ≡ Some xs →
      IsTargetOf kind number olds from → IfOk result (λ _. ArePut raw olds news from to) →
      IfOk result (λ _. held_by news to ≡ xs)
  put_holds xs (Ok v) means target put = let some : Some xs ≡ Some (held_by news to) = held_after {E = CodecError} kind
      number raw olds news from to (Some xs) (Ok v) target (record { same = means; there = there }) put in cc
    where
      there : IsSome (meaning kind number raw)
      there = subst (λ (o : Option (List Element)). IsSome o) (sym means) refl
  put_holds xs (Err e) means target put = tt

  pub put_written : {T : Type 0} (xs : List Element) (result : Result T CodecError) →
      meaning kind number raw ≡ Some xs → IfOk result (λ _. ArePut raw olds news from to) →
      IfOk result (λ _. IsPut kind number (Some xs) olds news from to)
  put_written xs result means put = put_after kind number raw olds news from to (Some xs) result
      (record { same = means; there = subst (λ (o : Option (List Element)). IsSome o) (sym means) refl }) put

  -- and the target's answer
  pub put_answer : {T : Type 0} (result : Result T CodecError) → IsSome (meaning kind number raw) →
      told result ≡ target_answer raw olds from → told result ≡ into_answer kind number olds from
  put_answer result there same = go (meaning kind number raw) refl there
    where
      go : (o : Option (List Element)) → meaning kind number raw ≡ o → IsSome o →
          told result ≡ into_answer kind number olds from
      go None is here = cc
      go (Some xs) is here = same ∙ into_means kind number raw olds from xs is

pub put_framed : {T : Type 0} (raw : ArrayBytes) (olds news : List ArrayBytesFixedDisjointView)
    (from to : ArrayBytesFixedDisjointView) (result : Result T CodecError) →
    IfOk result (λ _. ArePut raw olds news from to) → IfOk result (λ _. KeepsFrame olds news from to)
put_framed raw olds news from to (Ok v) put = record { bytes = raw; put = put }
put_framed raw olds news from to (Err e) put = tt

ok_told : {T : Type 0} (result : Result T CodecError) (answer : BytesAnswer) → told result ≡ answer →
    OnOk result (answer ≡ fine)
ok_told (Ok v) answer is = sym is
ok_told (Err e) answer is = tt

err_told : {T : Type 0} (result : Result T CodecError) (answer : BytesAnswer) (P : CodecError → Type 0) →
    told result ≡ answer → IfErr result (λ e. P e ⊎ (told_by e ≡ answer))
err_told (Ok v) answer P is = tt
err_told (Err e) answer P is = inr is

none_some : {P : Type 0} (o : Option (List Element)) → o ≡ None → IsSome o → P
none_some None is there = cc
none_some (Some xs) is there = cc

module _ (under : Options) (asked : Option Region) (places : List (List ℕ)) (in_order : Bool) (tells : CodecError →
    Type 0) (olds : List ArrayBytesFixedDisjointView) (from : ArrayBytesFixedDisjointView) (old new : ListSeen) where
  abbrev answer : BytesAnswer
  answer = into_answer (kind_of old.level.data_type) (length places) olds from

  pub selects_into : {T : Type 0} (elements : code.ArrayBytes) (result : Result T CodecError) → Selects under asked
      (placed places old.level) in_order tells old new (Ok elements) →
      told result ≡ target_answer (raw_of elements) olds from →
      SelectsInto under asked in_order tells answer old new result
  selects_into elements result selects same =
      record {
        taken = λ served some. ok_told result answer (answered served some);
        failed = λ served some order. err_told result answer _ (answered served some);
        undecoded = λ served order there all none. none_some (old.list under) none (selects.decodes served there all);
        decodes = λ served there all. always_ok result (selects.decodes served there all);
        all = λ served filled all. always_ok result (selects.all served filled all);
        named = λ order. refused_never old.unserved elements result (selects.named order);
        fault = no_faults old.shown.faults new.shown.faults result
            (target_no_fault result (raw_of elements) olds from same);
        reads = reads_still asked old new elements result selects.reads;
      }
    where
      valid : old.unserved ≡ None → HasListOrFill under old →
          IsSome (meaning (kind_of old.level.data_type) (length places) (raw_of elements))
      valid served some = ⊎_elim
          (λ (held : IsSome (old.list under)). some_given (old.list under) held
          (λ list is. subst (λ (o : Option (List Element)). IsSome o) (sym (selects.value list served is)) refl))
          (λ (filled : HasListFill old). selects.valid served filled) some

      answered : old.unserved ≡ None → HasListOrFill under old → told result ≡ answer
      answered served some = put_answer (kind_of old.level.data_type) (length places) (raw_of elements) olds olds from
          from result (valid served some) same

  pub selects_not : {T : Type 0} (e : CodecError) →
      Selects under asked (placed places old.level) in_order tells old new (Err e) →
      SelectsInto {T = T} under asked in_order tells answer old new (Err e)
  selects_not {T} e selects = record {
    taken = λ served filled. tt;
    failed = λ served some order. inl (selects.failed served order);
    undecoded = λ served order there all none. selects.failed served order;
    decodes = λ served there all. tt;
    all = λ served filled all. tt;
    named = λ order. refused_still code.ArrayBytes T old.unserved e (selects.named order);
    fault = selects.fault;
    reads = record {
      keeps = selects.reads.keeps;
      asks = tt;
      asks_err = selects.reads.asks_err;
      taken = tt;
      taken_err = selects.reads.taken_err;
    };
  }
