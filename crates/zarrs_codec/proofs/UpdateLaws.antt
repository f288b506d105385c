-- Elements that are put into those that a handle holds: the new ones are made, and then stored.
use Rattle.std.proofs.Common.{◌≡◌, ◌⊎◌, ℕ, ◌≤◌, Bool, true, false, not, List, Option, Some, None, IsSome, Result, Ok}
use Rattle.std.proofs.Common.{Err, IfErr, OnOk, OnErr, refl, sym, ap, ap₂, ◌∙◌, subst, arith, inl, inr, ⊎_elim}
use Rattle.std.proofs.lemmas.Result.{on_err_weaker}
use Rattle.zarrs_codec.specs.Prelude.{Region, Element, fill_element, kind_of, ArrayBytes, Level, Options}
use Rattle.zarrs_codec.specs.Prelude.{has_long_element, raw_of, list_at, Gives, IsNoFault, IsFailedRead, IsHandleError}
use Rattle.zarr_model.proofs.Choices.{none_some, always_ok, always_err}
use Rattle.zarrs_codec_error.specs.declared.error.CodecError.{CodecError}
use Rattle.zarrs_codec_error.specs.declared.error.CodecError.TheVariants as codec
use Rattle.zarrs_codec_array_bytes.specs.declared.array_bytes.ArrayBytes as code
use Rattle.zarrs_codec_traits.specs.Writes.{UnlessFault, CountsIf, MayCountIf}
use Rattle.zarrs_codec_traits.proofs.EditLaws.{fault_later}
use Rattle.zarrs_codec_traits.proofs.HeldFaultLaws.{unless_of, unless}
use Rattle.zarrs_codec.specs.Lists.{Refused, ListSeen, HasShortFill, KeepsList, ReadsList, IsListError}
use Rattle.zarrs_codec.specs.ListWrites.{is_kept, is_stored, HoldsStored, IsAbsent, SameList, IsLeft, IsRefused}
use Rattle.zarrs_codec.specs.ListWrites.{PutsList, StaysList, KeepsRest, UnaskedList, MayPutList, Rewrites, IsUnencoded}
use Rattle.zarrs_codec.specs.ListWrites.{IsEncodedList, IsUnfilled, IsUnreadList}
use Rattle.zarrs_codec.proofs.FaultLaws.{no_fault, faults_after}
use Rattle.zarrs_codec.specs.Updates.{Change, given_by, made_by, ReadsListIf, GivesMade, Stores, Updates}

pub keeps_self : (seen : ListSeen) → KeepsList seen seen
keeps_self seen = record {
  level = refl;
  fill = refl;
  short = refl;
  unserved = refl;
  there = refl;
  list = λ under. refl;
  content = λ key. refl;
  key = refl;
  place = refl;
  cost = refl;
  taking = λ asked. refl;
  whole = λ asked. refl;
  size = refl;
  later = omega arith;
}

-- what is held stayed
pub left_same : (stored : List Element → Bool) (made : Option (List Element)) (old new : ListSeen) → SameList old new →
    IsLeft stored made old new
left_same stored None old new same = same
left_same stored (Some list) old new same = inl same

stays_same : (old new : ListSeen) → StaysList old new → SameList old new
stays_same old new stays = record { there = stays.there; list = stays.list }

keeps_same : (old new : ListSeen) → KeepsList old new → SameList old new
keeps_same old new keeps = record { there = keeps.there; list = keeps.list }

-- a read, and then a change
module _ (first old new : ListSeen) (keeps : KeepsList first old) where
  pub stays_after : StaysList old new → StaysList first new
  stays_after stays = record {
    there = stays.there ∙ keeps.there;
    list = λ under. stays.list under ∙ keeps.list under;
    content = λ key. stays.content key ∙ keeps.content key;
  }

  pub rest_after : KeepsRest old new → KeepsRest first new
  rest_after rest = record {
    level = rest.level ∙ keeps.level;
    fill = rest.fill ∙ keeps.fill;
    short = rest.short ∙ keeps.short;
    unserved = rest.unserved ∙ keeps.unserved;
    others = λ other unlike. rest.others other (λ is. unlike (is ∙ keeps.key)) ∙ keeps.content other;
    key = rest.key ∙ keeps.key;
    place = rest.place ∙ keeps.place;
    cost = rest.cost ∙ keeps.cost;
    whole = λ asked. rest.whole asked ∙ keeps.whole asked;
    later = let a : first.shown.faults ≤ old.shown.faults = keeps.later in
        let b : old.shown.faults ≤ new.shown.faults = rest.later in omega arith;
  }

  same_after : SameList old new → SameList first new
  same_after same = record { there = same.there ∙ keeps.there; list = λ under. same.list under ∙ keeps.list under }

  pub refused_after : {T : Type 0} (result : Result T CodecError) → IsRefused old new result →
      IsRefused first new result
  refused_after result refused = record { err = refused.err; stays = stays_after refused.stays }

  some_left : {T : Type 0} (stored : Bool) (list : List Element) (result : Result T CodecError) → OnErr result
      (IsLeft (λ other. stored) (Some list) old new) → OnErr result (IsLeft (λ other. stored) (Some list) first new)
  some_left stored list result left =
      on_err_weaker result (λ case. ⊎_elim (λ (same : SameList old new). inl (same_after same))
      (λ (more : IsAbsent new ⊎ HoldsStored stored list new). inr more) case) left

  pub puts_after : {T : Type 0} (stored : Bool) (list : List Element) (result : Result T CodecError) →
      PutsList stored list old new result → PutsList stored list first new result
  puts_after stored list result puts = record { ok = puts.ok; failed = some_left stored list result puts.failed }

  pub may_put : {T : Type 0} (stored : List Element → Bool) (list given : Option (List Element)) (result : Result T
      CodecError) → Gives given list → ((xs : List Element) → given ≡ Some xs → PutsList (stored xs) xs old new result)
      → MayPutList stored list first new result
  may_put stored None given result gives puts = absurd (none_some given gives.same gives.there)
  may_put stored (Some list) given result gives puts = puts_after (stored list) list result (puts list gives.same)

  pub left_after : {T : Type 0} (stored : List Element → Bool) (list given : Option (List Element))
      (result : Result T CodecError) → Gives given list
      → ((xs : List Element) → given ≡ Some xs → OnErr result (IsLeft stored (Some xs) old new)) →
      OnErr result (IsLeft stored list first new)
  left_after stored None given result gives left = absurd (none_some given gives.same gives.there)
  left_after stored (Some list) given result gives left = some_left (stored list) list result (left list gives.same)

  may : (b : Bool) (before now more : ℕ) → CountsIf b before now more → MayCountIf b before now more
  may true before now more is = inr is
  may false before now more is = is

  pub rewrites_after : {T U E : Type 0} (rereads : Bool) (read : U) (result : Result T CodecError) →
      ReadsListIf {E = E} rereads None first old (Ok read) → UnlessFault result (StaysList old new) →
      KeepsRest old new → UnaskedList old new
      → Rewrites rereads first new result
  rewrites_after rereads read result reads unchanged rest unasked =
      let asks : CountsIf rereads first.shown.asks new.shown.asks first.cost =
      subst (λ (n : ℕ). CountsIf rereads first.shown.asks n first.cost) (sym unasked.asks) reads.asks in
      let taken : CountsIf rereads first.shown.taken new.shown.taken (first.taking None) =
      subst (λ (n : ℕ). CountsIf rereads first.shown.taken n (first.taking None)) (sym unasked.taken) reads.taken in
      record {
        unchanged = unless result stays_after unchanged;
        rest = rest_after rest;
        asks = always_ok result asks;
        asks_err = always_err result (may rereads _ _ _ asks);
        taken = always_ok result taken;
        taken_err = always_err result (may rereads _ _ _ taken);
      }

  same_fill : fill_element (kind_of old.level.data_type) old.fill ≡
      fill_element (kind_of first.level.data_type) first.fill
  same_fill =
      ap₂ (λ (level : Level) (fill : List ℕ). fill_element (kind_of level.data_type) fill) keeps.level keeps.fill

  pub stored_after : (under : Options) (list : List Element) → is_stored under old list ≡ is_stored under first list
  stored_after under list = ap (λ (o : Option Element). is_kept under o list) same_fill

-- a read that failed
pub keeps_rest : (old new : ListSeen) → KeepsList old new → KeepsRest old new
keeps_rest old new keeps = record {
  level = keeps.level;
  fill = keeps.fill;
  short = keeps.short;
  unserved = keeps.unserved;
  others = λ other unlike. keeps.content other;
  key = keeps.key;
  place = keeps.place;
  cost = keeps.cost;
  whole = keeps.whole;
  later = keeps.later;
}

keeps_stays : (old new : ListSeen) → KeepsList old new → StaysList old new
keeps_stays old new keeps = record { there = keeps.there; list = keeps.list; content = keeps.content }

may_not : (T : Type 0) (stored : List Element → Bool) (list : Option (List Element))
    (old new : ListSeen) (e : CodecError) → KeepsList old new → MayPutList {T = T} stored list old new (Err e)
may_not T stored None old new e keeps = tt
may_not T stored (Some list) old new e keeps = record { ok = tt; failed = inl (keeps_same old new keeps) }

rewrites_not : {T U : Type 0} (rereads : Bool) (old new : ListSeen) (e : CodecError) →
    ReadsListIf {T = U} rereads None old new (Err e) → Rewrites {T = T} rereads old new (Err e)
rewrites_not {T} rereads old new e reads =
    record {
      unchanged = unless_of {T = T} (Err e) (keeps_stays old new reads.keeps);
      rest =
          keeps_rest old new reads.keeps;
      asks = tt;
      asks_err = reads.asks_err;
      taken = tt;
      taken_err = reads.taken_err;
    }

pub may_same : (b : Bool) (before more : ℕ) → MayCountIf b before before more
may_same true before more = inl refl
may_same false before more = refl

-- a read of all elements, whatever comes after it
pub reads_if_still : {T U E F : Type 0} (asked : Option Region) (old new : ListSeen) (v : U) (result : Result T E) →
    ReadsList {E = F} asked old new (Ok v) → ReadsListIf true asked old new result
reads_if_still asked old new v result reads =
    record {
      keeps = reads.keeps;
      asks = always_ok result reads.asks;
      asks_err = always_err result (inr reads.asks);
      taken = always_ok result reads.taken;
      taken_err = always_err result (inr reads.taken);
    }

pub reads_if_not : {T U E : Type 0} (asked : Option Region) (old new : ListSeen) (e : E) →
    ReadsList {T = T} asked old new (Err e) → ReadsListIf {T = U} true asked old new (Err e)
reads_if_not asked old new e reads =
    record { keeps = reads.keeps; asks = tt; asks_err = reads.asks_err; taken = tt; taken_err = reads.taken_err }

-- nothing was read
pub reads_none : {T E : Type 0} (reads : Bool) (asked : Option Region) (seen : ListSeen) (result : Result T E) →
    reads ≡ false → ReadsListIf reads asked seen seen result
reads_none reads asked seen result not_read =
    subst (λ (b : Bool). ReadsListIf b asked seen seen result) (sym not_read)
    (let none : ReadsListIf false asked seen seen result =
    record {
      keeps = keeps_self seen;
      asks = always_ok result refl;
      asks_err = always_err result refl;
      taken = always_ok result refl;
      taken_err = always_err result refl;
    } in none)

-- nothing was done
pub unread_if : {T E : Type 0} (reads : Bool) (asked : Option Region) (seen : ListSeen) (e : E) →
    ReadsListIf {T = T} reads asked seen seen (Err e)
unread_if reads asked seen e = record {
  keeps = keeps_self seen;
  asks = tt;
  asks_err = may_same reads _ _;
  taken = tt;
  taken_err = may_same reads _ _;
}

-- why there is no old list
pub unread_list :
    (old : ListSeen) (list : Option (List Element)) (tells : CodecError → Type 0) (before now : ℕ) (e : CodecError) →
    IsListError old.there list tells before now e → IsHandleError before now e ⊎ IsUnreadList false old list tells e
unread_list old list tells before now e told =
    ⊎_elim (λ (h : IsHandleError before now e). inl h) (λ (t : ((list ≡ None) ⊎ (old.there ≡ false)) × tells e).
    let u : IsUnreadList false old list tells e = inl t in inr u) told

pub unread_or : (old : ListSeen) (list : Option (List Element)) (tells : CodecError → Type 0)
    (before now : ℕ) (e : CodecError) → IsListError old.there list tells before now e ⊎ IsUnfilled old e →
    IsHandleError before now e ⊎ IsUnreadList false old list tells e
unread_or old list tells before now e told =
    ⊎_elim (λ (l : IsListError old.there list tells before now e). unread_list old list tells before now e l)
    (λ (none : IsUnfilled old e). let u : IsUnreadList false old list tells e = inr none in inr u) told

-- why elements are not stored
stored_told : {T : Type 0} (given wanted : Option (List Element)) (U : CodecError → Type 0) (B : List Element →
    CodecError → Type 0) (first mid new : ℕ) (r : Result T CodecError) → Gives given wanted → first ≤ mid
    → ((xs : List Element) → given ≡ Some xs → IfErr r (λ e. IsHandleError mid new e ⊎ B xs e)) →
    IfErr r (λ e. IsHandleError first new e ⊎ (U e ⊎ IsUnencoded wanted B e))
stored_told given None U B first mid new r gives later told = absurd (none_some given gives.same gives.there)
stored_told given (Some xs) U B first mid new (Ok v) gives later told = tt
stored_told given (Some xs) U B first mid new (Err e) gives later told =
    ⊎_elim (λ (h : IsHandleError mid new e). inl (fault_later first mid new e later h)) (λ (b : B xs e). inr (inr b))
    (told xs gives.same)

stored_short : {T : Type 0} (U : CodecError → Type 0) (first mid new : ℕ) (r : Result T CodecError) → first ≤ mid →
    IfErr r (IsHandleError mid new) → IfErr r (λ e. IsHandleError first new e ⊎ U e)
stored_short U first mid new (Ok v) later told = tt
stored_short U first mid new (Err e) later told = inl (fault_later first mid new e later told)

told_before : {T : Type 0} (before now : ℕ) (A B : CodecError → Type 0) (r : Result T CodecError) → ((e : CodecError) →
    A e → B e) → IfErr r (λ e. IsHandleError before now e ⊎ A e) → IfErr r (λ e. IsHandleError before now e ⊎ B e)
told_before before now A B (Ok v) to told = tt
told_before before now A B (Err e) to told =
    ⊎_elim (λ (h : IsHandleError before now e). inl h) (λ (a : A e). inr (to e a)) told

taken_by : {T : Type 0} (takes_then takes : List Element → Type 0) (given wanted : Option (List Element))
    (r : Result T CodecError) → Gives given wanted → ((list : List Element) → takes_then list → takes list)
    → ((xs : List Element) → given ≡ Some xs → OnOk r (takes_then xs)) → OnOk r (IsEncodedList wanted takes)
taken_by takes_then takes given wanted (Err e) gives to taken = tt
taken_by takes_then takes given None (Ok v) gives to taken = absurd (none_some given gives.same gives.there)
taken_by takes_then takes given (Some xs) (Ok v) gives to taken = to xs (taken xs gives.same)

-- only what is below failed
pub fault_told : {T : Type 0} (before now : ℕ) (P : CodecError → Type 0) (r : Result T CodecError) →
    IfErr r (IsFailedRead before now) → IfErr r (λ e. IsHandleError before now e ⊎ P e)
fault_told before now P (Ok v) told = tt
fault_told before now P (Err e) told = inl (inr told)

pub fault_only : {T : Type 0} (before now : ℕ) (r : Result T CodecError) → IfErr r (IsFailedRead before now) →
    IfErr r (IsHandleError before now)
fault_only before now (Ok v) told = tt
fault_only before now (Err e) told = inr told

pub handle_told : {T : Type 0} (before now : ℕ) (P : CodecError → Type 0) (r : Result T CodecError) →
    IfErr r (IsHandleError before now) → IfErr r (λ e. IsHandleError before now e ⊎ P e)
handle_told before now P (Ok v) told = tt
handle_told before now P (Err e) told = inl told

-- elements were not stored
pub stores_not : {T : Type 0} (under : Options) (bytes : ArrayBytes) (unencoded : List Element → CodecError → Type 0)
    (takes : List Element → Type 0) (Short : Type 0) (seen : ListSeen) (e : CodecError)
    → ((list : List Element) → seen.unserved ≡ None → list_at seen.level bytes ≡ Some list →
    IsHandleError seen.shown.faults seen.shown.faults e ⊎ unencoded list e)
    → (seen.unserved ≡ None → HasShortFill seen → Short → IsSome (list_at seen.level bytes) →
    has_long_element bytes ≡ false → IsHandleError seen.shown.faults seen.shown.faults e)
    → IsNoFault e → Stores {T = T} under bytes unencoded takes Short seen seen (Err e)
stores_not {T} under bytes unencoded takes Short seen e cause encoded own = record {
  puts = λ list served means. let p : PutsList {T = T} (is_stored under seen list) list seen seen (Err e) =
      record { ok = tt; failed = inl (keeps_same seen seen (keeps_self seen)) } in p;
  left = λ list served means. inl (keeps_same seen seen (keeps_self seen));
  unserved = λ some. let r : IsRefused {T = T} seen seen (Err e) =
      record { err = tt; stays = keeps_stays seen seen (keeps_self seen) } in r;
  unchanged = unless_of {T = T} (Err e) (keeps_stays seen seen (keeps_self seen));
  rest = keeps_rest seen seen (keeps_self seen);
  unasked = record { asks = refl; taken = refl };
  cause = cause;
  taken = λ list served means. tt;
  encoded = encoded;
  fault = no_fault _ _ e own;
}

module _ (under : Options) (change : Change) (tells : CodecError → Type 0)
    (unencoded : List Element → CodecError → Type 0) (takes : List Element → Type 0) (Short : Type 0) where
  -- new elements were made, and then stored
  pub updates_after :
      {T : Type 0} (unencoded_then : List Element → CodecError → Type 0) (takes_then : List Element → Type 0)
      (ShortThen : Type 0) (first mid new : ListSeen) (elements : code.ArrayBytes) (result : Result T CodecError)
      → GivesMade under change tells first mid (Ok elements) → ReadsListIf {E = CodecError} (not change.all) None first
      mid (Ok elements) → Stores under (raw_of elements) unencoded_then takes_then ShortThen mid new result
      → ((list : List Element) (e : CodecError) → unencoded_then list e → unencoded list e) →
      ((list : List Element) → takes_then list → takes list) → (Short → ShortThen) →
      Updates under change tells unencoded takes Short first new result
  updates_after unencoded_then takes_then ShortThen first mid new elements result made reads stores back encodes to =
      let keeps = reads.keeps in
      let raw = raw_of elements in
      let means = (λ (xs : List Element) (is : list_at first.level raw ≡ Some xs).
      ap (λ (level : Level). list_at level raw) keeps.level ∙ is) in
      record {
        puts = λ given served is. may_put first mid new keeps (is_stored under first)
            (made_by change given (first.list under)) (list_at first.level raw) result (made.gives given served is)
            (λ xs here. subst (λ (b : Bool). PutsList b xs mid new result) (stored_after first mid new keeps under xs)
            (stores.puts xs (keeps.unserved ∙ served) (means xs here)));
        left = λ given is. left_by given is first.unserved refl;
        unserved = unserved_by;
        rewrites = rewrites_after first mid new keeps (not change.all) elements result reads stores.unchanged
            stores.rest stores.unasked;
        cause = λ given served fits is. stored_told (list_at first.level raw) (made_by change given (first.list under))
            _ unencoded _ _ _ result (made.gives given served is) keeps.later
            (λ xs here. told_before _ _ (unencoded_then xs) (unencoded xs) result (back xs)
            (stores.cause xs (keeps.unserved ∙ served) (means xs here)));
        taken = λ given served is. taken_by takes_then takes (list_at first.level raw)
            (made_by change given (first.list under)) result (made.gives given served is) encodes
            (λ xs here. stores.taken xs (keeps.unserved ∙ served) (means xs here));
        encoded = λ given served few short_takes short fits is.
            let gives = made.gives given served is in
            stored_short _ _ _ _ result keeps.later (stores.encoded (keeps.unserved ∙ served) (keeps.short ∙
            few) (to short_takes) (subst (λ (level : Level). IsSome (list_at level raw)) (sym keeps.level) gives.there)
            (made.short served few short));
        fault = faults_after first.shown.faults mid.shown.faults new.shown.faults result keeps.later stores.fault;
      }
    where
      unserved_by : IsSome first.unserved → IsRefused first new result
      unserved_by some = refused_after first mid new reads.keeps result
          (stores.unserved (subst (λ (o : Option Refused). IsSome o) (sym reads.keeps.unserved) some))

      left_by : (given : List Element) → given_by first.level change ≡ Some given → (u : Option Refused) →
          first.unserved ≡ u →
          OnErr result (IsLeft (is_stored under first) (made_by change given (first.list under)) first new)
      left_by given is None served =
          let keeps = reads.keeps in
          left_after first mid new keeps (is_stored under first) (made_by change given (first.list under))
          (list_at first.level (raw_of elements)) result (made.gives given served is)
          (λ xs here. subst (λ (b : Bool). OnErr result (IsLeft (λ other. b) (Some xs) mid new))
          (stored_after first mid new keeps under xs)
          (stores.left xs
          (keeps.unserved ∙ served) (ap (λ (level : Level). list_at level (raw_of elements)) keeps.level ∙ here)))
      left_by given is (Some why) because =
          always_err result (left_same (is_stored under first) (made_by change given (first.list under)) first new
          (stays_same first new (unserved_by (subst (λ (o : Option Refused). IsSome o) (sym because) refl)).stays))

  -- they were not made
  pub updates_not : {T : Type 0} (first mid : ListSeen) (e : CodecError) → GivesMade under change tells first mid
      (Err e) → ReadsListIf {T = code.ArrayBytes} (not change.all) None first mid (Err e) →
      Updates {T = T} under change tells unencoded takes Short first mid (Err e)
  updates_not {T} first mid e made reads = record {
    puts = λ given served is.
        may_not T (is_stored under first) (made_by change given (first.list under)) first mid e reads.keeps;
    left = λ given is. left_same (is_stored under first) (made_by change given (first.list under)) first mid
        (keeps_same first mid reads.keeps);
    unserved = λ some. let r : IsRefused {T = T} first mid (Err e) =
        record { err = tt; stays = keeps_stays first mid reads.keeps } in r;
    rewrites = rewrites_not (not change.all) first mid e reads;
    cause = λ given served fits is. ⊎_elim (λ h. inl h) (λ u. inr (inl u)) (made.failed given served is);
    taken = λ given served is. tt;
    encoded = λ given served few short_takes short fits is. made.failed given served is;
    fault = made.fault;
  }

  -- nothing was done, for want of memory where the elements and their indexer are in order
  pub updates_early : {T : Type 0} (seen : ListSeen) (e : CodecError) → ((given : List Element) → seen.unserved ≡ None →
      change.fits ≡ true → given_by seen.level change ≡ Some given → e ≡ codec.OutOfMemory)
      → IsNoFault e → Updates {T = T} under change tells unencoded takes Short seen seen (Err e)
  updates_early {T} seen e memory own = record {
    puts = λ given served is.
        may_not T (is_stored under seen) (made_by change given (seen.list under)) seen seen e (keeps_self seen);
    left = λ given is. left_same (is_stored under seen) (made_by change given (seen.list under)) seen seen
        (keeps_same seen seen (keeps_self seen));
    unserved = λ some. let r : IsRefused {T = T} seen seen (Err e) =
        record { err = tt; stays = keeps_stays seen seen (keeps_self seen) } in r;
    rewrites = rewrites_not {U = code.ArrayBytes} (not change.all) seen seen e (unread_if (not change.all) None seen e);
    cause = λ given served fits is. inl (inl (memory given served fits is));
    taken = λ given served is. tt;
    encoded = λ given served few short_takes short fits is. inl (inl (memory given served fits is));
    fault = no_fault _ _ e own;
  }
