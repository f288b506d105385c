-- Handles on what a bytes-to-bytes codec makes of a value.
use Rattle.std.proofs.Common.{◌≡◌, ◌⊎◌, ℕ, Bool, true, false, is_some, List, [], ◌∷◌, length, Option, Some, None}
use Rattle.std.proofs.Common.{IsSome, option_map, Result, Ok, Err, OnOk, OnErr, refl, sym, ap, ◌∙◌, subst, arith, inl}
use Rattle.std.proofs.Common.{inr, ⊎_elim}
use Rattle.std.proofs.lemmas.Result.{on_ok_weaker, on_err_weaker}
use Rattle.zarr_model.specs.Codec.{Options}
use Rattle.zarrs_storage.specs.declared.byte_range.ByteRange.{ByteRange}
use Rattle.zarrs_storage.specs.declared.byte_range.ByteRange.TheVariants.{FromStart}
use Rattle.zarrs_codec_error.specs.declared.error.CodecError.{CodecError}
use Rattle.zarrs_codec_error.specs.declared.error.CodecError.TheVariants as codec
use Rattle.zarrs_codec_traits.specs.Held.{Held, HasPart, value_part, held_part, Seen, IsSoundSeen}
use Rattle.zarrs_codec_traits.specs.Reads.{Keeps, ReadsRanges, GivesParts, AreParts, AreAbsent, RefusesSome}
use Rattle.zarrs_codec_traits.specs.Reads.{IsRangeErrorOf, IsHandleError, IsReadError, IsPartError}
use Rattle.zarrs_codec_traits.specs.Writes.{Holds, Stays, Stands, Writes, ToldAfter}
use Rattle.zarrs_codec_traits.specs.Through.{through, says_through, through_says, decoded_through}
use Rattle.zarrs_codec_traits.proofs.PartLaws.{within_value, value_there, none_absent}
use Rattle.zarrs_codec_traits.proofs.HeldFaultLaws.{unless}

within_held : (held : Held) (offset len : ℕ) (bytes : List ℕ) →
    held_part held (FromStart offset (Some len)) ≡ Some (Some bytes) → HasPart (held_part held) offset len bytes
within_held None offset len bytes is = cc
within_held (Some value) offset len bytes is = within_value value offset len bytes is

part_some : (held : Held) (range : ByteRange) (value : Option (List ℕ)) (there : Bool) → held_part held range ≡
    Some value → ((v : Option (List ℕ)) → held ≡ Some v → is_some v ≡ there) → is_some value ≡ there
part_some None range value there is all = cc
part_some (Some v) range value there is all = value_there v range value is ∙ all v refl

through_there : (decode : List ℕ → Option (List ℕ)) (held : Held) (value : Option (List ℕ)) (there : Bool) → through
    decode held ≡ Some value → ((v : Option (List ℕ)) → held ≡ Some v → is_some v ≡ there) → is_some value ≡ there
through_there decode None value there is all = cc
through_there decode (Some None) value there is all = let same : value ≡ None = cc in ap is_some same ∙ all None refl
through_there decode (Some (Some v)) value there is all = go (decode v) is ∙ all (Some v) refl
  where
    go : (d : Option (List ℕ)) → option_map Some d ≡ Some value → is_some value ≡ true
    go None is = cc
    go (Some w) is = let same : value ≡ Some w = cc in ap is_some same

pub decoded_sound : (meaning : Options → List ℕ → Option (List ℕ)) (below : Seen) → IsSoundSeen below →
    IsSoundSeen (decoded_through meaning below)
decoded_sound meaning below sound =
    let all : (under : Options) (value : Option (List ℕ)) → through (meaning under) (below.held under) ≡ Some value →
    is_some value ≡ below.there =
    λ under value is. through_there (meaning under) (below.held under) value below.there is (sound.all_there under) in
    record {
      whole = λ under value range is. ap (λ (h : Held). held_part h range) is;
      within =
          λ under offset len bytes is. within_held (through (meaning under) (below.held under)) offset len bytes is;
      all_there = all;
      part_there = λ under range value is.
          part_some (through (meaning under) (below.held under)) range value below.there is (all under);
    }

pub decoded_keeps : (meaning : Options → List ℕ → Option (List ℕ)) (old new : Seen) → Keeps old new →
    Keeps (decoded_through meaning old) (decoded_through meaning new)
decoded_keeps meaning old new keeps = record {
  there = keeps.there;
  held = λ under. ap (through (meaning under)) (keeps.held under);
  part = λ under range. ap (λ (h : Held). held_part (through (meaning under) h) range) (keeps.held under);
  content = keeps.content;
  key = keeps.key;
  place = keeps.place;
  cost = keeps.cost;
  taking = λ asked. keeps.taking None;
  size = keeps.size;
  later = keeps.later;
}

pub decoded_reads : {T E : Type 0} (meaning : Options → List ℕ → Option (List ℕ)) (asked : Option (List ByteRange))
    (old new : Seen) (result : Result T E) → ReadsRanges None old new result →
    ReadsRanges asked (decoded_through meaning old) (decoded_through meaning new) result
decoded_reads meaning asked old new result reads = record {
  keeps = decoded_keeps meaning old new reads.keeps;
  asks = reads.asks;
  asks_err = reads.asks_err;
  taken = reads.taken;
  taken_err = reads.taken_err;
}

-- a read that failed as another result
pub reads_ok : {T U E F : Type 0} (asked : Option (List ByteRange)) (old new : Seen) (v : T) (w : U) →
    ReadsRanges {E = E} asked old new (Ok v) → ReadsRanges {E = F} asked old new (Ok w)
reads_ok asked old new v w reads =
    record { keeps = reads.keeps; asks = reads.asks; asks_err = tt; taken = reads.taken; taken_err = tt }

pub reads_err : {T U E F : Type 0} (asked : Option (List ByteRange)) (old new : Seen) (v : T) (e : F) →
    ReadsRanges {E = E} asked old new (Ok v) → ReadsRanges {T = U} asked old new (Err e)
reads_err asked old new v e reads =
    record { keeps = reads.keeps; asks = tt; asks_err = inr reads.asks; taken = tt; taken_err = inr reads.taken }

-- which errors tell that a value does not decode, after a read
pub through_told : (decode : List ℕ → Option (List ℕ)) (says : List ℕ → CodecError → Type 0)
    (old new : CodecError → Type 0) (held now : Held) (asked : Option (List ByteRange)) (e : CodecError) → now ≡ held →
    (new e → old e) → through_says decode says new now asked e → through_says decode says old held asked e
through_told decode says old new held now asked e same back told =
    go held (subst (λ (h : Held). through_says decode says new h asked e) same told)
  where
    go : (h : Held) → through_says decode says new h asked e → through_says decode says old h asked e
    go None told = back told
    go (Some None) told = told
    go (Some (Some value)) told = told

-- why a read fails
pub read_told : (decode : List ℕ → Option (List ℕ)) (says : List ℕ → CodecError → Type 0) (tells : CodecError → Type 0)
    (held : Held) (before now : ℕ) (e : CodecError) → IsReadError held tells before now e
    → IsReadError (through decode held) (through_says decode says tells held None) before now e
read_told decode says tells held before now e told =
    ⊎_elim (λ (h : IsHandleError before now e). inl h)
    (λ (none : (held ≡ None) × tells e).
    inr (ap (through decode) none.0, subst (λ (h : Held). through_says decode says tells h None e) (sym none.0) none.1))
    told

pub decode_told : (decode : List ℕ → Option (List ℕ)) (says : List ℕ → CodecError → Type 0) (tells : CodecError →
    Type 0) (held : Held) (value : List ℕ) (before now : ℕ) (e : CodecError) → held ≡ Some (Some value)
    → (e ≡ codec.OutOfMemory) ⊎ ((decode value ≡ None) × says value e) →
    IsReadError (through decode held) (through_says decode says tells held None) before now e
decode_told decode says tells held value before now e is told =
    ⊎_elim (λ (m : e ≡ codec.OutOfMemory). inl (inl m))
    (λ (none : (decode value ≡ None) × says value e). inr (
      ap (through decode) is ∙ ap (option_map Some) none.0,
      subst (λ (h : Held). through_says decode says tells h None e)
          (sym is) (subst (λ (d : Option (List ℕ)). says_through d (says value) None e) (sym none.0) none.1),
    )) told

-- of a value that decodes, the error of a range of what it decodes to
pub range_told : (decode : List ℕ → Option (List ℕ)) (says : List ℕ → CodecError → Type 0) (tells : CodecError → Type 0)
    (held : Held) (value : List ℕ) (ranges : List ByteRange) (e : CodecError) →
    through decode held ≡ Some (Some value) → IsRangeErrorOf ranges (length value) e
    → through_says decode says tells held (Some ranges) e
range_told decode says tells None value ranges e is range = cc
range_told decode says tells (Some None) value ranges e is range = cc
range_told decode says tells (Some (Some v)) value ranges e is range = go (decode v) is
  where
    go : (d : Option (List ℕ)) → option_map Some d ≡ Some (Some value) → says_through d (says v) (Some ranges) e
    go None is = cc
    go (Some w) is = let same : value ≡ w = cc in subst (λ (b : List ℕ). IsRangeErrorOf ranges (length b) e) same range

-- what tells why the whole value is refused tells why ranges are
pub whole_told : (decode : List ℕ → Option (List ℕ)) (says : List ℕ → CodecError → Type 0) (tells : CodecError → Type 0)
    (held : Held) (asked : Option (List ByteRange)) (e : CodecError) → through_says decode says tells held None e
    → through_says decode says tells held asked e
whole_told decode says tells None asked e told = told
whole_told decode says tells (Some None) asked e told = told
whole_told decode says tells (Some (Some value)) asked e told = go (decode value) told
  where
    go : (d : Option (List ℕ)) → says_through d (says value) None e → says_through d (says value) asked e
    go None told = told
    go (Some bytes) told = absurd told

-- why ranges of what was decoded fail
pub many_told :
    (held : Held) (ranges : List ByteRange) (whole tells : CodecError → Type 0) (before now : ℕ) (e : CodecError) →
    (whole e → tells e) → IsReadError held whole before now e → IsPartError (held_part held) ranges tells before now e
many_told held ranges whole tells before now e more told =
    ⊎_elim (λ (h : IsHandleError before now e). inl h)
    (λ (none : (held ≡ None) × whole e). inr (refuses ranges none.0, more none.1)) told
  where
    refuses : (ranges : List ByteRange) → held ≡ None → RefusesSome (held_part held) ranges
    refuses [] none = λ range. ap (λ (h : Held). held_part h range) none
    refuses (range ∷ ranges) none = inl (ap (λ (h : Held). held_part h range) none)

pub many_refused : (held : Held) (value : List ℕ) (ranges : List ByteRange) (tells : CodecError → Type 0)
    (before now : ℕ) (e : CodecError) → held ≡ Some (Some value) → (IsRangeErrorOf ranges (length value) e → tells e)
    → (e ≡ codec.OutOfMemory) ⊎ (RefusesSome (value_part (Some value)) ranges ×
    IsRangeErrorOf ranges (length value) e) → IsPartError (held_part held) ranges tells before now e
many_refused held value ranges tells before now e is range told =
    ⊎_elim (λ (m : e ≡ codec.OutOfMemory). inl (inl m))
    (λ (r : RefusesSome (value_part (Some value)) ranges × IsRangeErrorOf ranges (length value) e).
    inr (subst (λ (h : Held). RefusesSome (held_part h) ranges) (sym is) r.0, range r.1)) told

pub many_given : (held : Held) (value : List ℕ) (ranges : List ByteRange) (parts : List (List ℕ)) (there : Bool) →
    held ≡ Some (Some value) → true ≡ there → AreParts (value_part (Some value)) ranges parts
    → GivesParts there (held_part held) ranges (Some parts)
many_given held value ranges parts there is given are =
    (sym given, subst (λ (h : Held). AreParts (held_part h) ranges parts) (sym is) are)

pub many_absent : (held : Held) (ranges : List ByteRange) (there : Bool) → held ≡ Some None → false ≡ there →
    GivesParts there (held_part held) ranges None
many_absent held ranges there is given =
    (sym given, subst (λ (h : Held). AreAbsent (held_part h) ranges) (sym is) (none_absent ranges))

-- a change of the value below as one of what it decodes to
module _ {T : Type 0} (meaning : Options → List ℕ → Option (List ℕ)) (below above : Option (List ℕ)) (gives : (under :
    Options) → through (meaning under) (Some below) ≡ Some above) (old new : Seen) (result : Result T CodecError) where
  holds_above : Holds below new → Holds above (decoded_through meaning new)
  holds_above holds = λ under. ap (through (meaning under)) (holds under) ∙ gives under

  holds_none : Holds None new → Holds None (decoded_through meaning new)
  holds_none holds = λ under. ap (through (meaning under)) (holds under)

  pub decoded_writes : Writes below old new result →
      Writes above (decoded_through meaning old) (decoded_through meaning new) result
  decoded_writes writes = record {
    ok = on_ok_weaker result holds_above writes.ok;
    failed = on_err_weaker result (λ case.
        ⊎_elim (λ (same : Stands old new). let s : Stands (decoded_through meaning old) (decoded_through meaning new) =
        record { there = same.there; held = λ under. ap (through (meaning under)) (same.held under) } in inl s)
        (λ (more : Holds below new ⊎ Holds None new). inr (⊎_elim (λ (h : Holds below new). inl (holds_above h))
        (λ (h : Holds None new). inr (holds_none h)) more)) case) writes.failed;
    unchanged = unless result (λ (stays : Stays old new).
        let s : Stays (decoded_through meaning old) (decoded_through meaning new) = record {
          there = stays.there;
          held =
              λ under. ap (through (meaning under)) (stays.held under);
          content = stays.content;
        } in s) writes.unchanged;
    others = writes.others;
    key = writes.key;
    place = writes.place;
    cost = writes.cost;
    later = writes.later;
  }

pub writes_none :
    {T : Type 0} (meaning : Options → List ℕ → Option (List ℕ)) (old new : Seen) (result : Result T CodecError) →
    Writes None old new result → Writes None (decoded_through meaning old) (decoded_through meaning new) result
writes_none meaning old new result writes = decoded_writes meaning None None (λ under. refl) old new result writes

pub writes_some : {T : Type 0} (meaning : Options → List ℕ → Option (List ℕ)) (value encoded : List ℕ)
    (old new : Seen) (result : Result T CodecError) → ((under : Options) → meaning under encoded ≡ Some value)
    → Writes (Some encoded) old new result →
    Writes (Some value) (decoded_through meaning old) (decoded_through meaning new) result
writes_some meaning value encoded old new result gives writes = decoded_writes meaning (Some encoded) (Some value)
    (λ under. ap (option_map Some) (gives under)) old new result writes

-- nothing was changed for want of memory
pub writes_not : {T : Type 0} (value : Option (List ℕ)) (seen : Seen) (e : CodecError) → e ≡ codec.OutOfMemory →
    Writes {T = T} value seen seen (Err e)
writes_not {T} value seen e is = subst (λ (x : CodecError). Writes {T = T} value seen seen (Err x)) (sym is)
    (record {
      ok = tt;
      failed = inl (record { there = refl; held = λ under. refl });
      unchanged = record { there = refl; held = λ under. refl; content = λ key. refl };
      others = λ other other_key. refl;
      key = refl;
      place = refl;
      cost = refl;
      later = omega arith;
    })

-- which errors tell of a refusal after a change
module _ (decode : List ℕ → Option (List ℕ)) (says : List ℕ → CodecError → Type 0) (asked : Option (List ByteRange))
    (e : CodecError) where
  abbrev Says : (CodecError → Type 0) → Held → CodecError → Type 0
  Says tells held e = through_says decode says tells held asked e

  said_still : (value : List ℕ) (d : Option (List ℕ)) → says_through d (says value) asked e →
      ToldAfter (option_map Some d) asked (λ e. says_through d (says value) asked e) e
  said_still value None told = told
  said_still value (Some bytes) told = told

  -- of what is held as before
  same_told : (old_tells new_tells : CodecError → Type 0) (held : Held) →
      (new_tells e → ToldAfter held None old_tells e) → Says new_tells held e
      → ToldAfter (through decode held) asked (Says old_tells held) e
  same_told old_tells new_tells None back told = back told
  same_told old_tells new_tells (Some None) back told = absurd told
  same_told old_tells new_tells (Some (Some value)) back told = said_still value (decode value) told

  -- of what decodes
  decoded_told : (before tells : CodecError → Type 0) (held : Held) → IsSome (through decode held) → Says tells held e →
      ToldAfter (through decode held) asked before e
  decoded_told before tells None some told = cc
  decoded_told before tells (Some None) some told = absurd told
  decoded_told before tells (Some (Some value)) some told = go (decode value) some told
    where
      go : (d : Option (List ℕ)) → IsSome (option_map Some d) → says_through d (says value) asked e →
          ToldAfter (option_map Some d) asked before e
      go None some told = cc
      go (Some bytes) some told = told

  -- where nothing is changed, and where the value below is made another one
  pub told_still : (tells : CodecError → Type 0) (held : Held) → through_says decode says tells held asked e →
      ToldAfter (through decode held) asked (λ e. through_says decode says tells held asked e) e
  told_still tells None told = told
  told_still tells (Some None) told = absurd told
  told_still tells (Some (Some value)) told = said_still value (decode value) told

  module _ {T : Type 0} (old_tells new_tells : CodecError → Type 0)
      (under : Options) (old new : Seen) (result : Result T CodecError) where
    told_written : (value : Option (List ℕ)) → IsSome (through decode (Some value)) → Writes value old new result →
        (new_tells e → ToldAfter (new.held under) None old_tells e)
        → Says new_tells (new.held under) e →
        ToldAfter (through decode (new.held under)) asked (Says old_tells (old.held under)) e
    told_written value some writes back told = go result writes.ok writes.failed
      where
        holds : (other : Option (List ℕ)) → IsSome (through decode (Some other)) → Holds other new →
            ToldAfter (through decode (new.held under)) asked (Says old_tells (old.held under)) e
        holds other there is = decoded_told (Says old_tells (old.held under)) new_tells (new.held under)
            (subst (λ (h : Held). IsSome (through decode h)) (sym (is under)) there) told

        stands : Stands old new → ToldAfter (through decode (new.held under)) asked (Says old_tells (old.held under)) e
        stands same = subst (λ (h : Held). ToldAfter (through decode (new.held under)) asked (Says old_tells h) e)
            (same.held under) (same_told old_tells new_tells (new.held under) back told)

        go : (r : Result T CodecError) → OnOk r (Holds value new) → OnErr r (Stands old new ⊎ (Holds value new ⊎
            Holds None new)) → ToldAfter (through decode (new.held under)) asked (Says old_tells (old.held under)) e
        go (Ok v) ok failed = holds value some ok
        go (Err error) ok (inl same) = stands same
        go (Err error) ok (inr (inl is)) = holds value some is
        go (Err error) ok (inr (inr none)) = holds None refl none

    pub told_erased : Writes None old new result → (new_tells e → ToldAfter (new.held under) None old_tells e)
        → through_says decode says new_tells (new.held under) asked e → ToldAfter (through decode (new.held under))
        asked (λ e. through_says decode says old_tells (old.held under) asked e) e
    told_erased writes back told = told_written None refl writes back told

    pub told_replaced : (encoded bytes : List ℕ) → decode encoded ≡ Some bytes → Writes (Some encoded) old new result →
        (new_tells e → ToldAfter (new.held under) None old_tells e)
        → through_says decode says new_tells (new.held under) asked e → ToldAfter (through decode (new.held under))
        asked (λ e. through_says decode says old_tells (old.held under) asked e) e
    told_replaced encoded bytes decodes writes back told = told_written (Some encoded)
        (subst (λ (o : Option (List ℕ)). IsSome (option_map Some o)) (sym decodes) refl) writes back told
