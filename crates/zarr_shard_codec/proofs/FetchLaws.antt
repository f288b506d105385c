-- Parts of the value under a key of a store.
use Rattle.std.proofs.Common.{◌≡◌, ℕ, ◌+◌, ◌-◌, ◌^◌, ◌≤◌, if◌then◌else◌, Bool, true, false, List, [], ◌∷◌, length}
use Rattle.std.proofs.Common.{Option, Some, None, option_map, Result, Ok, Err, Vec, Global, refl, sym, ap, ◌∙◌, arith}
use Rattle.std.proofs.Common.{le_trans, inl, inr, ⊎_elim}
use Rattle.zarrs_codec.specs.Prelude.{Shown, counted, is_valid, slice_of, slices_of, parts_of, value_part}
use Rattle.zarrs_codec.specs.Prelude.{IsHandleError, TellsRangeOf, taken_of}
use Rattle.zarrs_storage.specs.declared.byte_range.ByteRange.{ByteRange}
use Rattle.zarrs_storage.specs.declared.store.StorageError.{StorageError}
use Rattle.zarrs_storage.specs.Store.{GetsParts, part_bytes, invalid_range}
use Rattle.zarrs_codec_error.specs.CodecError.{codec_of_storage}
use Rattle.zarrs_codec_error.specs.declared.error.CodecError.{CodecError}
use Rattle.zarrs_codec_traits.proofs.EditLaws.{fault_later}
use Rattle.zarrs_codec_traits.proofs.IntervalLaws.{one_told}
use Rattle.zarrs_codec.proofs.StoredLaws.{handed_taken, stored_told}
use Rattle.zarr_shard_codec.specs.ReadRegion.{HasCost, NotRead}

-- one part of one range
pub one_part : (value : Option (List ℕ)) (range : ByteRange) (parts : List (List ℕ)) →
    Some parts ≡ option_map (slices_of (range ∷ [])) value → length parts ≡ 1
one_part None range parts same = cc
one_part (Some value) range parts same = let all : parts ≡ slice_of range value ∷ [] = cc in ap length all

part_some : (value : Option (List ℕ)) (range : ByteRange) (parts : List (List ℕ)) (bytes : List ℕ) → Some parts ≡
    option_map (slices_of (range ∷ [])) value → invalid_range (range ∷ []) value ≡ None → parts ≡ bytes ∷ [] →
    value_part value range ≡ Some (Some bytes)
part_some None range parts bytes same valid one = cc
part_some (Some value) range parts bytes same valid one = go (is_valid range (length value)) valid
  where
    is : slice_of range value ≡ bytes
    is = let all : parts ≡ slice_of range value ∷ [] = cc in cc

    go : (b : Bool) → (if b then None else Some range) ≡ None →
        (if b then Some (Some (slice_of range value)) else None) ≡ Some (Some bytes)
    go true e = ap (λ (b : List ℕ). Some (Some b)) is
    go false e = cc

part_none : (value : Option (List ℕ)) (range : ByteRange) → None ≡ option_map (slices_of (range ∷ [])) value →
    value_part value range ≡ Some None
part_none None range same = refl
part_none (Some value) range same = cc

-- a read of a range
module _ (key : List ℕ) (range : ByteRange) (old new : Shown) where
  abbrev under_key : Option (List ℕ)
  under_key = old.content key

  abbrev Read : Result (Option (Vec (Vec ℕ Global) Global)) StorageError → Type 0
  Read result = GetsParts key (range ∷ []) old new result

  pub range_costs : (given : Option (Vec (Vec ℕ Global) Global)) → Read (Ok given) →
      HasCost 1 (taken_of (Some (range ∷ [])) under_key) old new
  range_costs given gets = record {
    same = gets.same;
    later = gets.cause.later;
    asks = gets.asks;
    taken = gets.taken ∙ ap (counted old.taken) (handed_taken given (range ∷ []) under_key gets.value);
  }

  pub range_single : (given : Option (Vec (Vec ℕ Global) Global)) (parts : Vec (Vec ℕ Global) Global) →
      given ≡ Some parts → Read (Ok given) → length (parts_of parts) ≡ 1
  range_single given parts is gets = one_part under_key range (parts_of parts) (ap part_bytes (sym is) ∙ gets.value)

  pub range_given : (given : Option (Vec (Vec ℕ Global) Global)) (parts : Vec (Vec ℕ Global) Global) (bytes : List ℕ) →
      given ≡ Some parts → Read (Ok given) → parts_of parts ≡ bytes ∷ [] →
      value_part under_key range ≡ Some (Some bytes)
  range_given given parts bytes is gets one =
      part_some under_key range (parts_of parts) bytes (ap part_bytes (sym is) ∙ gets.value) gets.valid one

  pub range_absent : (given : Option (Vec (Vec ℕ Global) Global)) → given ≡ None → Read (Ok given) →
      value_part under_key range ≡ Some None
  range_absent given is gets = part_none under_key range (ap part_bytes (sym is) ∙ gets.value)

  pub range_unread : (told : StorageError) (e : CodecError) → e ≡ codec_of_storage told → Read (Err told) →
      NotRead (value_part under_key range) (TellsRangeOf (Some (range ∷ [])) under_key) old new e
  range_unread told e is gets = record {
    same = gets.same;
    later = gets.cause.later;
    cause = one_told (value_part under_key) range (TellsRangeOf (Some (range ∷ [])) under_key) old.faults new.faults e
        (stored_told under_key (range ∷ []) old.faults new.faults told e gets.error gets.cause.failed is);
  }

-- nothing was read
pub no_cost : (store : Shown) → store.asks ≤ 2 ^ 64 - 1 → store.taken ≤ 2 ^ 64 - 1 → HasCost 0 0 store store
no_cost store fits room =
    record { same = λ key. refl; later = omega arith; asks = omega (arith, fits); taken = omega (arith, room) }

-- some calls after others
pub both_cost : (calls bytes more_calls more_bytes : ℕ) (before mid now : Shown) → HasCost calls bytes before mid →
    HasCost more_calls more_bytes mid now → HasCost (calls + more_calls) (bytes + more_bytes) before now
both_cost calls bytes more_calls more_bytes before mid now first second = record {
  same = λ key. second.same key ∙ first.same key;
  later = le_trans first.later second.later;
  asks = sums before.asks mid.asks now.asks calls more_calls first.asks second.asks;
  taken = sums before.taken mid.taken now.taken bytes more_bytes first.taken second.taken;
}
  where
    sums : (a b c n m : ℕ) → b ≡ counted a n → c ≡ counted b m → c ≡ counted a (n + m)
    sums a b c n m one two = omega (arith, one, two)

-- what failed after some calls, for this reason or another that it brings
pub unread_after : {A B : Type 0} (wanted : Option A) (more : Option B) (says tells : CodecError → Type 0)
    (calls bytes : ℕ) (before mid now : Shown) (e : CodecError) → HasCost calls bytes before mid →
    (more ≡ None → tells e → (wanted ≡ None) × says e) → NotRead more tells mid now e → NotRead wanted says before now e
unread_after wanted more says tells calls bytes before mid now e cost brings failed = record {
  same = λ key. failed.same key ∙ cost.same key;
  later = le_trans cost.later failed.later;
  cause = ⊎_elim (λ (h : IsHandleError mid.faults now.faults e).
      inl (fault_later before.faults mid.faults now.faults e cost.later h))
      (λ (t : (more ≡ None) × tells e). inr (brings t.0 t.1)) failed.cause;
}

-- the same of what failed at once
pub unread_as : {A B : Type 0} (wanted : Option A) (more : Option B) (says tells : CodecError → Type 0)
    (before now : Shown) (e : CodecError) →
    (more ≡ None → tells e → (wanted ≡ None) × says e) → NotRead more tells before now e →
    NotRead wanted says before now e
unread_as wanted more says tells before now e brings failed = record {
  same = failed.same;
  later = failed.later;
  cause = ⊎_elim (λ (h : IsHandleError before.faults now.faults e). inl h)
      (λ (t : (more ≡ None) × tells e). inr (brings t.0 t.1)) failed.cause;
}

-- what a range gives
pub given_range : (range : ByteRange) (value bytes : List ℕ) → value_part (Some value) range ≡ Some (Some bytes) →
    (is_valid range (length value) ≡ true) × (slice_of range value ≡ bytes)
given_range range value bytes some = go (is_valid range (length value)) refl some
  where
    go : (b : Bool) → is_valid range (length value) ≡ b → (if b then Some (Some (slice_of range value)) else None) ≡
        Some (Some bytes) → (is_valid range (length value) ≡ true) × (slice_of range value ≡ bytes)
    go true is e = (is, cc)
    go false is e = cc
