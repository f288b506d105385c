-- What handles on a value under a key answer.
use Rattle.std.proofs.Common.{◌≡◌, ℕ, is_some, List, length, map, Vec, Global, Option, Some, None, Ok, option_map, refl}
use Rattle.std.proofs.Common.{sym, ap, ◌∙◌, subst, inl, inr}
use Rattle.std.specs.List.{sum}
use Rattle.std.proofs.lemmas.List.Sums.{sum-map}
use Rattle.std.proofs.lemmas.Simd.{map-map}
use Rattle.zarrs_storage.specs.declared.byte_range.ByteRange.{ByteRange}
use Rattle.zarrs_storage.specs.declared.store.StorageError.{StorageError}
use Rattle.zarrs_storage.specs.declared.store.StorageError.TheVariants as storage
use Rattle.zarrs_codec_traits.specs.Prelude.{slices_of, Rose, Shown, counted, value_part}
use Rattle.zarrs_storage.specs.Store.{part_bytes, handed_parts, total_of, invalid_range, IsRangeError, IsFault}
use Rattle.zarrs_storage.specs.Store.{SameContent, GetsParts}
use Rattle.zarrs_codec_error.specs.declared.error.CodecError.{CodecError}
use Rattle.zarrs_codec_error.specs.CodecError.{codec_of_storage}
use Rattle.zarrs_codec_traits.specs.Reads as reads
use Rattle.zarrs_codec_traits.proofs.PartLaws.{slices_given, none_absent, first_refused}
use Rattle.zarrs_codec.specs.Stored.{bytes_in_parts, taken_of, stored}

total_same : (parts : List (Vec ℕ Global)) → total_of parts ≡ bytes_in_parts (map (λ part. part.items) parts)
total_same parts =
    sym (sum-map (λ (part : Vec ℕ Global). length part.items) parts)
    ∙ (ap sum (sym (map-map length (λ (part : Vec ℕ Global). part.items) parts))
    ∙ sum-map length (map (λ (part : Vec ℕ Global). part.items) parts))

pub handed_taken : (parts : Option (Vec (Vec ℕ Global) Global)) (ranges : List ByteRange) (value : Option (List ℕ)) →
    part_bytes parts ≡ option_map (slices_of ranges) value → handed_parts parts ≡ taken_of (Some ranges) value
handed_taken None ranges None same = refl
handed_taken None ranges (Some value) same = cc
handed_taken (Some parts) ranges None same = cc
handed_taken (Some parts) ranges (Some value) same = let items : map (λ part. part.items) parts.items ≡
    slices_of ranges value = cc in total_same parts.items ∙ ap bytes_in_parts items

pub stored_given : (parts : Option (List (List ℕ))) (ranges : List ByteRange) (value : Option (List ℕ)) →
    parts ≡ option_map (slices_of ranges) value → invalid_range ranges value ≡ None
    → reads.GivesParts (is_some value) (value_part value) ranges parts
stored_given None ranges None same valid = (refl, none_absent ranges)
stored_given None ranges (Some value) same valid = cc
stored_given (Some parts) ranges None same valid = cc
stored_given (Some parts) ranges (Some value) same valid = let items : parts ≡ slices_of ranges value = cc in
    (refl, slices_given value ranges parts valid items)

-- the error of a store as one of a handle
pub stored_told : (value : Option (List ℕ)) (ranges : List ByteRange) (before now : ℕ) (error : StorageError) (e :
    CodecError) → IsRangeError ranges value error → (IsFault error → Rose before now) → e ≡ codec_of_storage error
    → reads.IsPartError (value_part value) ranges (reads.TellsRangeOf (Some ranges) value) before now e
stored_told value ranges before now storage.Failed e range rose is = inl (inr (is, rose tt))
stored_told None ranges before now (storage.InvalidByteRange error) e range rose is = absurd range
stored_told (Some value) ranges before now (storage.InvalidByteRange error) e range rose is = inr
    (first_refused value ranges error.range range.0, subst (reads.IsRangeErrorOf ranges (length value)) (sym is) range)
stored_told value ranges before now storage.OutOfMemory e range rose is = inl (inl is)

-- what tells of a value after a call that reads tells of it before
pub told_stored : (asked : Option (List ByteRange)) (key : List ℕ) (old new : Shown) (e : CodecError) →
    SameContent old new → reads.TellsRangeOf asked (new.content key) e → reads.TellsRangeOf asked (old.content key) e
told_stored asked key old new e same told =
    subst (λ (value : Option (List ℕ)). reads.TellsRangeOf asked value e) (same key) told

-- a read of ranges of a store, as one of a handle
pub stored_reads : {E : Type 0} (name : ℕ) (key : List ℕ) (ranges : List ByteRange)
    (old new : Shown) (parts : Option (Vec (Vec ℕ Global) Global)) → GetsParts key ranges old new (Ok parts)
    → reads.ReadsRanges {E = E} (Some ranges) (stored name key old) (stored name key new) (Ok parts)
stored_reads name key ranges old new parts gets = record {
  keeps = record {
    there = ap is_some (gets.same key);
    held = λ under. ap (λ (v : Option (List ℕ)). Some v) (gets.same key);
    part = λ under range. ap (λ (v : Option (List ℕ)). value_part v range) (gets.same key);
    content = gets.same;
    key = refl;
    place = refl;
    cost = refl;
    taking = λ asked. ap (taken_of asked) (gets.same key);
    size = refl;
    later = gets.cause.later;
  };
  asks = gets.asks;
  asks_err = tt;
  taken = gets.taken ∙ ap (counted old.taken) (handed_taken parts ranges (old.content key) gets.value);
  taken_err = tt;
}
