-- Reads of slices that lie in their bases' values.
use Rattle.std.proofs.Common.{◌≡◌, ◌∙◌, ap, refl, subst, ℕ, ◌+◌, ◌≤◌, true, nat_le, List, map}
use Rattle.std.proofs.Common.{length, Option, Some, None, option_map, Result, Ok, Err, IfOk, IfErr, Vec, arith}
use Rattle.std.specs.declared.alloc.Global.{Global}
use Rattle.std.proofs.lemmas.Bool.{leb-true, and_parts}
use Rattle.zarrs_codec_traits.specs.Prelude.{Shown, counted, slices_of, first_invalid}
use Rattle.zarrs_storage.specs.declared.byte_range.ByteRange.{ByteRange}
use Rattle.zarrs_storage.specs.declared.store.StorageError.{StorageError}
use Rattle.zarrs_storage.specs.declared.store.StorageError.TheVariants.{Failed, InvalidByteRange, OutOfMemory}
use Rattle.zarrs_storage.specs.Store.{GetsParts, IsRangeError, invalid_range, part_bytes}
use Rattle.zarr_refs.specs.declared.slices.Slice.{Slice}
use Rattle.zarr_refs.specs.Slices.{bytes_part, lies_in, slice_bytes, is_bounded}
use Rattle.zarrs_storage.specs.ByteRange.{shifted}
use Rattle.zarr_refs.specs.RefStore.{ReadsParts}
use Rattle.zarr_refs.proofs.SliceLaws.{long, parts_in, all_valid_in}

inside : (value : List ℕ) (s : Slice) → lies_in (Some value) s ≡ true → s.offset + s.length ≤ length value
inside value s h = leb-true _ _ (and_parts (nat_le (s.offset + s.length) (length value)) (is_bounded s) h).0

asks_once : (before now : ℕ) → now ≡ counted before 1 → now ≤ before + 1
asks_once before now is = omega (arith, is)

on_ok : {T E : Type 0} {P : Type 0} (result : Result T E) → P → IfOk result (λ _. P)
on_ok (Ok x) p = p
on_ok (Err e) p = tt

module _ (s : Slice) (ranges : List ByteRange) (valid : first_invalid s.length ranges ≡ None) where
  same_parts : (found : Option (List ℕ)) → lies_in found s ≡ true →
      option_map (slices_of (map (shifted s.offset s.length) ranges)) found ≡
      option_map (slices_of ranges) (option_map (bytes_part s.offset s.length) found)
  same_parts None h = cc
  same_parts (Some value) h = ap Some (parts_in s.offset s.length value (inside value s h) ranges valid)

  none_invalid : (found : Option (List ℕ)) → lies_in found s ≡ true →
      invalid_range ranges (option_map (bytes_part s.offset s.length) found) ≡ None
  none_invalid None h = refl
  none_invalid (Some value) h =
      ap (λ n. first_invalid n ranges) (long s.offset s.length value (inside value s h)) ∙ valid

  same_error : (found : Option (List ℕ)) (e : StorageError) → lies_in found s ≡ true →
      IsRangeError (map (shifted s.offset s.length) ranges) found e →
      IsRangeError ranges (option_map (bytes_part s.offset s.length) found) e
  same_error found Failed h is = tt
  same_error None (InvalidByteRange error) h is = is
  same_error (Some value) (InvalidByteRange error) h is = let none =
      all_valid_in s.offset s.length value (inside value s h) ranges valid in let some = is.0 in cc
  same_error found OutOfMemory h is = tt

  on_error : {T : Type 0} (found : Option (List ℕ)) (result : Result T StorageError) → lies_in found s ≡ true →
      IfErr result (IsRangeError (map (shifted s.offset s.length) ranges) found) →
      IfErr result (IsRangeError ranges (option_map (bytes_part s.offset s.length) found))
  on_error found (Ok x) h is = tt
  on_error found (Err e) h is = same_error found e h is

  pub parts_read :
      (asked : List ByteRange) (old new : Shown) (result : Result (Option (Vec (Vec ℕ Global) Global)) StorageError) →
      lies_in (old.content s.base) s ≡ true → asked ≡ map (shifted s.offset s.length) ranges →
      GetsParts s.base asked old new result → ReadsParts (slice_bytes old.content s) ranges old new result
  parts_read asked old new result lies moved gets =
      let here = subst (λ asked. GetsParts s.base asked old new result) moved gets in
      record {
        value =
            subst (λ o. IfOk result (λ parts. part_bytes parts ≡ o)) (same_parts (old.content s.base) lies) here.value;
        valid = on_ok result (none_invalid (old.content s.base) lies);
        error = on_error (old.content s.base) result lies here.error;
        asks = asks_once _ _ here.asks;
        taken = here.taken;
        taken_err = here.taken_err;
        same = gets.same;
        cause = gets.cause;
      }
