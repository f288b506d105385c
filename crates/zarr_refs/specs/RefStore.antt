-- What reads of slices answer, and what they ask of the base.
use Rattle.std.specs.Prelude.{◌≡◌, ◌↔◌, IsSome, ℕ, ◌+◌, ◌≤◌, List, Option, None, Vec, option_map, Result}
use Rattle.std.specs.Prelude.{IfOk, IfErr, OnErr}
use Rattle.std.specs.declared.alloc.Global.{Global}
use Rattle.std.specs.BTreeMap.{BTreeMap}
use Rattle.std.specs.Ordering.{nat_cmp}
use Rattle.std.specs.Cmp.Lexicographic.{slice_cmp}
use Rattle.std.specs.List.{Contains}
use Rattle.std.specs.List.Sorted.{IsStrictlySortedBy}
use Rattle.zarr_model.specs.Prelude.{Shown, counted, HasCause}
use Rattle.zarrs_storage.specs.declared.byte_range.ByteRange.{ByteRange}
use Rattle.zarrs_storage.specs.declared.store.StorageError.{StorageError}
use Rattle.zarrs_storage.specs.ByteRange.{slices_of}
use Rattle.zarrs_storage.specs.Store.{value_bytes, part_bytes, handed_out, handed_parts, SameContent, IsFault, IsPlain}
use Rattle.zarrs_storage.specs.Store.{IsRangeError, invalid_range}
use Rattle.zarr_refs.specs.declared.slices.Slice.{Slice}
use Rattle.zarr_refs.specs.Slices.{slice_at}

-- a read of a slice's bytes
pub record ReadsSlice (bytes : Option (List ℕ)) (old new : Shown)
    (result : Result (Option (Vec ℕ Global)) StorageError) : Type 0 where
  pub value : IfOk result (λ v. value_bytes v ≡ bytes)
  pub plain : IfErr result IsPlain
  -- the base is asked once and hands out these bytes alone
  pub asks : new.asks ≡ counted old.asks 1
  pub taken : IfOk result (λ v. new.taken ≡ counted old.taken (handed_out v))
  pub taken_err : OnErr result (new.taken ≡ old.taken)
  -- it keeps its content, and a fault raises its count
  pub same : SameContent old new
  pub cause : HasCause IsFault old.faults new.faults result

-- a read of ranges of a slice's bytes
pub record ReadsParts (bytes : Option (List ℕ)) (ranges : List ByteRange) (old new : Shown)
    (result : Result (Option (Vec (Vec ℕ Global) Global)) StorageError) : Type 0 where
  pub value : IfOk result (λ parts. part_bytes parts ≡ option_map (slices_of ranges) bytes)
  pub valid : IfOk result (λ parts. invalid_range ranges bytes ≡ None)
  pub error : IfErr result (IsRangeError ranges bytes)
  -- the base is asked once, or not at all, and hands out these bytes alone
  pub asks : new.asks ≤ old.asks + 1
  pub taken : IfOk result (λ parts. new.taken ≡ counted old.taken (handed_parts parts))
  pub taken_err : OnErr result (new.taken ≡ old.taken)
  pub same : SameContent old new
  pub cause : HasCause IsFault old.faults new.faults result

-- these are all keys of slices, each once, in the order of their bytes
pub record ListsSlices (slices : BTreeMap (List ℕ) Slice) (keys : List (List ℕ)) : Type 0 where
  pub in_order : IsStrictlySortedBy (slice_cmp nat_cmp) keys
  pub held : (key : List ℕ) → Contains keys key ↔ IsSome (slice_at slices key)
