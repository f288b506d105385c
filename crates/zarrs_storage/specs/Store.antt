-- What the calls of a store answer.
use Rattle.std.specs.Prelude.{◌≡◌, ℕ, ◌↔◌, List, length, Vec, Option, Some, None, IsSome, option_map, Result, IfOk}
use Rattle.std.specs.Prelude.{IfErr, OnOk, OnErr, IsErrOf}
use Rattle.std.specs.declared.alloc.Global.{Global}
use Rattle.std.specs.Ordering.{nat_cmp}
use Rattle.std.specs.Cmp.Lexicographic.{slice_cmp}
use Rattle.std.specs.List.{Contains}
use Rattle.std.specs.List.{sum_by}
use Rattle.std.specs.List.Sorted.{IsStrictlySortedBy}
use Rattle.zarr_model.specs.Prelude.{Content, Shown, counted, HasCause, PutsKey, MayPutKey}
use Rattle.zarrs_storage.specs.declared.store.StorageError.{StorageError}
use Rattle.zarrs_storage.specs.declared.store.StorageError.TheVariants.{Failed, InvalidByteRange, OutOfMemory}
use Rattle.zarrs_storage.specs.declared.byte_range.ByteRange.{ByteRange}
use Rattle.zarrs_storage.specs.declared.byte_range.InvalidByteRangeError.{InvalidByteRangeError}
use Rattle.zarrs_storage.specs.declared.byte_range.ByteRangeFault.{ByteRangeFault}
use Rattle.zarrs_storage.specs.declared.byte_range.ByteRangeFault.TheVariants as fault
use Rattle.zarrs_storage.specs.ByteRange.{first_invalid, parts_of, slices_of, TellsRange}

-- a fault of the store
abbrev pub IsFault : StorageError → Type 0
IsFault Failed = Unit {0}
IsFault (InvalidByteRange error) = ⊥
IsFault OutOfMemory = ⊥

-- an error of a call that is given no ranges
abbrev pub IsPlain : StorageError → Type 0
IsPlain Failed = Unit {0}
IsPlain (InvalidByteRange error) = ⊥
IsPlain OutOfMemory = Unit {0}

-- an error that tells the first range that is not valid for a value
abbrev pub TellsInvalid : List ByteRange → Option (List ℕ) → InvalidByteRangeError → Type 0
TellsInvalid ranges None error = ⊥
TellsInvalid ranges (Some value) error =
    TellsRange (first_invalid (length value) ranges) (length value) error

-- an error of a call that is given ranges
abbrev pub IsRangeError : List ByteRange → Option (List ℕ) → StorageError → Type 0
IsRangeError ranges value Failed = Unit {0}
IsRangeError ranges value (InvalidByteRange error) = TellsInvalid ranges value error
IsRangeError ranges value OutOfMemory = Unit {0}

-- the first range that is not valid for a value, if there is one
abbrev pub invalid_range : List ByteRange → Option (List ℕ) → Option ByteRange
invalid_range ranges None = None
invalid_range ranges (Some value) = first_invalid (length value) ranges

-- a fault of ranges as one of a store
abbrev pub range_fault : ByteRangeFault → StorageError
range_fault (fault.Invalid error) = InvalidByteRange error
range_fault fault.OutOfMemory = OutOfMemory

-- the bytes of a value, if there is one
abbrev pub value_bytes : {Z : Type 0} → Option (Vec ℕ Z) → Option (List ℕ)
value_bytes value = option_map (λ v. v.items) value

-- how many bytes were handed out
abbrev pub handed_out : {Z : Type 0} → Option (Vec ℕ Z) → ℕ
handed_out None = 0
handed_out (Some value) = length value.items

-- the bytes of parts, if there are some
abbrev pub part_bytes : {Y Z : Type 0} → Option (Vec (Vec ℕ Z) Y) → Option (List (List ℕ))
part_bytes parts = option_map (λ v. parts_of v) parts

-- how many bytes parts have together, and how many were handed out
abbrev pub total_of : {Z : Type 0} → List (Vec ℕ Z) → ℕ
total_of parts = sum_by (λ part. length part.items) parts

abbrev pub handed_parts : {Y Z : Type 0} → Option (Vec (Vec ℕ Z) Y) → ℕ
handed_parts None = 0
handed_parts (Some parts) = total_of parts.items

-- these are all keys of a store, each once, in the order of their bytes
pub record ListsKeys (store : Content) (keys : List (List ℕ)) : Type 0 where
  pub in_order : IsStrictlySortedBy (slice_cmp nat_cmp) keys
  pub held : (key : List ℕ) → Contains keys key ↔ IsSome (store key)

-- each key holds what it held
abbrev pub SameContent : Shown → Shown → Type 0
SameContent old new = (key : List ℕ) → new.content key ≡ old.content key

-- a look-up of one key
pub record Gets (key : List ℕ) (old new : Shown)
    (result : Result (Option (Vec ℕ Global)) StorageError) : Type 0 where
  -- the value under the key
  pub value : IfOk result (λ value. value_bytes value ≡ old.content key)
  -- which is a reading call
  pub same : SameContent old new
  pub asks : new.asks ≡ counted old.asks 1
  -- and hands that value out
  pub taken : IfOk result (λ value. new.taken ≡ counted old.taken (handed_out value))
  pub taken_err : OnErr result (new.taken ≡ old.taken)
  pub plain : IfErr result IsPlain
  -- a fault raises the count
  pub cause : HasCause IsFault old.faults new.faults result

-- a look-up of ranges of one key
pub record GetsParts (key : List ℕ) (ranges : List ByteRange) (old new : Shown)
    (result : Result (Option (Vec (Vec ℕ Global) Global)) StorageError) : Type 0 where
  -- the bytes of each range, which are all valid
  pub value : IfOk result (λ parts. part_bytes parts
      ≡ option_map (slices_of ranges) (old.content key))
  pub valid : IfOk result (λ parts. invalid_range ranges (old.content key) ≡ None)
  pub error : IfErr result (IsRangeError ranges (old.content key))
  -- which is a reading call, whatever it names
  pub same : SameContent old new
  pub asks : new.asks ≡ counted old.asks 1
  -- and hands these bytes out
  pub taken : IfOk result (λ parts. new.taken ≡ counted old.taken (handed_parts parts))
  pub taken_err : OnErr result (new.taken ≡ old.taken)
  -- a fault raises the count
  pub cause : HasCause IsFault old.faults new.faults result

-- a look at the size of one key's value
pub record Sizes (key : List ℕ) (old new : Shown) (result : Result (Option ℕ) StorageError)
    : Type 0 where
  pub value : IfOk result (λ size. size ≡ option_map length (old.content key))
  -- it takes no memory
  pub failed : IfErr result (λ e. e ≡ Failed)
  pub same : SameContent old new
  pub asks : new.asks ≡ counted old.asks 1
  pub taken : new.taken ≡ old.taken
  pub cause : HasCause IsFault old.faults new.faults result

-- a list of all keys
pub record Lists (old new : Shown) (result : Result (Vec (List ℕ) Global) StorageError) : Type 0
  where
    pub keys : IfOk result (λ keys. ListsKeys old.content keys.items)
    pub same : SameContent old new
    pub asks : new.asks ≡ counted old.asks 1
    pub taken : new.taken ≡ old.taken
    pub plain : IfErr result IsPlain
    pub cause : HasCause IsFault old.faults new.faults result

-- a change of one key
pub record Puts {T : Type 0} (key : List ℕ) (value : Option (List ℕ)) (old new : Shown)
    (result : Result T StorageError) : Type 0 where
  pub ok : OnOk result (PutsKey old.content new.content key value)
  -- a call that fails leaves the key old, new or absent, and one that wants memory leaves all
  pub failed : OnErr result (MayPutKey old.content new.content key value)
  pub memory : IsErrOf result OutOfMemory → SameContent old new
  pub plain : IfErr result IsPlain
  -- which is a writing call, and reads nothing
  pub puts : new.puts ≡ counted old.puts 1
  pub asks : new.asks ≡ old.asks
  pub taken : new.taken ≡ old.taken
  pub cause : HasCause IsFault old.faults new.faults result
