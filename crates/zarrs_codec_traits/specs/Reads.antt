-- What reading calls of a handle of bytes answer.
use Rattle.std.specs.Prelude.{◌≡◌, ◌≤◌, ◌⊎◌, ℕ, Bool, true, false, List, [], ◌∷◌, length, Option, Some, None, Result}
use Rattle.std.specs.Prelude.{Ok, Err, OnOk, OnErr}
use Rattle.zarr_model.specs.Codec.{Options}
use Rattle.zarr_model.specs.Prelude.{Rose, counted}
use Rattle.zarr_model.specs.Shown.{Shown}
use Rattle.zarrs_storage.specs.declared.byte_range.ByteRange.{ByteRange}
use Rattle.zarrs_storage.specs.declared.byte_range.InvalidByteRangeError.{InvalidByteRangeError}
use Rattle.zarrs_storage.specs.ByteRange.{first_invalid, TellsRange}
use Rattle.zarrs_storage.specs.declared.store.StorageError.TheVariants as storage
use Rattle.zarrs_codec_error.specs.declared.error.CodecError.{CodecError}
use Rattle.zarrs_codec_error.specs.declared.error.CodecError.TheVariants as codec
use Rattle.zarrs_codec_traits.specs.Held.{Held, Seen}

-- a call that reads leaves all but the counts
pub record Keeps (old new : Seen) : Type 0 where
  pub there : new.there ≡ old.there
  pub held : (under : Options) → new.held under ≡ old.held under
  pub part : (under : Options) (range : ByteRange) → new.part under range ≡ old.part under range
  pub content : (key : List ℕ) → new.shown.content key ≡ old.shown.content key
  pub key : new.key ≡ old.key
  pub place : new.place ≡ old.place
  pub cost : new.cost ≡ old.cost
  pub taking : (asked : Option (List ByteRange)) → new.taking asked ≡ old.taking asked
  pub size : new.size ≡ old.size
  pub later : old.shown.faults ≤ new.shown.faults

-- a count is as before, or so many more
abbrev pub MayCount : ℕ → ℕ → ℕ → Type 0
MayCount before now more = (now ≡ before) ⊎ (now ≡ counted before more)

-- a look whether the value is there, which takes none of its bytes
pub record Looks {T E : Type 0} (old new : Seen) (result : Result T E) : Type 0 where
  pub keeps : Keeps old new
  pub asks : OnOk result (new.shown.asks ≡ counted old.shown.asks old.cost)
  pub asks_err : OnErr result (MayCount old.shown.asks new.shown.asks old.cost)
  pub taken : new.shown.taken ≡ old.shown.taken

-- a read of these ranges, or of the whole value
pub record ReadsRanges {T E : Type 0} (asked : Option (List ByteRange)) (old new : Seen)
    (result : Result T E) : Type 0 where
  pub keeps : Keeps old new
  pub asks : OnOk result (new.shown.asks ≡ counted old.shown.asks old.cost)
  pub asks_err : OnErr result (MayCount old.shown.asks new.shown.asks old.cost)
  pub taken : OnOk result (new.shown.taken ≡ counted old.shown.taken (old.taking asked))
  pub taken_err : OnErr result (MayCount old.shown.taken new.shown.taken (old.taking asked))

-- what ranges give, each by itself: bytes, or that the value is absent
abbrev pub AreParts : (ByteRange → Held) → List ByteRange → List (List ℕ) → Type 0
AreParts part [] parts = parts ≡ []
AreParts part (range ∷ ranges) [] = ⊥
AreParts part (range ∷ ranges) (bytes ∷ parts) =
    (part range ≡ Some (Some bytes)) × AreParts part ranges parts

abbrev pub AreAbsent : (ByteRange → Held) → List ByteRange → Type 0
AreAbsent part [] = Unit {0}
AreAbsent part (range ∷ ranges) = (part range ≡ Some None) × AreAbsent part ranges

-- the parts of a value, or none exactly where it is absent
abbrev pub GivesParts : Bool → (ByteRange → Held) → List ByteRange → Option (List (List ℕ))
    → Type 0
GivesParts there part ranges None = (there ≡ false) × AreAbsent part ranges
GivesParts there part ranges (Some parts) = (there ≡ true) × AreParts part ranges parts

-- some range is refused; where none is asked for, every range is
abbrev pub RefusesSome : (ByteRange → Held) → List ByteRange → Type 0
RefusesSome part [] = (range : ByteRange) → part range ≡ None
RefusesSome part (range ∷ ranges) = (part range ≡ None) ⊎ RefusesSome part ranges

-- an error of the first of these ranges that is not valid for so many bytes
abbrev pub IsRangeErrorOf : List ByteRange → ℕ → CodecError → Type 0
IsRangeErrorOf ranges size (codec.InvalidByteRangeError error) =
    TellsRange (first_invalid size ranges) size error
IsRangeErrorOf ranges size e = ⊥

-- the same of a value; there is none where it is absent, or where all of it is asked for
abbrev pub TellsRangeOf : Option (List ByteRange) → Option (List ℕ) → CodecError → Type 0
TellsRangeOf None value e = ⊥
TellsRangeOf (Some ranges) None e = ⊥
TellsRangeOf (Some ranges) (Some value) e = IsRangeErrorOf ranges (length value) e

-- what is below failed; or memory ran out
abbrev pub IsFailedRead : ℕ → ℕ → CodecError → Type 0
IsFailedRead before now e = (e ≡ codec.StorageError storage.Failed) × Rose before now

abbrev pub IsHandleError : ℕ → ℕ → CodecError → Type 0
IsHandleError before now e = (e ≡ codec.OutOfMemory) ⊎ IsFailedRead before now e

-- why the whole value is not given: beside these, it is refused, and the error tells why
abbrev pub IsReadError : Held → (CodecError → Type 0) → ℕ → ℕ → CodecError → Type 0
IsReadError held tells before now e =
    IsHandleError before now e ⊎ ((held ≡ None) × tells e)

-- why ranges are not given: beside these, one is refused, and the error tells why
abbrev pub IsPartError : (ByteRange → Held) → List ByteRange → (CodecError → Type 0) → ℕ → ℕ
    → CodecError → Type 0
IsPartError part ranges tells before now e =
    IsHandleError before now e ⊎ (RefusesSome part ranges × tells e)

-- a range is refused by this error of it, or for want of memory
abbrev pub IsRangeRefusal : {T : Type 0} → InvalidByteRangeError → Result T CodecError → Type 0
IsRangeRefusal error (Ok v) = ⊥
IsRangeRefusal error (Err e) =
    (e ≡ codec.OutOfMemory) ⊎ (e ≡ codec.InvalidByteRangeError error)

-- where there is such an error, before anything is read
abbrev pub RefusesFirst : {T : Type 0} → Option InvalidByteRangeError → Shown → Shown
    → Result T CodecError → Type 0
RefusesFirst None old new result = Unit {0}
RefusesFirst (Some error) old new result = IsRangeRefusal error result
    × ((new.asks ≡ old.asks) × ((new.taken ≡ old.taken) × (new.faults ≡ old.faults)))
