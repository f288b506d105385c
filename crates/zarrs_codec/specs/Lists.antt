-- What a handle of elements holds, and what it shows of what is below.
use Rattle.std.specs.Prelude.{◌≡◌, ◌≤◌, ◌⊎◌, ℕ, ◌+◌, ◌*◌, ◌^◌, ◌<◌, nat_lt, Bool, true, false, List, length, replicate}
use Rattle.std.specs.Prelude.{Option, Some, None, IsSome, option_map, Result, Ok, Err, OnOk, OnErr}
use Rattle.zarrs_codec_traits.specs.Prelude.{Region, count_of, Element, Kind, fill_element, fixed_size, kind_of, Level}
use Rattle.zarrs_codec_traits.specs.Prelude.{Options, Shown, Rose, counted, innermost_fill, size_in, told_by}
use Rattle.zarrs_codec_traits.specs.Prelude.{other_fill, Unserved, unserved_error}
use Rattle.zarrs_storage.specs.declared.store.StorageError.{StorageError}
use Rattle.zarrs_codec_error.specs.declared.error.CodecError.{CodecError}
use Rattle.zarrs_codec_error.specs.declared.error.CodecError.TheVariants as codec
use Rattle.zarrs_codec_traits.specs.Reads.{MayCount, IsHandleError}

-- why a level is not served: by a codec, or since its fill value denotes no element
pub data Refused : Type 0 where
  by_codec : Unserved → Refused
  by_fill : Refused

-- the error says so
abbrev pub refusal_tells : Refused → CodecError → Type 0
refusal_tells (by_codec why) e = e ≡ unserved_error why
refusal_tells by_fill e = told_by e ≡ other_fill

-- where there is a reason the call is refused by it, or memory ran out
abbrev pub RefusesFor : {T : Type 0} → Option Refused → Result T CodecError → Type 0
RefusesFor None result = Unit {0}
RefusesFor (Some why) (Ok v) = ⊥
RefusesFor (Some why) (Err e) = (e ≡ codec.OutOfMemory) ⊎ refusal_tells why e

-- what a handle shows
pub record ListSeen : Type 0 where
  -- its shape, data type and fill element, and the bytes of its fill value
  pub level : Level
  pub fill : List ℕ
  -- whether that, and what codecs make of it below, is short
  pub short : Bool
  -- why these are not served, if they are not
  pub unserved : Option Refused
  -- whether the value is there, and the list of all elements, which is that of the fill where the
  -- value is absent, and none where it does not decode
  pub there : Bool
  pub list : Options → Option (List Element)
  -- the content and the counts of what is below, and the key of the value there
  pub shown : Shown
  pub key : List ℕ
  -- the names of the references that the handle holds, and its key
  pub place : List ℕ
  -- how many reading calls below one here makes, and how many bytes these take for a box, or for
  -- all elements
  pub cost : ℕ
  pub taking : Option Region → ℕ
  -- whether the whole value is read for these
  pub whole : Option Region → Bool
  -- how many bytes of the value are in memory
  pub size : ℕ

-- the fill for each element of a level, if its fill value denotes one
abbrev pub fills : Level → List ℕ → Option (List Element)
fills level fill = option_map (replicate (count_of level.shape))
    (fill_element (kind_of level.data_type) fill)

-- the fill value denotes an element, and is short here and below
abbrev pub HasListFill : ListSeen → Type 0
HasListFill seen = IsSome (fill_element (kind_of seen.level.data_type) seen.fill)

abbrev pub HasShortFill : ListSeen → Type 0
HasShortFill seen = seen.short ≡ true

-- whether a fill value is short
abbrev pub is_short : Level → List ℕ → Bool
is_short level fill = nat_lt (length (innermost_fill (kind_of level.data_type) fill)) (2 ^ 32)

-- so many elements can be counted, and their bytes be addressed
pub record AreFew (kind : Kind) (number : ℕ) : Type 0 where
  pub count : number + 1 < 2 ^ 64
  pub bytes : number * size_in (fixed_size kind) < 2 ^ 64

-- a call that reads leaves all but the counts
pub record KeepsList (old new : ListSeen) : Type 0 where
  pub level : new.level ≡ old.level
  pub fill : new.fill ≡ old.fill
  pub short : new.short ≡ old.short
  pub unserved : new.unserved ≡ old.unserved
  pub there : new.there ≡ old.there
  pub list : (under : Options) → new.list under ≡ old.list under
  pub content : (key : List ℕ) → new.shown.content key ≡ old.shown.content key
  pub key : new.key ≡ old.key
  pub place : new.place ≡ old.place
  pub cost : new.cost ≡ old.cost
  pub taking : (asked : Option Region) → new.taking asked ≡ old.taking asked
  pub whole : (asked : Option Region) → new.whole asked ≡ old.whole asked
  pub size : new.size ≡ old.size
  pub later : old.shown.faults ≤ new.shown.faults

-- nothing was read
pub record IsUnread (old new : Shown) : Type 0 where
  pub asks : new.asks ≡ old.asks
  pub taken : new.taken ≡ old.taken
  pub faults : new.faults ≡ old.faults

-- a look whether the value is there, which takes none of its bytes
pub record LooksAt {T E : Type 0} (old new : ListSeen) (result : Result T E) : Type 0 where
  pub keeps : KeepsList old new
  pub asks : OnOk result (new.shown.asks ≡ counted old.shown.asks old.cost)
  pub asks_err : OnErr result (MayCount old.shown.asks new.shown.asks old.cost)
  pub taken : new.shown.taken ≡ old.shown.taken

-- a read of a box, or of all elements
pub record ReadsList {T E : Type 0} (asked : Option Region) (old new : ListSeen)
    (result : Result T E) : Type 0 where
  pub keeps : KeepsList old new
  pub asks : OnOk result (new.shown.asks ≡ counted old.shown.asks old.cost)
  pub asks_err : OnErr result (MayCount old.shown.asks new.shown.asks old.cost)
  pub taken : OnOk result (new.shown.taken ≡ counted old.shown.taken (old.taking asked))
  pub taken_err : OnErr result (MayCount old.shown.taken new.shown.taken (old.taking asked))

-- why elements are not given: memory ran out, what is below failed, or there is no list, or no
-- value, and the error says why
abbrev pub IsListError : Bool → Option (List Element) → (CodecError → Type 0) → ℕ → ℕ → CodecError
    → Type 0
IsListError there list tells before now e = IsHandleError before now e
    ⊎ (((list ≡ None) ⊎ (there ≡ false)) × tells e)

-- a fault is told only where what is below failed
pub record TellsFault (before now : ℕ) (e : CodecError) : Type 0 where
  pub rose : (fault : StorageError) → e ≡ codec.StorageError fault → Rose before now
