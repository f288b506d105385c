-- What writing calls of a handle of bytes leave.
use Rattle.std.specs.Prelude.{◌≡◌, ◌≤◌, ◌⊎◌, ℕ, Bool, true, false, List, Option, Some, None, IsSome, Result, Ok, Err}
use Rattle.std.specs.Prelude.{OnOk, OnErr}
use Rattle.zarr_model.specs.Codec.{Options}
use Rattle.zarr_model.specs.Prelude.{counted}
use Rattle.zarrs_storage.specs.declared.byte_range.ByteRange.{ByteRange}
use Rattle.zarrs_storage.specs.Parts.{held_bytes}
use Rattle.zarrs_codec_error.specs.declared.error.CodecError.{CodecError}
use Rattle.zarrs_codec_error.specs.declared.error.CodecError.TheVariants as codec
use Rattle.zarrs_codec_traits.specs.Held.{Held, Seen}
use Rattle.zarrs_codec_traits.specs.Reads.{MayCount, TellsRangeOf}

-- a handle holds this value, or is absent, under all options
abbrev pub Holds : Option (List ℕ) → Seen → Type 0
Holds value new = (under : Options) → new.held under ≡ Some value

-- it holds what it held, and all that is below is as it was
pub record Stays (old new : Seen) : Type 0 where
  pub there : new.there ≡ old.there
  pub held : (under : Options) → new.held under ≡ old.held under
  pub content : (key : List ℕ) → new.shown.content key ≡ old.shown.content key

-- it holds what it held
pub record Stands (old new : Seen) : Type 0 where
  pub there : new.there ≡ old.there
  pub held : (under : Options) → new.held under ≡ old.held under

-- whether an error is a fault of what is below
abbrev pub is_fault : CodecError → Bool
is_fault (codec.StorageError e) = true
is_fault e = false

-- where a call is refused by no such fault
abbrev pub Unless : Bool → Type 0 → Type 0
Unless true P = Unit {0}
Unless false P = P

abbrev pub UnlessFault : {T : Type 0} → Result T CodecError → Type 0 → Type 0
UnlessFault (Ok v) P = Unit {0}
UnlessFault (Err e) P = Unless (is_fault e) P

-- a change of what is held to this value, or to none
pub record Writes {T : Type 0} (value : Option (List ℕ)) (old new : Seen)
    (result : Result T CodecError) : Type 0 where
  pub ok : OnOk result (Holds value new)
  -- after a fault it holds what it held, or this, or nothing; after any other refusal nothing has
  -- changed
  pub failed : OnErr result (Stands old new ⊎ (Holds value new ⊎ Holds None new))
  pub unchanged : UnlessFault result (Stays old new)
  -- other keys stay, and the handle is still that of this key
  pub others : (other : List ℕ) → ¬ (other ≡ old.key)
      → new.shown.content other ≡ old.shown.content other
  pub key : new.key ≡ old.key
  pub place : new.place ≡ old.place
  pub cost : new.cost ≡ old.cost
  pub later : old.shown.faults ≤ new.shown.faults

-- which errors tell afterwards why what is asked for is refused: of a value that is read whole that
-- of a range of it, and else those that told of it before
abbrev pub ToldAfter : Held → Option (List ByteRange) → (CodecError → Type 0) → CodecError
    → Type 0
ToldAfter None asked before e = before e
ToldAfter (Some value) asked before e = TellsRangeOf asked value e

-- nothing was read
pub record Unasked (old new : Seen) : Type 0 where
  pub asks : new.shown.asks ≡ old.shown.asks
  pub taken : new.shown.taken ≡ old.shown.taken

-- so many more, if something was read
abbrev pub CountsIf : Bool → ℕ → ℕ → ℕ → Type 0
CountsIf false before now more = now ≡ before
CountsIf true before now more = now ≡ counted before more

-- and of a call that failed: as before, if nothing is read
abbrev pub MayCountIf : Bool → ℕ → ℕ → ℕ → Type 0
MayCountIf false before now more = now ≡ before
MayCountIf true before now more = MayCount before now more

-- a change of what is held by a function of its bytes
pub record Edits {T : Type 0} (edit : List ℕ → List ℕ) (rereads : Bool) (under : Options)
    (old new : Seen) (result : Result T CodecError) : Type 0 where
  -- what is held decodes, and the new value is made of it
  pub ok : (value : Option (List ℕ)) → old.held under ≡ Some value
      → Writes (Some (edit (held_bytes value))) old new result
  pub decodes : OnOk result (IsSome (old.held under))
  pub undecoded : old.held under ≡ None → Stays old new
  pub asks : OnOk result (CountsIf rereads old.shown.asks new.shown.asks old.cost)
  pub asks_err : OnErr result (MayCountIf rereads old.shown.asks new.shown.asks old.cost)
  pub taken : OnOk result (CountsIf rereads old.shown.taken new.shown.taken (old.taking None))
  pub taken_err : OnErr result
      (MayCountIf rereads old.shown.taken new.shown.taken (old.taking None))
  pub others : (other : List ℕ) → ¬ (other ≡ old.key)
      → new.shown.content other ≡ old.shown.content other
  pub key : new.key ≡ old.key
  pub place : new.place ≡ old.place
  pub cost : new.cost ≡ old.cost
  pub later : old.shown.faults ≤ new.shown.faults
