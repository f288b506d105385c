-- Elements that are put into those that a handle holds.
use Rattle.std.specs.Prelude.{◌≡◌, ◌⊎◌, ℕ, Bool, true, false, not, List, length, Option, Some, None, IsSome, Result}
use Rattle.std.specs.Prelude.{IfOk, IfErr, OnOk, OnErr}
use Rattle.zarrs_codec_traits.specs.Prelude.{Region, Element, kind_of, ArrayBytes, meaning, Level, Options}
use Rattle.zarrs_codec_traits.specs.Prelude.{has_long_element, raw_of, linear, list_at, Gives, IsHandleError}
use Rattle.zarrs_codec_error.specs.declared.error.CodecError.{CodecError}
use Rattle.zarrs_codec_array_bytes.specs.declared.array_bytes.ArrayBytes as code
use Rattle.zarrs_codec_traits.specs.Writes.{UnlessFault, CountsIf, MayCountIf}
use Rattle.zarrs_codec.specs.Boxes.{is_all}
use Rattle.zarrs_codec.specs.Lists.{ListSeen, HasShortFill, KeepsList, TellsFault}
use Rattle.zarrs_codec.specs.ListWrites.{updated, is_stored, IsLeft, IsRefused, PutsList, StaysList, KeepsRest}
use Rattle.zarrs_codec.specs.ListWrites.{UnaskedList, MayPutList, Rewrites, IsUnencoded, IsEncodedList, IsUnreadList}

-- elements that are put in: whether these are all, and whether their indexer fits; their linear
-- indices, how many there are, and their bytes
pub record Change : Type 0 where
  pub all : Bool
  pub fits : Bool
  pub indices : List ℕ
  pub number : ℕ
  pub bytes : ArrayBytes

abbrev pub change_of : Level → Bool → Option Region → List (List ℕ) → ArrayBytes → Change
change_of level fits asked places bytes = record {
  all = is_all level.shape asked;
  fits = fits;
  indices = linear level.shape places;
  number = length places;
  bytes = bytes;
}

-- the list that they mean, and the one that they make of an old one
abbrev pub given_by : Level → Change → Option (List Element)
given_by level change = meaning (kind_of level.data_type) change.number change.bytes

abbrev pub made_by : Change → List Element → Option (List Element) → Option (List Element)
made_by change given old = updated change.all change.indices given old

-- a read of a box, or of all elements, or of nothing
pub record ReadsListIf {T E : Type 0} (reads : Bool) (asked : Option Region) (old new : ListSeen)
    (result : Result T E) : Type 0 where
  pub keeps : KeepsList old new
  pub asks : OnOk result (CountsIf reads old.shown.asks new.shown.asks old.cost)
  pub asks_err : OnErr result (MayCountIf reads old.shown.asks new.shown.asks old.cost)
  pub taken : OnOk result (CountsIf reads old.shown.taken new.shown.taken (old.taking asked))
  pub taken_err : OnErr result
      (MayCountIf reads old.shown.taken new.shown.taken (old.taking asked))

-- the new elements, made of what is held and of those that are put in
pub record GivesMade (under : Options) (change : Change) (tells : CodecError → Type 0)
    (old new : ListSeen) (result : Result code.ArrayBytes CodecError) : Type 0 where
  pub gives : (given : List Element) → old.unserved ≡ None
      → given_by old.level change ≡ Some given → IfOk result
      (λ v. Gives (list_at old.level (raw_of v)) (made_by change given (old.list under)))
  pub failed : (given : List Element) → old.unserved ≡ None
      → given_by old.level change ≡ Some given → IfErr result
      (λ e. IsHandleError old.shown.faults new.shown.faults e
      ⊎ IsUnreadList change.all old (old.list under) tells e)
  pub short : old.unserved ≡ None → HasShortFill old → has_long_element change.bytes ≡ false
      → IfOk result (λ v. has_long_element (raw_of v) ≡ false)
  pub fault : IfErr result (TellsFault old.shown.faults new.shown.faults)

-- a change of what is held to the elements of these bytes, with nothing read
pub record Stores {T : Type 0} (under : Options) (bytes : ArrayBytes)
    (unencoded : List Element → CodecError → Type 0) (takes : List Element → Type 0)
    (Short : Type 0) (old new : ListSeen) (result : Result T CodecError) : Type 0 where
  -- a list is stored also where the fill value denotes no element: none is then of the fill
  pub puts : (list : List Element) → old.unserved ≡ None → list_at old.level bytes ≡ Some list
      → PutsList (is_stored under old list) list old new result
  -- after a failure what is held is the old list, or this one where it is stored, or nothing
  pub left : (list : List Element) → old.unserved ≡ None → list_at old.level bytes ≡ Some list
      → OnErr result (IsLeft (is_stored under old) (Some list) old new)
  pub unserved : IsSome old.unserved → IsRefused old new result
  pub unchanged : UnlessFault result (StaysList old new)
  pub rest : KeepsRest old new
  pub unasked : UnaskedList old new
  pub cause : (list : List Element) → old.unserved ≡ None
      → list_at old.level bytes ≡ Some list → IfErr result
      (λ e. IsHandleError old.shown.faults new.shown.faults e ⊎ unencoded list e)
  -- a list is encoded first, also where it is not stored
  pub taken : (list : List Element) → old.unserved ≡ None
      → list_at old.level bytes ≡ Some list → OnOk result (takes list)
  pub encoded : old.unserved ≡ None → HasShortFill old → Short
      → IsSome (list_at old.level bytes) → has_long_element bytes ≡ false
      → IfErr result (IsHandleError old.shown.faults new.shown.faults)
  pub fault : IfErr result (TellsFault old.shown.faults new.shown.faults)

-- both: what is left, what is read, and why a call fails, also where all is short
pub record Updates {T : Type 0} (under : Options) (change : Change) (tells : CodecError → Type 0)
    (unencoded : List Element → CodecError → Type 0) (takes : List Element → Type 0)
    (Short : Type 0) (old new : ListSeen) (result : Result T CodecError) : Type 0 where
  -- a list is stored also where the fill value denotes no element: none is then of the fill
  pub puts : (given : List Element) → old.unserved ≡ None
      → given_by old.level change ≡ Some given → MayPutList (is_stored under old)
      (made_by change given (old.list under)) old new result
  -- after a failure what is held is the old list, or this one where it is stored, or nothing
  pub left : (given : List Element) → given_by old.level change ≡ Some given → OnErr result
      (IsLeft (is_stored under old) (made_by change given (old.list under)) old new)
  -- where nothing is served nothing is changed
  pub unserved : IsSome old.unserved → IsRefused old new result
  pub rewrites : Rewrites (not change.all) old new result
  pub cause : (given : List Element) → old.unserved ≡ None → change.fits ≡ true
      → given_by old.level change ≡ Some given → IfErr result
      (λ e. IsHandleError old.shown.faults new.shown.faults e
      ⊎ (IsUnreadList change.all old (old.list under) tells e
      ⊎ IsUnencoded (made_by change given (old.list under)) unencoded e))
  -- the new list is encoded, also where it is not stored
  pub taken : (given : List Element) → old.unserved ≡ None
      → given_by old.level change ≡ Some given
      → OnOk result (IsEncodedList (made_by change given (old.list under)) takes)
  pub encoded : (given : List Element) → old.unserved ≡ None → HasShortFill old → Short
      → has_long_element change.bytes ≡ false → change.fits ≡ true
      → given_by old.level change ≡ Some given → IfErr result
      (λ e. IsHandleError old.shown.faults new.shown.faults e
      ⊎ IsUnreadList change.all old (old.list under) tells e)
  pub fault : IfErr result (TellsFault old.shown.faults new.shown.faults)
