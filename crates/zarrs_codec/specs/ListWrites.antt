-- What writing calls of a handle of elements answer and leave.
use Rattle.std.specs.Prelude.{◌≡◌, ◌≤◌, ◌⊎◌, ℕ, Bool, true, false, not, ◌||◌, List, Option, Some, None, option_map}
use Rattle.std.specs.Prelude.{Result, OnOk, OnErr}
use Rattle.std.specs.List.{list_all}
use Rattle.zarrs_codec_traits.specs.Prelude.{Region, Element, Kind, same_element, fill_element, kind_of, ArrayBytes}
use Rattle.zarrs_codec_traits.specs.Prelude.{Options, BytesAnswer, fine, told_by, other_fill, validity, then_answer}
use Rattle.zarrs_codec_traits.specs.Prelude.{first_answer}
use Rattle.zarrs_codec_slices.specs.Picking.{replaced}
use Rattle.zarrs_codec_error.specs.declared.error.CodecError.{CodecError}
use Rattle.zarrs_codec_traits.specs.Writes.{UnlessFault, CountsIf, MayCountIf}
use Rattle.zarrs_codec.specs.Lists.{ListSeen, IsUnread}

-- what is said of the elements that are given, and then of the indexer
abbrev pub given_answer : Kind → Bool → ℕ → ArrayBytes → BytesAnswer
given_answer kind fits number given =
    then_answer (validity kind number given) (first_answer None fits fine)

-- the new list: where all elements are given these alone, else the old list with those at these
-- indices replaced, if there is an old list
abbrev pub updated : Bool → List ℕ → List Element → Option (List Element) → Option (List Element)
updated true indices given old = Some given
updated false indices given old = option_map (replaced indices given) old

-- all elements are this one
abbrev pub are_all : Option Element → List Element → Bool
are_all None list = false
are_all (Some element) list = list_all (same_element element) list

-- whether a list is stored: one of the fill is not, unless the options say so
abbrev pub is_kept : Options → Option Element → List Element → Bool
is_kept under element list = under.store_empty_chunks || not (are_all element list)

abbrev pub is_stored : Options → ListSeen → List Element → Bool
is_stored under seen list =
    is_kept under (fill_element (kind_of seen.level.data_type) seen.fill) list

-- a handle holds this list under all options, of a value that is there or is absent
pub record HoldsList (present : Bool) (elements : Option (List Element)) (new : ListSeen)
    : Type 0 where
  pub there : new.there ≡ present
  pub list : (under : Options) → new.list under ≡ elements

-- the value is absent
abbrev pub IsAbsent : ListSeen → Type 0
IsAbsent new = new.there ≡ false

-- it holds what it held
pub record SameList (old new : ListSeen) : Type 0 where
  pub there : new.there ≡ old.there
  pub list : (under : Options) → new.list under ≡ old.list under

-- a value that is there and holds this list, where such a list is stored
abbrev pub HoldsStored : Bool → List Element → ListSeen → Type 0
HoldsStored false list new = ⊥
HoldsStored true list new = HoldsList true (Some list) new

-- what a writing call that failed leaves: what was held; or, if there is a new list, nothing, or
-- that list, where such a list is stored
abbrev pub IsLeft : (List Element → Bool) → Option (List Element) → ListSeen → ListSeen → Type 0
IsLeft stored None old new = SameList old new
IsLeft stored (Some list) old new =
    SameList old new ⊎ (IsAbsent new ⊎ HoldsStored (stored list) list new)

-- it holds what it held, and all that is below is as it was
pub record StaysList (old new : ListSeen) : Type 0 where
  pub there : new.there ≡ old.there
  pub list : (under : Options) → new.list under ≡ old.list under
  pub content : (key : List ℕ) → new.shown.content key ≡ old.shown.content key

-- what a writing call leaves as it was, whatever it answers: other keys, and all of the handle but
-- its value and its counts
pub record KeepsRest (old new : ListSeen) : Type 0 where
  pub level : new.level ≡ old.level
  pub fill : new.fill ≡ old.fill
  pub short : new.short ≡ old.short
  pub unserved : new.unserved ≡ old.unserved
  pub others : (other : List ℕ) → ¬ (other ≡ old.key)
      → new.shown.content other ≡ old.shown.content other
  pub key : new.key ≡ old.key
  pub place : new.place ≡ old.place
  pub cost : new.cost ≡ old.cost
  pub whole : (asked : Option Region) → new.whole asked ≡ old.whole asked
  pub later : old.shown.faults ≤ new.shown.faults

-- nothing was read
pub record UnaskedList (old new : ListSeen) : Type 0 where
  pub asks : new.shown.asks ≡ old.shown.asks
  pub taken : new.shown.taken ≡ old.shown.taken

-- a call that is refused, and leaves all as it was
pub record IsRefused {T : Type 0} (old new : ListSeen) (result : Result T CodecError) : Type 0
  where
    pub err : OnOk result ⊥
    pub stays : StaysList old new

-- a change of what is held to a list
pub record PutsList {T : Type 0} (stored : Bool) (list : List Element) (old new : ListSeen)
    (result : Result T CodecError) : Type 0 where
  pub ok : OnOk result (HoldsList stored (Some list) new)
  pub failed : OnErr result (IsLeft (λ other. stored) (Some list) old new)

-- a change of what is held to nothing
pub record ErasesList {T : Type 0} (old new : ListSeen) (result : Result T CodecError)
    : Type 0 where
  pub ok : OnOk result (IsAbsent new)
  pub failed : OnErr result (SameList old new ⊎ IsAbsent new)

-- a change of what is held to a new list, if there is one
abbrev pub MayPutList : {T : Type 0} → (List Element → Bool) → Option (List Element) → ListSeen
    → ListSeen → Result T CodecError → Type 0
MayPutList stored None old new result = OnOk result ⊥
MayPutList stored (Some list) old new result = PutsList (stored list) list old new result

-- what a change of elements leaves, and what it reads: the whole value, unless all elements are
-- given
pub record Rewrites {T : Type 0} (rereads : Bool) (old new : ListSeen)
    (result : Result T CodecError) : Type 0 where
  pub unchanged : UnlessFault result (StaysList old new)
  pub rest : KeepsRest old new
  pub asks : OnOk result (CountsIf rereads old.shown.asks new.shown.asks old.cost)
  pub asks_err : OnErr result (MayCountIf rereads old.shown.asks new.shown.asks old.cost)
  pub taken : OnOk result (CountsIf rereads old.shown.taken new.shown.taken (old.taking None))
  pub taken_err : OnErr result
      (MayCountIf rereads old.shown.taken new.shown.taken (old.taking None))

-- nothing was read or changed, where what is told is no want of memory
abbrev pub IsUntouchedList : BytesAnswer → ListSeen → ListSeen → Type 0
IsUntouchedList fine old new = Unit {0}
IsUntouchedList _ old new = StaysList old new × IsUnread old.shown new.shown

-- why elements are not changed: memory ran out, what is below failed; there is no old list or no
-- value, and the error says why; or the new list is not encoded, and the error says why
abbrev pub IsUnencoded : Option (List Element) → (List Element → CodecError → Type 0)
    → CodecError → Type 0
IsUnencoded None refuses e = ⊥
IsUnencoded (Some list) refuses e = refuses list e

-- a new list, if there is one, is one that is encoded
abbrev pub IsEncodedList : Option (List Element) → (List Element → Type 0) → Type 0
IsEncodedList None takes = ⊥
IsEncodedList (Some list) takes = takes list

-- the value is absent, the fill value denotes no element to take in its place, and the error says
-- so
pub record IsUnfilled (old : ListSeen) (e : CodecError) : Type 0 where
  pub absent : old.there ≡ false
  pub undenoted : fill_element (kind_of old.level.data_type) old.fill ≡ None
  pub told : told_by e ≡ other_fill

-- why there is no old list: where all elements are given none is asked for
abbrev pub IsUnreadList : Bool → ListSeen → Option (List Element) → (CodecError → Type 0)
    → CodecError → Type 0
IsUnreadList true old list tells e = ⊥
IsUnreadList false old list tells e =
    (((list ≡ None) ⊎ (old.there ≡ false)) × tells e) ⊎ IsUnfilled old e
