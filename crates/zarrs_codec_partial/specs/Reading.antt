-- What reading elements through a codec owes.
use Rattle.std.specs.Prelude.{◌≡◌, true, false, List, Option, Some, None, IsSome, Result, IfOk, IfErr, OnOk, OnErr}
use Rattle.zarrs_codec.specs.Prelude.{Region, whole, Element, fill_element, kind_of, meaning, Level, Options}
use Rattle.zarrs_codec.specs.Prelude.{has_long_element, raw_of, IsNoFault, Refused, RefusesFor, ListSeen, IsListError}
use Rattle.zarrs_codec.specs.Prelude.{TellsFault, ReadsList, Choice, every, boxed}
use Rattle.zarrs_codec_error.specs.declared.error.CodecError.{CodecError}
use Rattle.zarrs_codec_error.specs.declared.error.CodecError.TheVariants as codec
use Rattle.zarrs_codec_array_bytes.specs.declared.array_bytes.ArrayBytes as code
use Rattle.zarrs_codec.specs.declared.array_partial_decoder.ArrayPartialDecoderTraits as decoder
use Rattle.zarrs_codec_partial_elements.specs.Boxes.{Denotes}
use Rattle.zarrs_codec_partial.specs.Above.{CodecSeen, level_below, list_above, seen_above, box_for, first_unserved}

-- what is asked for: all elements, or those of a box
pub data Asked : Type 0 where
  every_element : Asked
  in_box : Region → Asked

-- that box, if it is one, and the one below that is then read
abbrev pub own_box : Asked → Option Region
own_box every_element = None
own_box (in_box box) = Some box

abbrev pub box_read : CodecSeen → Asked → Region
box_read at asked =
    box_for (at.region_below at.level.shape) (whole (level_below at).shape) (own_box asked)

-- how many elements these are, and which ones of a list
abbrev pub choice_of : Level → Asked → Choice
choice_of level every_element = every level
choice_of level (in_box box) = boxed box level

-- the list that array bytes mean which are given for it, if they are valid
abbrev pub given_for : Level → Asked → code.ArrayBytes → Option (List Element)
given_for level asked v =
    meaning (kind_of level.data_type) (choice_of level asked).number (raw_of v)

-- what is answered: those elements of the list above; or the error says why there are none
pub record GivesAsked (at : CodecSeen) (asked : Asked) (list : Option (List Element))
    (tells : CodecError → Type 0) (old new : ListSeen) (result : Result code.ArrayBytes CodecError)
    : Type 0 where
  pub value : (xs : List Element) → list ≡ Some xs
      → IfOk result (λ v. given_for at.level asked v ≡ Some ((choice_of at.level asked).pick xs))
  pub valid : IfOk result (λ v. IsSome (given_for at.level asked v))
  pub failed : IfErr result (IsListError old.there list tells old.shown.faults new.shown.faults)
  -- a value that is read whole below decodes, and so does one all of whose elements are read
  pub decodes : old.there ≡ true → old.whole (Some (box_read at asked)) ≡ true
      → OnOk result (IsSome list)
  pub all : own_box asked ≡ None → OnOk result (IsSome list)

-- what is read: one box below, with all else kept; only a fault there is told as one; and nothing
-- long is given where what is below is short
pub record ReadsBelow {A : Type 0} (H : decoder.Ghosts A) (box : Region) (old new : A)
    (result : Result code.ArrayBytes CodecError) : Type 0 where
  pub reads : ReadsList (Some box) (H.seen old) (H.seen new) result
  pub same : H.same old new
  pub tells : (under : Options) (asked : Option Region) (e : CodecError)
      → H.tells new under asked e → H.tells old under asked e
  pub fault : IfErr result (TellsFault (H.seen old).shown.faults (H.seen new).shown.faults)
  pub short : (H.seen old).unserved ≡ None → (H.seen old).short ≡ true
      → IfOk result (λ v. has_long_element (raw_of v) ≡ false)

-- a step of reading, at a level that the codec serves
pub record ReadsAsked {A : Type 0} (H : decoder.Ghosts A) (at : CodecSeen) (under : Options)
    (asked : Asked) (old new : A) (result : Result code.ArrayBytes CodecError) : Type 0 where
  pub gives : (seen_above at (H.seen old)).unserved ≡ None → GivesAsked at asked
      (list_above at ((H.seen old).list under)) (H.tells old under (Some (box_read at asked)))
      (H.seen old) (H.seen new) result
  pub named : RefusesFor (H.seen old).unserved result
  pub below : ReadsBelow H (box_read at asked) old new result

-- a test that the fill value denotes an element, and that the codec serves its level
pub record TestsServed {T : Type 0} (at : CodecSeen) (result : Result T CodecError) : Type 0 where
  pub served : IfOk result (λ v. at.unserved ≡ None)
  pub denotes : IfOk result (λ v. Denotes at.level at.fill)
  pub memory : at.unserved ≡ None → Denotes at.level at.fill
      → IfErr result (λ e. e ≡ codec.OutOfMemory)
  pub named : (below : Option Refused) → OnErr result (RefusesFor (first_unserved at.unserved below
      (fill_element (kind_of at.level.data_type) at.fill)) result)
  pub no_fault : IfErr result IsNoFault
