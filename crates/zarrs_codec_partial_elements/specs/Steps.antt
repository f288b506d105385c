-- What the steps of a level of elements owe, whatever is below it.
use Rattle.std.specs.Prelude.{◌≡◌, ◌⊎◌, true, false, not, List, Option, Some, None, IsSome, Result, IfOk, IfErr, OnOk}
use Rattle.std.specs.Prelude.{OnErr}
use Rattle.zarrs_codec.specs.Prelude.{Region, Element, kind_of, meaning, Level, Options, has_long_element, raw_of}
use Rattle.zarrs_codec.specs.Prelude.{list_at, smaller_box, Change, Choice, ListSeen, IsListError, ReadsList}
use Rattle.zarrs_codec.specs.Prelude.{RefusesFor, TellsFault}
use Rattle.zarrs_codec.specs.Lists.{HasShortFill}
use Rattle.zarrs_codec.specs.ListWrites.{IsUnfilled}
use Rattle.zarrs_codec.specs.Selects.{Selects}
use Rattle.zarrs_codec.specs.Updates.{given_by, GivesMade, ReadsListIf}
use Rattle.zarrs_codec_error.specs.declared.error.CodecError.{CodecError}
use Rattle.zarrs_codec_array_bytes.specs.declared.array_bytes.ArrayBytes as code

-- a step that reads a box that is smaller than the shape, or all elements: it gives some of them,
-- for whatever is asked for that is read so, and what is given is valid
pub record ReadsStep (under : Options) (box : Option Region) (choice : Level → Choice)
    (tells : Options → Option Region → CodecError → Type 0) (old new : ListSeen)
    (result : Result code.ArrayBytes CodecError) : Type 0 where
  pub selects : (asked : Option Region) → smaller_box old.level.shape asked ≡ box
      → Selects under asked (choice old.level) true (tells under asked) old new result
  pub valid : old.unserved ≡ None → IfOk result (λ v.
      IsSome (meaning (kind_of old.level.data_type) (choice old.level).number (raw_of v)))

-- a step that reads all elements of what is held, to change them
pub record ReadsHeld (under : Options) (tells : CodecError → Type 0) (old new : ListSeen)
    (result : Result code.ArrayBytes CodecError) : Type 0 where
  pub value : (xs : List Element) → old.unserved ≡ None → old.list under ≡ Some xs
      → IfOk result (λ v. list_at old.level (raw_of v) ≡ Some xs)
  pub valid : old.unserved ≡ None → IfOk result (λ v. IsSome (list_at old.level (raw_of v)))
  pub decodes : old.unserved ≡ None → OnOk result (IsSome (old.list under))
  pub failed : old.unserved ≡ None → IfErr result
      (λ e. IsListError old.there (old.list under) tells old.shown.faults new.shown.faults e
      ⊎ IsUnfilled old e)
  pub named : RefusesFor old.unserved result
  pub short : old.unserved ≡ None → HasShortFill old
      → IfOk result (λ v. has_long_element (raw_of v) ≡ false)
  pub fault : IfErr result (TellsFault old.shown.faults new.shown.faults)
  pub reads : ReadsList None old new result

-- a step that makes all elements of a change: of the old ones, unless all are given
pub record MakesElements (under : Options) (change : Change) (tells : CodecError → Type 0)
    (old new : ListSeen) (result : Result code.ArrayBytes CodecError) : Type 0 where
  pub made : GivesMade under change tells old new result
  pub reads : ReadsListIf (not change.all) None old new result
  pub named : OnErr result (RefusesFor old.unserved result)
  pub served : change.all ≡ false → RefusesFor old.unserved result
  pub valid : change.all ≡ true → IsSome (given_by old.level change)
      → IfOk result (λ v. IsSome (list_at old.level (raw_of v)))
