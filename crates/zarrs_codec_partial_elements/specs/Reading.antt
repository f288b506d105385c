-- What reading elements owes.
use Rattle.std.specs.Prelude.{◌≡◌, ◌⊎◌, ℕ, Bool, true, List, Option, None, IsSome, Result, IfErr, OnOk}
use Rattle.zarrs_codec_traits.specs.Prelude.{Region, Element, DataType, Level, Options, Unserved, Seen, ReadsRanges}
use Rattle.zarrs_storage.specs.declared.byte_range.ByteRange.{ByteRange}
use Rattle.zarrs_codec_array_bytes.specs.declared.array_bytes.ArrayBytes as code
use Rattle.zarrs_codec_error.specs.declared.error.CodecError.{CodecError}
use Rattle.zarrs_codec_error.specs.declared.error.CodecError.TheVariants as codec
use Rattle.zarrs_codec.specs.Lists.{fills, IsListError, TellsFault}
use Rattle.zarrs_codec.specs.ListWrites.{IsUnfilled}
use Rattle.zarrs_codec_partial_elements.specs.declared.level.BottomLevel.{BottomLevel}
use Rattle.zarrs_codec_partial_elements.specs.Level.{level_of_bottom, bottom_fill, IsOtherFill, IsServedBottom}
use Rattle.zarrs_codec_partial_elements.specs.Level.{bottom_list_in, says_in, seen_by}
use Rattle.zarrs_codec.specs.Selects.{Choice, every}
use Rattle.zarrs_codec_partial_elements.specs.Boxes.{Denotes, GivesElements}

-- the elements that are asked for of the fill's, or why there are none
pub record FillsElements (choice : Level → Choice) (level : Level) (fill : List ℕ)
    (result : Result code.ArrayBytes CodecError) : Type 0 where
  pub gives : GivesElements (choice level) level fill (fills level fill) result
  pub failed : IfErr result (λ e. (e ≡ codec.OutOfMemory) ⊎ IsOtherFill level fill e)

-- Over the members of a codec and of a handle on bytes.
module _ {B X : Type 0}
    (unserved : B → Option (List ℕ) → Option DataType → Option (List ℕ) → Option Unserved)
    (meaning : B → Options → Level → List ℕ → Option (List Element))
    (says : B → Options → Level → List ℕ → CodecError → Type 0) (seen : X → Seen)
    (Tells : X → Options → Option (List ByteRange) → CodecError → Type 0)
    (Same : X → X → Type 0) where
  -- A read of elements, by ranges of the value or of all of it, where what was tested is in order.
  pub record ReadsElements (bottom : BottomLevel B) (choice : Level → Choice)
      (asked : Option (List ByteRange)) (in_order : Bool) (under : Options) (old new : X)
      (result : Result code.ArrayBytes CodecError) : Type 0 where
    -- of a level that is served the elements, or why there are none
    pub gives : IsServedBottom unserved bottom → GivesElements (choice (level_of_bottom bottom))
        (level_of_bottom bottom) (bottom_fill bottom)
        (bottom_list_in meaning bottom (seen old) under) result
    pub failed : IsServedBottom unserved bottom → in_order ≡ true → IfErr result
        (IsListError (seen old).there (bottom_list_in meaning bottom (seen old) under)
        (says_in meaning says bottom (Tells old) (seen old) under asked)
        (seen old).shown.faults (seen new).shown.faults)
    -- what is read as a whole has a list where it is there, or the fill value denotes an element
    pub decodes : IsServedBottom unserved bottom → asked ≡ None
        → ((seen old).there ≡ true) ⊎ Denotes (level_of_bottom bottom) (bottom_fill bottom)
        → OnOk result (IsSome (bottom_list_in meaning bottom (seen old) under))
    pub fault : IfErr result (TellsFault (seen old).shown.faults (seen new).shown.faults)
    -- what was read, and what stayed
    pub reads : ReadsRanges asked (seen old) (seen new) result
    pub same : Same old new
    pub tells : (options : Options) (ranges : Option (List ByteRange)) (e : CodecError)
        → Tells new options ranges e → Tells old options ranges e

  -- A read of all elements, which there are of an absent value where the fill value denotes one.
  pub record ReadsOld (request : B → List ℕ → DataType → Region → Option (List ByteRange))
      (bottom : BottomLevel B) (under : Options) (old new : X)
      (result : Result code.ArrayBytes CodecError) : Type 0 where
    -- of a level that is served the elements, or why there are none
    pub gives : IsServedBottom unserved bottom → GivesElements (every (level_of_bottom bottom))
        (level_of_bottom bottom) (bottom_fill bottom)
        (bottom_list_in meaning bottom (seen old) under) result
    pub failed : IsServedBottom unserved bottom → IfErr result
        (λ e. IsListError (seen old).there (bottom_list_in meaning bottom (seen old) under)
        (says_in meaning says bottom (Tells old) (seen old) under None)
        (seen old).shown.faults (seen new).shown.faults e
        ⊎ IsUnfilled (seen_by unserved meaning request bottom (seen old)) e)
    pub decodes : IsServedBottom unserved bottom
        → OnOk result (IsSome (bottom_list_in meaning bottom (seen old) under))
    pub fault : IfErr result (TellsFault (seen old).shown.faults (seen new).shown.faults)
    pub reads : ReadsRanges None (seen old) (seen new) result
    pub same : Same old new
