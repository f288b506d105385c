-- An array that was moved into another, and one that was not.
use Rattle.std.specs.Prelude.{◌≡◌, length, filter}
use Rattle.zarr_model.specs.Prelude.{Element, Array, chunks, Options, Description, layout, IsHonest, Means, Shown}
use Rattle.zarr_model.specs.Prelude.{counted, Rose}
use Rattle.zarr_array.specs.parts.Document.{ArrayDocument, describe}
use Rattle.zarr_rechunk.specs.Bands.{bands, meets_band}
use Rattle.zarr_rechunk.specs.Moved.{chunks_of_each, in_description, RepliesAlike, MeetsNone}
use Rattle.zarr_rechunk.specs.Fails.{MayMove, FailsToMove}
use Rattle.zarr_rechunk.specs.declared.error.RechunkError.{RechunkError}
use Rattle.zarr_rechunk.specs.declared.error.RechunkErrorKind.TheVariants.{OutOfMemory}

-- an array was moved into another, which it may be
pub record HasMovedArray (source target : Description) (options : Options)
    (from_before from_now to_before to_now : Shown) : Type 0 where
  pub may : MayMove source target
  -- the target means the array of its own shape and fill that has the elements of the source, so
  -- each read of the one has the reply of the other
  pub moves : (array : Array Element) →
      Means (layout source options) from_before.content array →
      IsHonest (layout target options) to_before.content →
      Means (layout target options) to_now.content (in_description target array)
  pub replies : IsHonest (layout target options) to_before.content →
      RepliesAlike source target options from_now.content to_now.content
  -- over any stores: no read of a band saw damage in the source, and each chunk of the target that
  -- a band meets decoded, so nothing damaged was overwritten
  pub undamaged : MeetsNone source target options (bands target.shape target.grid)
      from_before.content to_before.content
  -- each chunk of the source is asked for once for each band that meets it, and each of the target
  -- once; there are as many writing calls as chunks of the target
  pub asked_from : from_now.asks ≡ counted from_before.asks
      (chunks_of_each source.grid (bands target.shape target.grid))
  pub asked_to : to_now.asks ≡ counted to_before.asks (length
      (filter (meets_band target.grid (bands target.shape target.grid)) (chunks target.grid)))
  pub put_to : to_now.puts ≡ counted to_before.puts (length
      (filter (meets_band target.grid (bands target.shape target.grid)) (chunks target.grid)))

-- an array was not moved by its error's cause; where it may be moved, over honest stores that did
-- not fail, only memory can be wanting
pub record HasNotMoved (source target : ArrayDocument) (options : Options)
    (from_before from_now to_before to_now : Shown) (error : RechunkError) : Type 0 where
  pub cause : FailsToMove source target options from_before from_now to_before to_now error
  pub complete : MayMove (describe source) (describe target) →
      IsHonest (layout (describe source) options) from_before.content →
      IsHonest (layout (describe target) options) to_before.content →
      ¬ Rose from_before.faults from_now.faults → ¬ Rose to_before.faults to_now.faults →
      error.kind ≡ OutOfMemory
