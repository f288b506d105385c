-- Why an array is not moved, and what is then left.
use Rattle.std.specs.Prelude.{◌≡◌, ◌⊎◌, ℕ, Bool, true, false, List, slice_get, Option, Some, None}
use Rattle.std.specs.List.{list_any}
use Rattle.zarr_model.specs.Prelude.{Region, count, kind, fixed_size, is_too_large, chunks_meeting, chunk_content}
use Rattle.zarr_model.specs.Prelude.{Options, Content, Description, layout, Shown, Rose}
use Rattle.zarr_array.specs.parts.Document.{ArrayDocument, describe}
use Rattle.zarr_array.specs.Told.{TellsWhy}
use Rattle.zarr_array.specs.declared.command_error.SessionErrorKind.TheVariants.{ChunkDecode}
use Rattle.zarr_rechunk.specs.Bands.{bands}
use Rattle.zarr_rechunk.specs.Moved.{AreMoved}
use Rattle.zarr_rechunk.specs.Band.{AreAlike, StaysOutside}
use Rattle.zarr_rechunk.specs.declared.error.RechunkError.{RechunkError}
use Rattle.zarr_rechunk.specs.declared.error.RechunkErrorKind.{RechunkErrorKind}
use Rattle.zarr_rechunk.specs.declared.error.RechunkErrorKind.TheVariants.{ShapeMismatch, DataTypeMismatch}
use Rattle.zarr_rechunk.specs.declared.error.RechunkErrorKind.TheVariants.{BandTooLarge, SourceChunk, SourceStore}
use Rattle.zarr_rechunk.specs.declared.error.RechunkErrorKind.TheVariants.{TargetChunk, TargetStore, OutOfMemory}

-- a key is that of a chunk that a region meets, and whose value does not decode
pub record IsDamagedIn (array : Description) (options : Options) (region : Region)
    (store : Content) (key : List ℕ) : Type 0 where
  pub number : ℕ
  pub chunk : List ℕ
  pub met : slice_get (chunks_meeting array.grid region) number ≡ Some chunk
  pub its_key : array.key chunk ≡ key
  pub damaged : chunk_content (layout array options) store chunk ≡ None

-- the cause of an error of reading a band, and of writing one: of a chunk that its value does not
-- decode and stands, and why, of a store that its count of faults rose; want of memory is free
abbrev pub ReadFails : ArrayDocument → Options → Region → Shown → Shown → RechunkErrorKind → Type 0
ReadFails source options band before now (SourceChunk key error) =
    IsDamagedIn (describe source) options band before.content key
    × TellsWhy (Some band) source options now (ChunkDecode key error)
ReadFails source options band before now SourceStore = Rose before.faults now.faults
ReadFails source options band before now OutOfMemory = Unit {0}
ReadFails source options band before now _ = ⊥

abbrev pub WriteFails : ArrayDocument → Options → Region → Shown → Shown → RechunkErrorKind → Type 0
WriteFails target options band before now (TargetChunk key error) =
    IsDamagedIn (describe target) options band before.content key
    × (now.content key ≡ before.content key)
    × TellsWhy None target options now (ChunkDecode key error)
WriteFails target options band before now TargetStore = Rose before.faults now.faults
WriteFails target options band before now OutOfMemory = Unit {0}
WriteFails target options band before now _ = ⊥

-- the cause of an error at a band, which is one of reading or of writing it
abbrev pub BandFails : ArrayDocument → ArrayDocument → Options → Region → Shown → Shown → Shown →
    Shown → RechunkErrorKind → Type 0
BandFails source target options band from_before from_now to_before to_now (SourceChunk key error) =
    ReadFails source options band from_before from_now (SourceChunk key error)
BandFails source target options band from_before from_now to_before to_now SourceStore =
    ReadFails source options band from_before from_now SourceStore
BandFails source target options band from_before from_now to_before to_now (TargetChunk key error) =
    WriteFails target options band to_before to_now (TargetChunk key error)
BandFails source target options band from_before from_now to_before to_now TargetStore =
    WriteFails target options band to_before to_now TargetStore
BandFails source target options band from_before from_now to_before to_now OutOfMemory = Unit {0}
BandFails source target options band from_before from_now to_before to_now _ = ⊥

-- the bands before one were moved, and at that one there was an error, which left the chunks of
-- the target that it does not meet
pub record FailsAtBand (source target : ArrayDocument) (options : Options) (list : List Region)
    (from_before from_now to_before to_now : Shown) (at : Option ℕ) (kind : RechunkErrorKind)
    : Type 0 where
  pub number : ℕ
  pub band : Region
  pub from_mid : Shown
  pub to_mid : Shown
  pub is_at : at ≡ Some number
  pub here : slice_get list number ≡ Some band
  pub moved : AreMoved (describe source) (describe target) options list number
      from_before from_mid to_before to_mid
  pub rest : StaysOutside (describe target) band to_mid.content to_now.content
  pub cause : BandFails source target options band from_before from_now to_before to_now kind

-- whether a region has too many elements or bytes to be in memory, and whether one of several has
abbrev pub is_large_band : Description → Region → Bool
is_large_band array region = is_too_large (fixed_size (kind array)) (count region)

abbrev pub has_large : Description → List Region → Bool
has_large array list = list_any (is_large_band array) list

-- an array may be moved into another: their shapes and data types are the same, and no band of the
-- target is too large
pub record MayMove (source target : Description) : Type 0 where
  pub alike : AreAlike source target
  pub none_large : has_large target (bands target.shape target.grid) ≡ false

-- an error before any band: why the array may not be moved, or want of memory
abbrev pub IsUnbegun : Description → Description → RechunkErrorKind → Type 0
IsUnbegun source target ShapeMismatch = ¬ (source.shape ≡ target.shape)
IsUnbegun source target DataTypeMismatch = (source.shape ≡ target.shape)
    × ¬ (source.data_type ≡ target.data_type)
IsUnbegun source target BandTooLarge = AreAlike source target
    × (has_large target (bands target.shape target.grid) ≡ true)
IsUnbegun source target OutOfMemory = AreAlike source target
IsUnbegun source target _ = ⊥

-- an error comes before any band, or at one
abbrev pub FailsToMove : ArrayDocument → ArrayDocument → Options → Shown → Shown → Shown → Shown →
    RechunkError → Type 0
FailsToMove source target options from_before from_now to_before to_now error =
    ((error.at ≡ None) × IsUnbegun (describe source) (describe target) error.kind)
    ⊎ (MayMove (describe source) (describe target)
    × FailsAtBand source target options (bands (describe target).shape (describe target).grid)
    from_before from_now to_before to_now error.at error.kind)
