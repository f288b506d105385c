-- What a single command answers.
use Rattle.std.specs.Prelude.{◌≡◌, ℕ, [], ◌∷◌, List, Some, Result, IsOk, IfOk}
use Rattle.zarr_model.specs.Prelude.{Region, ArrayBytes, Options, Shown, Command, Description, read, AreRefused}
use Rattle.zarrs_storage.specs.Store.{SameContent}
use Rattle.zarr_array_boxes.specs.Command.{IsReadReply, IsShortReply}
use Rattle.zarr_array.specs.WritesUpTo.{WritesUpTo}
use Rattle.zarr_array_boxes.specs.declared.command.Reply.{Reply}
use Rattle.zarr_array.specs.declared.error.SessionError.{SessionError}

-- commands that are all refused are answered
abbrev pub AnswersRefused : {T E : Type 0} → Description → List Command → Result T E → Type 0
AnswersRefused array commands result = AreRefused array commands → IsOk result

-- a read of a region: a refusal is an answer, the store holds what it held, and a reply that is no
-- refusal has the region's elements, none of which is too long for its length to be stored
pub record AnswersRead {E : Type 0} (array : Description) (region : Region) (before now : Shown)
    (result : Result Reply E) : Type 0 where
  pub answered : AnswersRefused array (read region ∷ []) result
  pub same : SameContent before now
  pub valid : IfOk result (IsReadReply array region)
  pub short : IfOk result IsShortReply

-- an error of a command that stands alone, which is number 0
abbrev pub IsAlone : SessionError → Type 0
IsAlone error = (k : ℕ) × (error.at ≡ Some (0, k))

-- an error of a write that stands alone: if it is not the store's, the chunks before it are
-- changed, and all other keys are as they were
abbrev pub StopsWrite : Description → Options → Region → ArrayBytes → Shown → Shown → SessionError
    → Type 0
StopsWrite array options region value before now error = (k : ℕ) × (error.at ≡ Some (0, k))
    × WritesUpTo array options region value k before now error.kind
