-- What commands take of a store where the codec `bytes` is all of the array's chain.
use Rattle.std.specs.Prelude.{◌≡◌, true, List, OnOk}
use Rattle.zarr_model.specs.Prelude.{Options, Shown, Command, TakesNeeded}
use Rattle.zarr_array.specs.Plain.{is_bytes_alone}
use Rattle.zarr_array_open.specs.Document.{ArrayDocument, describe}
use Rattle.zarr_array.specs.Ended.{Ended}

-- commands that ran took exactly the bytes that they need
abbrev pub TakesAlone : ArrayDocument → Options → List Command → Shown → Shown → Ended → Type 0
TakesAlone document options commands before now ended = is_bytes_alone document ≡ true →
    OnOk ended (TakesNeeded (describe document) options commands before now)
