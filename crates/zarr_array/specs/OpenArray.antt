-- What an opened array stands for: its document, and the array that it describes.
use Rattle.std.specs.Prelude.{◌≡◌, Result, Ok, Err}
use Rattle.zarr_model.specs.Prelude.{Description}
use Rattle.zarr_array_open.specs.Document.{ArrayDocument, describe}
use Rattle.zarr_array_open.specs.Opening.{OpenAnswer, opened}
use Rattle.zarr_array_open.specs.OpenError.{open_refusal_of, IsRefusedBy}
use Rattle.zarr_array_open.specs.Parts as parts
use Rattle.zarr_array_open.specs.declared.open_error.OpenError.{OpenError}
use Rattle.zarr_array.specs.declared.open.OpenArray.{OpenArray}

abbrev pub documented : OpenArray → ArrayDocument
documented array = parts.documented_parts array.parts

abbrev pub described_array : OpenArray → Description
described_array array = describe (documented array)

-- opening gave the array of the document, or the refusal of the text
abbrev pub OpensArrayAs : Result OpenArray OpenError → OpenAnswer → Type 0
OpensArrayAs (Ok array) answer = answer ≡ opened (documented array)
OpensArrayAs (Err error) answer = IsRefusedBy (open_refusal_of error) answer
