-- What the parts of an array stand for: its document, and the array that it describes.
use Rattle.std.specs.Prelude.{◌≡◌, Option, Some, None, Result, Ok, Err}
use Rattle.zarrs_codec_traits.specs.Prelude.{Description, fill_bytes, type_of}
use Rattle.zarr_basics.specs.BasicGrid.{basic_shape, basic_form}
use Rattle.zarr_basics.specs.Keys.{keys_of}
use Rattle.zarr_array_open.specs.Chain.{chain_form}
use Rattle.zarr_array_open.specs.Document.{ArrayDocument, document_with, describe}
use Rattle.zarr_array_open.specs.Opening.{OpenRefusal, OpenAnswer, opened}
use Rattle.zarr_array_open.specs.OpenError.{open_refusal_of, IsRefusedBy}
use Rattle.zarr_array_open.specs.declared.parts.ArrayParts.{ArrayParts}
use Rattle.zarr_array_open.specs.declared.open_error.OpenError.{OpenError}

-- its document
abbrev pub documented_parts : ArrayParts → ArrayDocument
documented_parts array = document_with (keys_of array.keys) (chain_form array.chain)
    (type_of array.data_type) (basic_shape array.grid) (basic_form array.grid)
    (fill_bytes array.fill)

-- the array that it describes
abbrev pub described_parts : ArrayParts → Description
described_parts array = describe (documented_parts array)

-- opening gave the array of the document, or the refusal of the text
abbrev pub OpensAs : Result ArrayParts OpenError → OpenAnswer → Type 0
OpensAs (Ok array) answer = answer ≡ opened (documented_parts array)
OpensAs (Err error) answer = IsRefusedBy (open_refusal_of error) answer

-- a step of opening gave what it is to give, or its refusal, or memory ran out
abbrev pub StopsBy : {Y : Type 0} → Option OpenRefusal → Result Y OpenRefusal → Type 0
StopsBy None expected = Unit {0}
StopsBy (Some why) expected = expected ≡ Err why

abbrev pub Opens : {X Y : Type 0} → (X → Y) → Result X OpenError → Result Y OpenRefusal → Type 0
Opens seen (Ok x) expected = expected ≡ Ok (seen x)
Opens seen (Err error) expected = StopsBy (open_refusal_of error) expected
