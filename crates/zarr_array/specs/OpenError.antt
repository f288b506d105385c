-- The ends of sessions whose documents are not opened.
use Rattle.std.specs.Prelude.{Option, Some, None}
use Rattle.zarr_array_open.specs.Opening.{OpenRefusal}
use Rattle.zarr_array_open.specs.OpenError.{open_refusal_of}
use Rattle.zarr_array_open.specs.declared.open_error.OpenError.{OpenError}
use Rattle.zarr_array.specs.declared.command_error.SessionErrorKind.{SessionErrorKind}
use Rattle.zarr_array.specs.declared.command_error.SessionErrorKind.TheVariants.{NotOpened, OutOfMemory}

-- a session whose document is not opened
abbrev pub ended_for : Option OpenRefusal → OpenError → SessionErrorKind
ended_for None error = OutOfMemory
ended_for (Some why) error = NotOpened error

abbrev pub ended_by : OpenError → SessionErrorKind
ended_by error = ended_for (open_refusal_of error) error
