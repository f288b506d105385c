-- What the program's own words, settings and statuses stand for.
use Rattle.std.specs.Prelude.{ℕ, List, map, String, string_bytes}
use Rattle.zarrs_codec_traits.specs.Views.{options_of}
use Rattle.zarr_cli_runs.specs.declared.status.Status.{Status}
use Rattle.zarr_cli_runs.specs.declared.status.Status.TheVariants.{BadInput, Read, TooLong, OutOfMemory}
use Rattle.zarr_cli.specs.declared.lines.InputFault.{InputFault}
use Rattle.zarr_cli.specs.declared.lines.InputFault.TheVariants as Fault
use Rattle.zarr_cli.specs.declared.words.Words as Held
use Rattle.zarr_cli.specs.Words.{Settings}

-- the words of the command line, as bytes
abbrev pub words_of : {Z : Type 0} → List (String Z) → List (List ℕ)
words_of words = map string_bytes words

-- the settings that the program's own ones stand for
abbrev pub settings_view : Held.Words → Settings
settings_view settings = record {
  dump = settings.dump;
  options = options_of settings.options;
  make = settings.make;
}

-- the status of an input whose lines were not read
abbrev pub fault_status : InputFault → Status
fault_status Fault.Read = Read
fault_status Fault.TooLong = TooLong
fault_status (Fault.NotUtf8 line) = BadInput line
fault_status Fault.OutOfMemory = OutOfMemory
