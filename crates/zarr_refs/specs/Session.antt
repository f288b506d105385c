-- Sessions of commands that read.
use Rattle.std.specs.Prelude.{ℕ, suc, if◌then◌else◌, List, [], ◌∷◌, Vec, Option, Some, None, option_map, MatchOption}
use Rattle.std.specs.Prelude.{Result, Ok, Err, IfErr}
use Rattle.zarr_model.specs.Prelude.{Command, Options, Shown}
use Rattle.zarr_array.specs.boxes.Command.{is_read, region_at}
use Rattle.zarr_array.specs.Ended.{Ended, ended}
use Rattle.zarr_array.specs.boxes.declared.command.Reply.{Reply}
use Rattle.zarr_array.specs.Told.{TellsWhy}
use Rattle.zarr_array.specs.parts.Document.{ArrayDocument}
use Rattle.zarr_refs.specs.declared.error.RefSessionError.{RefSessionError}
use Rattle.zarr_refs.specs.declared.error.RefSessionError.TheVariants.{ReadOnly, Session}

-- the number of the first command of a list that does not read
abbrev pub first_change : List Command → Option ℕ
first_change [] = None
first_change (command ∷ commands) = if is_read command
    then option_map suc (first_change commands) else Some 0

-- how the session ended, if there was one
abbrev pub session_ended : {Z : Type 0} → Result (Vec Reply Z) RefSessionError → Option Ended
session_ended (Ok replies) = Some (ended (Ok replies))
session_ended (Err (Session error)) = Some (Err error)
session_ended (Err (ReadOnly command)) = None

-- there was one, and it ended so
abbrev pub IsSession : {Z : Type 0} → Result (Vec Reply Z) RefSessionError →
    (Ended → Type 0) → Type 0
IsSession result P = MatchOption (session_ended result) ⊥ P

-- an error of a chunk tells why its value does not decode
abbrev pub TellsError : ArrayDocument → Options → List Command → Shown → Ended → Type 0
TellsError document options commands now ended = IfErr ended (λ error.
    TellsWhy (region_at commands error.at) document options now error.kind)
