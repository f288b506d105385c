-- How commands ended: their answers, or the error with its place.
use Rattle.std.specs.Prelude.{List, [], ◌∷◌, map, Vec, Some, Result, Ok, Err}
use Rattle.zarr_model.specs.Prelude.{Answer}
use Rattle.zarr_array_boxes.specs.Command.{answer_of}
use Rattle.zarr_array_boxes.specs.declared.command.Reply.{Reply}
use Rattle.zarr_array.specs.declared.error.SessionError.{SessionError}
use Rattle.zarr_array.specs.declared.command_error.CommandError.{CommandError}

abbrev pub Ended : Type 0
Ended = Result (List Answer) SessionError

-- a list of commands
abbrev pub ended : {Z : Type 0} → Result (Vec Reply Z) SessionError → Ended
ended (Ok replies) = Ok (map answer_of replies.items)
ended (Err error) = Err error

-- one command, whose error has its place
abbrev pub ended_one : Result Reply SessionError → Ended
ended_one (Ok reply) = Ok (answer_of reply ∷ [])
ended_one (Err error) = Err error

-- the error of a command that stands alone, which is number 0
abbrev pub ended_alone : CommandError → SessionError
ended_alone error = record { at = Some (0, error.chunks_done); kind = error.kind }

-- one command, whose error says how many of its chunks were finished
abbrev pub ended_step : Result Reply CommandError → Ended
ended_step (Ok reply) = Ok (answer_of reply ∷ [])
ended_step (Err error) = Err (ended_alone error)
