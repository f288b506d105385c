-- The parts of a line, and what the parsed lines of an input stand for.
use Rattle.std.specs.Prelude.{◌≡◌, ℕ, ◌-◌, ◌<◌, List, [], ◌∷◌, ◌++◌, length, map, Option, Some, None}
use Rattle.std.specs.List.{AllZip}
use Rattle.std.specs.declared.ops.Range.{Range}
use Rattle.zarr_model.specs.Prelude.{Span, Kind, Command, Matches}
use Rattle.zarr_model.specs.Command as Model
use Rattle.zarr_array_boxes.specs.declared.command.Reply.{Reply}
use Rattle.zarr_array_boxes.specs.Command.{answer_of}
use Rattle.zarr_cli_lines.specs.Text.{good_lines, line_of, reply_text, replies_text}
use Rattle.zarr_cli_lines.specs.declared.entry.Entry.{Entry}
use Rattle.zarr_cli_lines.specs.declared.parse.LineError.{LineError}
use Rattle.zarr_cli_lines.specs.declared.parse.LineError.TheVariants.{OutOfForm, OutOfMemory}

-- three texts, if they are three
abbrev pub three_of : List (List ℕ) → Option (List ℕ × List ℕ × List ℕ)
three_of (a ∷ b ∷ c ∷ []) = Some (a, b, c)
three_of _ = None

-- two texts, if they are two
abbrev pub two_of : List (List ℕ) → Option (List ℕ × List ℕ)
two_of (a ∷ b ∷ []) = Some (a, b)
two_of _ = None

-- a range as a span, of length 0 where its end is below its start
abbrev pub span_of_range : Range ℕ → Span
span_of_range range = record { start = range.start; size = range.end - range.start }

-- the key of an entry, and its value
abbrev pub entry_view : Entry → List ℕ × List ℕ
entry_view entry = (entry.key, entry.value.items)

-- lines are out of form after so many good ones, by a grammar of commands, or memory ran out
abbrev pub IsLineFault : LineError → (List ℕ → Option Command) → List (List ℕ) → Type 0
IsLineFault (OutOfForm good) grammar lines =
    (good ≡ good_lines grammar lines) × (good < length lines)
IsLineFault OutOfMemory grammar lines = Unit {0}

-- a text has the lines of each list of the model's replies that these are
abbrev pub IsTextOfReplies : Kind → List Reply → List ℕ → Type 0
IsTextOfReplies kind held text = (answers : List Model.Reply) →
    AllZip (Matches kind) (map answer_of held) answers → text ≡ replies_text answers

-- the line of a reply was appended to a text, for each reply of the model that this one is
abbrev pub AppendsReply : Kind → Reply → List ℕ → List ℕ → Type 0
AppendsReply kind reply before now = (answer : Model.Reply) →
    Matches kind (answer_of reply) answer → now ≡ before ++ line_of (reply_text answer)
