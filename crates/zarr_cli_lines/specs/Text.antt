-- The program's lines: the grammar of its input, and the text of its replies.
use Rattle.std.specs.Prelude.{ℕ, ◌+◌, ◌-◌, ◌==◌, if◌then◌else◌, List, [], ◌∷◌, ◌++◌, length, map, flat_map, take, drop}
use Rattle.std.specs.Prelude.{codes, bytes_eq, count_by, Option, Some, None, is_some, option_map, option_and_then}
use Rattle.std.specs.List.{prefix_len}
use Rattle.zarrs_plugin.specs.Number.{number_of}
pub use Rattle.zarr_cli_lines.specs.ElementText.{split_at, words_left, all_some, hex_of, element_of, hex_text}
pub use Rattle.zarr_cli_lines.specs.ElementText.{element_text, elements_text}
use Rattle.zarr_model.specs.Prelude.{Region, Span, Element, Kind, array_bytes, is_store_key, Command, read, write}
use Rattle.zarr_model.specs.Prelude.{erase, Reply, elements, done, refused, refusal_name}

-- the span of `a..b`, which is empty at a where b is below a; the text is split at its dots
abbrev pub span_between : ℕ → Option ℕ → Option Span
span_between from None = None
span_between from (Some to) = Some (record { start = from; size = to - from })

abbrev pub span_in_words : List (List ℕ) → Option Span
span_in_words (from ∷ [] ∷ to ∷ []) = option_and_then (λ number. span_between number (number_of to))
    (number_of from)
span_in_words _ = None

-- a box: `.` at rank 0, else ranges joined by commas
abbrev pub box_of : List ℕ → Option Region
box_of line = if bytes_eq line (codes ".") then Some []
    else all_some (map (λ range. span_in_words (split_at 46 range)) (split_at 44 line))

-- the indices of a chunk: `.` at rank 0, else numbers joined by commas
abbrev pub indices_in_line : List ℕ → Option (List ℕ)
indices_in_line line = if bytes_eq line (codes ".") then Some []
    else all_some (map number_of (split_at 44 line))

-- the write command of a region and some elements, if all are there
abbrev pub write_of : Kind → Option Region → Option (List Element) → Option Command
write_of kind (Some region) (Some list) = Some (write region (array_bytes kind list))
write_of kind _ _ = None

-- a command, by its words: `read` and a box, `write` with a box and elements, or `erase` and
-- indices
abbrev pub command_of_words : Kind → List (List ℕ) → Option Command
command_of_words kind [] = None
command_of_words kind (word ∷ []) = None
command_of_words kind (word ∷ box ∷ []) =
    if bytes_eq word (codes "read") then option_map read (box_of box)
    else if bytes_eq word (codes "write") then write_of kind (box_of box) (Some [])
    else if bytes_eq word (codes "erase") then option_map erase (indices_in_line box)
    else None
command_of_words kind (word ∷ box ∷ first ∷ rest) =
    if bytes_eq word (codes "write") then write_of kind (box_of box)
    (all_some (map (element_of kind) (first ∷ rest))) else None

-- a command line; one space separates its words
abbrev pub line_command : Kind → List ℕ → Option Command
line_command kind line = command_of_words kind (split_at 32 line)

-- a key with its value, if the key is a store key
abbrev pub key_entry_of : List ℕ → Option (List ℕ) → Option (List ℕ × List ℕ)
key_entry_of key None = None
key_entry_of key (Some value) = if is_store_key key then Some (key, value) else None

-- a key line: `key`, a key, and its value in hexadecimal
abbrev pub entry_of_words : List (List ℕ) → Option (List ℕ × List ℕ)
entry_of_words (word ∷ key ∷ value ∷ []) = if bytes_eq word (codes "key")
    then key_entry_of key (hex_of value) else None
entry_of_words _ = None

abbrev pub entry_of_line : List ℕ → Option (List ℕ × List ℕ)
entry_of_line line = entry_of_words (split_at 32 line)

-- the lines of the input: each ends with a newline, which the last one may lack; empty input is one
-- empty line
abbrev pub without_last_empty : List (List ℕ) → List (List ℕ)
without_last_empty [] = []
without_last_empty (line ∷ []) = line ∷ []
without_last_empty (line ∷ [] ∷ []) = line ∷ []
without_last_empty (line ∷ next ∷ lines) = line ∷ without_last_empty (next ∷ lines)

abbrev pub input_lines : List ℕ → List (List ℕ)
input_lines input = without_last_empty (split_at 10 input)

-- the entries of the key lines that stand first
abbrev pub entries_onto : Option (List ℕ × List ℕ) → List (List ℕ × List ℕ) → List (List ℕ × List ℕ)
entries_onto None entries = []
entries_onto (Some entry) entries = entry ∷ entries

abbrev pub first_entries : List (List ℕ) → List (List ℕ × List ℕ)
first_entries [] = []
first_entries (line ∷ lines) = entries_onto (entry_of_line line) (first_entries lines)

-- the lines from the first one on that is no key line
abbrev pub lines_after_entries : List (List ℕ) → List (List ℕ)
lines_after_entries lines = drop (length (first_entries lines)) lines

-- the commands of the lines after the key lines, if each is a command by a grammar of command lines
abbrev pub commands_of : (List ℕ → Option Command) → List (List ℕ) → Option (List Command)
commands_of grammar lines = all_some (map grammar (lines_after_entries lines))

-- how many lines come before the first one that is neither a key line at the front nor a command
abbrev pub good_lines : (List ℕ → Option Command) → List (List ℕ) → ℕ
good_lines grammar lines = length (first_entries lines) + prefix_len
    (λ line. is_some (grammar line)) (lines_after_entries lines)

-- the number of the line that has the byte at a place, from 1 on
abbrev pub line_at : List ℕ → ℕ → ℕ
line_at input n = count_by (λ b. b == 10) (take n input) + 1

-- the text of a reply: `ok` and the elements, `done`, or `refused` and the refusal's name
abbrev pub reply_text : Reply → List ℕ
reply_text (elements list) = codes "ok" ++ elements_text list
reply_text done = codes "done"
reply_text (refused why) = codes "refused " ++ refusal_name why

-- a text and its newline
abbrev pub line_of : List ℕ → List ℕ
line_of line = line ++ 10 ∷ []

-- the key line of a key and its value
abbrev pub entry_text : List ℕ × List ℕ → List ℕ
entry_text entry = codes "key " ++ entry.0 ++ (32 ∷ hex_text entry.1)

-- the lines of some replies, and of some keys
abbrev pub replies_text : List Reply → List ℕ
replies_text list = flat_map (λ answer. line_of (reply_text answer)) list

abbrev pub entries_text : List (List ℕ × List ℕ) → List ℕ
entries_text entries = flat_map (λ entry. line_of (entry_text entry)) entries
