-- The lines of a run over references: a document, key lines, ref lines, and lines that read.
use Rattle.std.specs.Prelude.{ℕ, ◌+◌, ◌&&◌, Bool, false, if◌then◌else◌, List, [], ◌∷◌, length, map, drop, codes}
use Rattle.std.specs.Prelude.{bytes_eq, Option, Some, None, is_some}
use Rattle.std.specs.List.{prefix_len}
use Rattle.zarrs_plugin.specs.Number.{number_of}
use Rattle.zarr_model.specs.Prelude.{Kind, Command, is_store_key}
use Rattle.zarr_array.specs.boxes.Command.{is_read}
use Rattle.zarr_cli_lines.specs.Text.{split_at, all_some, line_command, first_entries, lines_after_entries}
use Rattle.zarr_refs.specs.declared.reference.Reference.{Reference}

-- five texts, if they are five
abbrev pub five_of : List (List ℕ) → Option (List ℕ × List ℕ × List ℕ × List ℕ × List ℕ)
five_of (a ∷ b ∷ c ∷ d ∷ e ∷ []) = Some (a, b, c, d, e)
five_of _ = None

-- a reference, if both of its keys are store keys
abbrev pub reference_of : List ℕ → List ℕ → Option ℕ → Option ℕ → Option Reference
reference_of key base (Some offset) (Some len) = if is_store_key key && is_store_key base
    then Some (record { key = key; base = base; offset = offset; length = len }) else None
reference_of key base _ _ = None

-- a ref line: `ref`, a key, the key of its base, an offset and a length
abbrev pub reference_of_words : Option (List ℕ × List ℕ × List ℕ × List ℕ × List ℕ) →
    Option Reference
reference_of_words None = None
reference_of_words (Some (word, key, base, offset, len)) = if bytes_eq word (codes "ref")
    then reference_of key base (number_of offset) (number_of len) else None

abbrev pub reference_of_line : List ℕ → Option Reference
reference_of_line line = reference_of_words (five_of (split_at 32 line))

-- the references of the ref lines that stand first
abbrev pub references_onto : Option Reference → List Reference → List Reference
references_onto None references = []
references_onto (Some reference) references = reference ∷ references

abbrev pub first_references : List (List ℕ) → List Reference
first_references [] = []
first_references (line ∷ lines) = references_onto (reference_of_line line) (first_references lines)

-- the references of lines, and the lines from the first one on that is no ref line
abbrev pub line_references : List (List ℕ) → List Reference
line_references lines = first_references (lines_after_entries lines)

abbrev pub lines_after_references : List (List ℕ) → List (List ℕ)
lines_after_references lines = drop (length (line_references lines)) (lines_after_entries lines)

-- a command that reads
abbrev pub that_reads : Option Command → Option Command
that_reads None = None
that_reads (Some command) = if is_read command then Some command else None

abbrev pub line_read : Kind → List ℕ → Option Command
line_read kind line = that_reads (line_command kind line)

-- the reads of the lines after the references, if each reads
abbrev pub reads_of : Kind → List (List ℕ) → Option (List Command)
reads_of kind lines = all_some (map (line_read kind) (lines_after_references lines))

-- how many lines are reads before the first that is none, and whether that one writes or erases
abbrev pub good_reads : Kind → List (List ℕ) → ℕ
good_reads kind lines = prefix_len (λ line. is_some (line_read kind line)) lines

abbrev pub is_command : Kind → List (List ℕ) → Bool
is_command kind [] = false
is_command kind (line ∷ lines) = is_some (line_command kind line)

abbrev pub changes_first : Kind → List (List ℕ) → Bool
changes_first kind lines = is_command kind (drop (good_reads kind lines) lines)

-- how many lines come before the first that is not of its form
abbrev pub good_ref_lines : Kind → List (List ℕ) → ℕ
good_ref_lines kind lines = length (first_entries lines) + length (line_references lines)
    + good_reads kind (lines_after_references lines)
