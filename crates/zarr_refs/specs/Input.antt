-- What the words and the input of a run over references say.
use Rattle.std.specs.Prelude.{ℕ, ◌+◌, nat_eq, Bool, true, false, if◌then◌else◌, List, length, drop, codes, bytes_eq}
use Rattle.std.specs.Prelude.{Option, Some, None}
use Rattle.std.specs.List.{list_all}
use Rattle.zarr_model.specs.Prelude.{Options, Description, Command, kind}
use Rattle.zarr_refs.specs.declared.reference.Reference.{Reference}
use Rattle.zarr_cli_lines.specs.Text.{first_entries}
use Rattle.zarr_cli_runs.specs.array.parts.Document.{describe}
use Rattle.zarr_cli_runs.specs.array.parts.Opening.{OpenAnswer, opened, not_opened, open_builtin}
use Rattle.zarr_cli_runs.specs.Ending as end
use Rattle.zarr_cli.specs.Input.{text_says}
use Rattle.zarr_cli.specs.Lines.{first_line}
use Rattle.zarr_refs.specs.Lines.{line_references, lines_after_references, reads_of, changes_first, good_ref_lines}
use Rattle.zarr_refs.specs.Ending.{RefEnding, cli, read_only}

-- a run: an array, the options of its reads, the key lines of the base, references into it, and
-- reads
pub record RefRun : Type 0 where
  pub description : Description
  pub options : Options
  pub entries : List (List ℕ × List ℕ)
  pub references : List Reference
  pub reads : List Command

-- they say a run, or stop it before the store is touched
pub data Verdict : Type 0 where
  runs : RefRun → Verdict
  stops : RefEnding → Verdict

-- the options of the words, each of which has to be the one that is known
abbrev pub word_options : List (List ℕ) → Option Options
word_options words = if list_all (λ word. bytes_eq word (codes "--no-checksums")) words
    then Some (record { store_empty_chunks = false; validate_checksums = nat_eq (length words) 0 })
    else None

-- the ending by a line that is not of its form
abbrev pub stopped : Bool → ℕ → RefEnding
stopped true line = read_only line
stopped false line = cli (end.bad_input line)

-- what the lines behind a document say
abbrev pub with_reads : Description → Options → List (List ℕ) → Option (List Command) → Verdict
with_reads description options lines (Some reads) = runs (record {
  description = description;
  options = options;
  entries = first_entries lines;
  references = line_references lines;
  reads = reads;
})
with_reads description options lines None =
    stops (stopped (changes_first (kind description) (lines_after_references lines))
    (good_ref_lines (kind description) lines + 2))

abbrev pub ref_lines_say : Description → Options → List (List ℕ) → Verdict
ref_lines_say description options lines =
    with_reads description options lines (reads_of (kind description) lines)

-- what a document and the lines behind it say
abbrev pub document_says : Options → OpenAnswer → List (List ℕ) → Verdict
document_says options (not_opened why) lines = stops (cli (end.refused_document why))
document_says options (opened document) lines = ref_lines_say (describe document) options lines

abbrev pub all_lines_say : Options → List (List ℕ) → Verdict
all_lines_say options lines =
    document_says options (open_builtin (first_line lines)) (drop 1 lines)

-- what an input says
abbrev pub input_says_refs : Options → List ℕ → Verdict
input_says_refs options input = text_says (λ ending. stops (cli ending)) (all_lines_say options)
    input

-- what words and an input say
abbrev pub words_say : Option Options → List ℕ → Verdict
words_say None input = stops (cli end.bad_words)
words_say (Some options) input = input_says_refs options input

abbrev pub verdict : List (List ℕ) → List ℕ → Verdict
verdict words input = words_say (word_options words) input
