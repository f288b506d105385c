-- What the worked examples are computed from: an input text against a description.
use Rattle.std.proofs.Common.{ℕ, List, [], map, filter, Option, Some, None, option_map, unwrap_or}
use Rattle.std.specs.Cmp.Lexicographic.{slice_cmp}
use Rattle.std.specs.Ordering.{nat_cmp}
use Rattle.std.specs.FinMap.{find}
use Rattle.zarr_model.specs.Prelude.{Element, Array, elements_in, chunks, Content, with_keys, stored_array}
use Rattle.zarr_model.specs.Prelude.{chunk_content, Options, Command, Description, kind, layout, replies, array_after}
use Rattle.zarr_model.specs.Prelude.{present_in, present_after}
use Rattle.zarr_cli_runs.specs.lines.Text.{input_lines, first_entries, line_command, commands_of, replies_text}

abbrev pub empty_store : Content
empty_store = λ key. None

-- the store of the key lines at the front of a text
abbrev pub store_of : List ℕ → Content
store_of input = with_keys (first_entries (input_lines input)) empty_store

-- the store that holds exactly these entries, in the order of their keys
abbrev pub holding : List (List ℕ × List ℕ) → Content
holding entries = λ key. find (slice_cmp nat_cmp) key entries

-- the array at the start, and the commands
abbrev pub first_array : Description → Options → List ℕ → Array Element
first_array description options input = stored_array (layout description options) (store_of input)

abbrev pub its_commands : Description → List ℕ → List Command
its_commands description input = unwrap_or (commands_of (line_command (kind description)) (input_lines input)) []

-- the text of the replies
abbrev pub reply_lines : Description → Options → List ℕ → Option (List ℕ)
reply_lines description options input =
    option_map (λ commands. replies_text (replies description commands (first_array description options input)))
    (commands_of (line_command (kind description)) (input_lines input))

-- the elements of each chunk that are left, and those that the keys of a dump decode to
abbrev pub left_in_chunks : Description → Options → List ℕ → List (Option (List Element))
left_in_chunks description options input =
    map (λ chunk. Some (elements_in (description.grid.chunk_box chunk) (array_after description
    (its_commands description input) (first_array description options input)))) (chunks description.grid)

abbrev pub kept_in_chunks : Description → Options → List ℕ → List (Option (List Element))
kept_in_chunks description options dump =
    map (chunk_content (layout description options) (store_of dump)) (chunks description.grid)

-- the chunks that are present at the end, and those that are among the keys of a dump
abbrev pub left_chunks : Description → Options → List ℕ → List (List ℕ)
left_chunks description options input = filter
    (present_after description options (its_commands description input) (first_array description options input)
    (present_in description (store_of input)))
    (chunks description.grid)

abbrev pub kept_chunks : Description → List ℕ → List (List ℕ)
kept_chunks description dump = filter (present_in description (store_of dump)) (chunks description.grid)
