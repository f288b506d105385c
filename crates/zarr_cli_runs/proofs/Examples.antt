-- The first commands from the number 1, and the document, by computation.
use Rattle.std.proofs.Common.{◌≡◌, ℕ, [], ◌∷◌, codes, refl}
use Rattle.std.specs.Fmt.{digits}
use Rattle.zarr_model.specs.Prelude.{Span, read}
use Rattle.zarr_cli_runs.specs.Generator.{first_state, next_state, drawn}
use Rattle.zarr_cli_runs.specs.Summary.{number_line}
use Rattle.zarr_cli_runs.specs.MadeCommands.{draw_below, rows_drawn, columns_drawn, element_made_at, command_from}
use Rattle.zarr_cli_runs.specs.MadeCommands.{state_behind}

abbrev second : ℕ
second = state_behind (first_state 1)

abbrev third : ℕ
third = state_behind second

abbrev span : ℕ → ℕ → Span
span start size = record { start = start; size = size }

-- `read 90..104,39..211`
first_reads : command_from 1 (first_state 1) ≡ read (span 90 14 ∷ span 39 172 ∷ [])
unfolding first_state next_state drawn command_from state_behind
first_reads = refl

-- `write 137..223,21..231`, whose first element is a4 a9
second_writes : (draw_below 8 second ≡ 3) × (rows_drawn (next_state second) ≡ span 137 86) ×
    (columns_drawn (next_state second) ≡ span 21 210)
    × (element_made_at 2 137 21 ≡ 164 ∷ 169 ∷ [])
unfolding first_state next_state drawn command_from state_behind
second_writes = (refl, refl, refl, refl)

-- `read 89..174,100..238`
third_reads : command_from 3 third ≡ read (span 89 85 ∷ span 100 138 ∷ [])
unfolding first_state next_state drawn command_from state_behind
third_reads = refl

-- lines of a summary
its_lines : (number_line (codes "ok") 0 ≡ codes "ok 0\n") ×
    (number_line (codes "elements") 1820160 ≡ codes "elements 1820160\n")
unfolding digits
its_lines = (refl, refl)
