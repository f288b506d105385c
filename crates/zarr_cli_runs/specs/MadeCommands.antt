-- The commands that are made from a number.
use Rattle.std.specs.Prelude.{ℕ, zero, suc, ◌+◌, ◌-◌, ◌*◌, ◌/◌, ◌%◌, nat_lt, min, max, if◌then◌else◌, List, [], ◌∷◌}
use Rattle.std.specs.Prelude.{flat_map}
use Rattle.std.specs.List.{range_with_len}
use Rattle.zarr_model.specs.Prelude.{Span, Region, fixed_bytes, Command, read, write, erase}
use Rattle.zarr_cli_runs.specs.Generator.{first_state, next_state, drawn}

-- what a draw from a state gives, modulo a number
abbrev pub draw_below : ℕ → ℕ → ℕ
draw_below n state = drawn (next_state state) % n

-- the state after several draws
abbrev pub after_draws : ℕ → ℕ → ℕ
after_draws zero state = state
after_draws (suc n) state = after_draws n (next_state state)

-- from the smaller of two numbers to the larger
abbrev pub span_across : ℕ → ℕ → Span
span_across a b = record { start = min a b; size = max a b - min a b }

-- the span of the next two draws
abbrev pub span_drawn : ℕ → Span
span_drawn state = span_across (draw_below 257 state) (draw_below 257 (next_state state))

-- the rows of the next four draws, and the columns
abbrev pub rows_drawn : ℕ → Span
rows_drawn state = span_drawn state

abbrev pub columns_drawn : ℕ → Span
columns_drawn state = span_drawn (after_draws 2 state)

abbrev pub region_drawn : ℕ → Region
region_drawn state = rows_drawn state ∷ columns_drawn state ∷ []

-- the element that command k writes at a row and a column, low byte first
abbrev pub number_at : ℕ → ℕ → ℕ → ℕ
number_at k row column = (4099 * k + 257 * row + column) % 65536

abbrev pub element_made_at : ℕ → ℕ → ℕ → List ℕ
element_made_at k row column = number_at k row column % 256 ∷ number_at k row column / 256 ∷ []

-- the elements that command k writes in a row, and in all rows
abbrev pub row_of : ℕ → Span → ℕ → List ℕ
row_of k columns row = flat_map (element_made_at k row) (range_with_len columns.start columns.size)

abbrev pub rows_of : ℕ → Span → Span → List ℕ
rows_of k rows columns = flat_map (row_of k columns) (range_with_len rows.start rows.size)

-- command k of a kind, from the state after the draw of its kind: 0 to 3 write, 4 to 6 read, and
-- 7 erases
abbrev pub command_of_kind : ℕ → ℕ → ℕ → Command
command_of_kind kind k state =
    if nat_lt kind 4
    then write (region_drawn state)
    (fixed_bytes (rows_of k (rows_drawn state) (columns_drawn state)))
    else if nat_lt kind 7 then read (region_drawn state)
    else erase (draw_below 7 state ∷ draw_below 8 (next_state state) ∷ [])

-- how many draws it takes
abbrev pub draws_of_kind : ℕ → ℕ
draws_of_kind kind = if nat_lt kind 7 then 4 else 2

-- command k from a state, and the state behind it
unfoldable pub command_from : ℕ → ℕ → Command
command_from k state = command_of_kind (draw_below 8 state) k (next_state state)

unfoldable pub state_behind : ℕ → ℕ
state_behind state = after_draws (draws_of_kind (draw_below 8 state)) (next_state state)

-- so many commands from command k on
abbrev pub commands_from : ℕ → ℕ → ℕ → List Command
commands_from zero k state = []
commands_from (suc n) k state = command_from k state ∷ commands_from n (k + 1) (state_behind state)

-- the 300 commands that are made from a number
unfoldable pub made_commands : ℕ → List Command
made_commands number = commands_from 300 1 (first_state number)
