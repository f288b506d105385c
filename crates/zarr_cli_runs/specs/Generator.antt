-- The generator: its states, and the number that each gives.
use Rattle.std.specs.Prelude.{ℕ, ◌+◌, ◌*◌, ◌^◌, ◌/◌, ◌%◌}

-- the state of a generator that begins with a number
unfoldable pub first_state : ℕ → ℕ
first_state number = number % 2 ^ 31

-- the state after a draw
unfoldable pub next_state : ℕ → ℕ
next_state state = (1103515245 * state + 12345) % 2 ^ 31

-- what a draw that led to a state gives
unfoldable pub drawn : ℕ → ℕ
drawn state = state / 65536
