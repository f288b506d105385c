-- How the program ends, and what the sink is given then.
use Rattle.std.specs.Prelude.{◌≡◌, ℕ, ◌⊎◌, List, [], ◌++◌, take, codes, decimal, Option, Some, None, option_map}
use Rattle.zarr_model.specs.Prelude.{Given, Rose}
use Rattle.zarr_cli_lines.specs.Text.{line_of}
use Rattle.zarr_cli_runs.specs.array.parts.Opening.{OpenRefusal, open_refusal_name}

-- the endings
pub data Ending : Type 0 where
  done : Ending
  bad_words : Ending
  bad_input : ℕ → Ending
  refused_document : OpenRefusal → Ending
  damaged_chunk : List ℕ → Ending
  store_fault : Ending
  read_fault : Ending
  write_fault : Ending
  too_long : Ending
  out_of_memory : Ending

-- the status code
abbrev pub ending_code : Ending → ℕ
ending_code done = 0
ending_code bad_words = 2
ending_code (bad_input line) = 3
ending_code (refused_document why) = 4
ending_code (damaged_chunk key) = 5
ending_code store_fault = 6
ending_code read_fault = 7
ending_code write_fault = 8
ending_code too_long = 9
ending_code out_of_memory = 10

-- the one line that stands in place of the replies, no text where memory was wanting, or none where
-- replies are written
abbrev pub ending_line : Ending → Option (List ℕ)
ending_line done = None
ending_line bad_words = Some (line_of (codes "words"))
ending_line (bad_input line) = Some (line_of (codes "input " ++ decimal line))
ending_line (refused_document why) = Some (line_of (codes "document " ++ open_refusal_name why))
ending_line (damaged_chunk key) = Some (line_of (codes "chunk " ++ key))
ending_line store_fault = Some (line_of (codes "store"))
ending_line read_fault = Some (line_of (codes "read"))
ending_line write_fault = None
ending_line too_long = Some (line_of (codes "too long"))
ending_line out_of_memory = Some []

-- the sink was given a text, and told it where it tells its bytes
abbrev pub IsGiven : List ℕ → Option (List ℕ) → Option (List ℕ) → Type 0
IsGiven text before now = now ≡ option_map (λ bytes. bytes ++ text) before

-- the sink was given a front of a text
abbrev pub IsGivenFront : List ℕ → Option (List ℕ) → Option (List ℕ) → Type 0
IsGivenFront text before now = (n : ℕ) × IsGiven (take n text) before now

-- the sink was given the line, or a front of it where its count of faults rose meanwhile
abbrev pub IsGivenLine : Option (List ℕ) → Given → Given → Type 0
IsGivenLine None before now = Unit {0}
IsGivenLine (Some line) before now =
    IsGiven line before.bytes now.bytes
    ⊎ (Rose before.faults now.faults × IsGivenFront line before.bytes now.bytes)

-- an ending is this one, or want of memory, which is free
abbrev pub IsOrMemory : Ending → Ending → Type 0
IsOrMemory ending called_for = (ending ≡ called_for) ⊎ (ending ≡ out_of_memory)

-- an ending after the commands, where the replies are written
abbrev pub IsWritten : Ending → Type 0
IsWritten ending = (ending ≡ done) ⊎ (ending ≡ write_fault)

-- an ending by the words, the reading or the input, before the store is touched
abbrev pub IsBeforeStore : Ending → Type 0
IsBeforeStore bad_words = Unit {0}
IsBeforeStore (bad_input line) = Unit {0}
IsBeforeStore (refused_document why) = Unit {0}
IsBeforeStore read_fault = Unit {0}
IsBeforeStore too_long = Unit {0}
IsBeforeStore _ = ⊥
