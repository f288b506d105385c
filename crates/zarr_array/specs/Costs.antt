-- What commands cost a store by what fetching a chunk costs.
use Rattle.std.specs.Prelude.{◌≡◌, ◌||◌, Bool, true, List, is_some, IfErr, OnOk}
use Rattle.std.specs.List.{list_all}
use Rattle.zarr_model.specs.Prelude.{Options, Content, Shown, Command, read, write, erase, Description, refusal}
use Rattle.zarr_model.specs.Prelude.{command_chunks, all_asks, AsksUpTo, counted, TakesNeeded}
use Rattle.zarr_array.specs.Access.{Cost, PartCost, Costs, by_chunk, by_part}
use Rattle.zarr_array.specs.Pays.{Pays, cost_of, costs_of}
use Rattle.zarr_array_boxes.specs.Command.{is_read}
use Rattle.zarr_array.specs.Ended.{Ended}

-- one call fetched each chunk, by which exactly the bytes needed were taken where that is told
pub record CostsByChunk (alone : Bool) (array : Description) (options : Options)
    (commands : List Command) (before now : Shown) (ended : Ended) : Type 0 where
  pub asks : OnOk ended (now.asks ≡ counted before.asks (all_asks array commands))
  pub stopped : IfErr ended (λ error. AsksUpTo array commands before.asks now.asks error.at)
  pub taken : alone ≡ true → OnOk ended (TakesNeeded array options commands before now)

-- what a command costs that reads: what the chunks cost that an accepted one meets
abbrev pub read_cost : PartCost → Description → Options → Content → Command → Cost
read_cost cost array options store (read region) =
    costs_of (cost_of cost array options region store) (command_chunks array (read region))
read_cost cost array options store (write region bytes) = record { asks = 0; taken = 0 }
read_cost cost array options store (erase chunk) = record { asks = 0; taken = 0 }

-- a command reads, or is refused; and each of a list does
abbrev pub only_reads : Description → Command → Bool
only_reads array command = is_read command || is_some (refusal array command)

abbrev pub OnlyReads : Description → List Command → Type 0
OnlyReads array commands = list_all (only_reads array) commands ≡ true

-- what commands cost that ran; where parts are paid for, nothing is said beside an accepted write
-- or erase
abbrev pub CostsOn : Costs → Description → Options → List Command → Shown → Shown → Ended → Type 0
CostsOn (by_chunk alone) array options commands before now ended =
    CostsByChunk alone array options commands before now ended
CostsOn (by_part cost) array options commands before now ended = OnlyReads array commands →
    OnOk ended (Pays (costs_of (read_cost cost array options before.content) commands) before now)
