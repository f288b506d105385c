use Rattle.std.proofs.Common.{◌≡◌, Some, take}
use Rattle.serde_json.specs.View.{items_view}
use Rattle.zarrs_metadata_values.specs.Reading.{each}
use Rattle.zarrs_metadata_values.specs.Reading.{whole_number}
use Rattle.zarrs_metadata_values.proofs.json.read_each_whole_number.Given as goal

abbrev pub invariant-loop-item : goal.invariant-loop-item
invariant-loop-item l = each whole_number (items_view (take l.item-index l.items)) ≡ Some l.numbers.items
