use Rattle.std.proofs.Common.{◌≡◌, Some, map, take}
use Rattle.serde_json.specs.View.{items_view}
use Rattle.zarrs_metadata_values.specs.Reading.{each, whole_numbers}
use Rattle.zarr_basics.proofs.boundary_configuration.read_each_list.Given as goal

abbrev pub invariant-loop-item : goal.invariant-loop-item
invariant-loop-item l =
    each whole_numbers (items_view (take l.item-index l.items)) ≡ Some (map (λ list. list.items) l.lists.items)
