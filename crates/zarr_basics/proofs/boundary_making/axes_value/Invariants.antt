use Rattle.std.proofs.Common.{◌≡◌, map, take}
use Rattle.serde_json.specs.View.{view}
use Rattle.zarrs_metadata_values.specs.Writing.{numbers_data}
use Rattle.zarr_basics.specs.Axes.{lengths_of}
use Rattle.zarr_basics.proofs.boundary_making.axes_value.Given as goal

abbrev pub invariant-loop-axis : goal.invariant-loop-axis
invariant-loop-axis l = map view l.items.items ≡ map numbers_data (lengths_of (take l.axis-index l.axes))
