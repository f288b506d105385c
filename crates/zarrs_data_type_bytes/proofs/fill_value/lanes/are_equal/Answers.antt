use Rattle.zarrs_data_type_bytes.proofs.Masks.{no_lane_differs}
use Rattle.zarrs_data_type_bytes.proofs.fill_value.lanes.are_equal.Goals as goal

pub returns : goal.returns
returns c = no_lane_differs c.args.a c.args.b c.fits-a.0 c.fits-b.0
