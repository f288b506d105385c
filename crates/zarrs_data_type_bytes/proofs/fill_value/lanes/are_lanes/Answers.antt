use Rattle.zarrs_data_type_bytes.proofs.LaneLaws.{lane_same, lane_differs, never}
use Rattle.zarrs_data_type_bytes.proofs.fill_value.lanes.are_lanes.Goals as goal

pub returns-then-not-is_at : goal.returns-then-not-is_at
returns-then-not-is_at c = (
  λ h. cc,
  λ all. absurd (lane_differs c.args.lanes c.args.bytes.now c.loop-k.k 16 c.fits-lanes.0 c.loop-k-test.true
      (λ same. never c.is_at.result c.if-not-is_at.true (c.is_at.ensures.1 same)) all),
)

pub loop-k-preserved : goal.loop-k-preserved
loop-k-preserved c = lane_same c.args.lanes c.args.bytes.now c.loop-k.k 16 c.fits-lanes.0 c.loop-k.invariant
    (c.is_at.ensures.0 c.if-not-is_at.false)
