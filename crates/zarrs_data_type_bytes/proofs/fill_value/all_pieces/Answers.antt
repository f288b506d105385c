use Rattle.std.proofs.Common.{◌≡◌, ◌*◌, ◌+◌, ◌-◌, length, arith, true, false, Bool, IsTrue}
use Rattle.zarrs_data_type_bytes.proofs.PieceLaws.{next_same, one_differs}
use Rattle.zarrs_data_type_bytes.proofs.fill_value.all_pieces.Goals as goal

never : (b : Bool) {P : Type 0} → b ≡ false → IsTrue b → P
never b e h = absurd (clash b e h)
  where
    clash : (b : Bool) → b ≡ false → IsTrue b → ⊥
    clash true e h = cc
    clash false e h = cc

pub loop-k-preserved : goal.loop-k-preserved
loop-k-preserved c = next_same c.args.fill.now c.args.bytes.now c.loop-k.k
    (c.loop-k.k * length c.args.fill.now + length c.args.fill.now - c.loop-k.k * length c.args.fill.now)
    (omega arith) c.loop-k.invariant (c.are_same.ensures.0 c.if-not-are_same.false)

pub returns-then-not-are_same : goal.returns-then-not-are_same
returns-then-not-are_same c = (
  λ h. cc,
  λ all. absurd (one_differs c.args.fill.now c.args.bytes.now c.loop-k.k
      (c.loop-k.k * length c.args.fill.now + length c.args.fill.now - c.loop-k.k * length c.args.fill.now)
      (omega arith) c.loop-k-test.true
      (λ same. never c.are_same.result c.if-not-are_same.true (c.are_same.ensures.1 same)) all),
)
