use Rattle.std.proofs.Common.{rules, ◌≡◌, ◌∙◌, ap, ℕ, ◌-◌, ◌<◌, List, [], ◌∷◌, ◌++◌}
use Rattle.zarr_v2.specs.Translate.{reversed_order}
use Rattle.zarr_v2.proofs.TypeOrderLaws.{one_taken}
use Rattle.zarr_v2.proofs.parts.falling_numbers.Goals as goal

pub loop-left-preserved : goal.loop-left-preserved
loop-left-preserved c =
    let pushed : c.push.new.self.items ≡ c.loop-left.numbers.items ++ ((c.loop-left.left - 1) ∷ []) = search rules in
    let some : 0 < c.loop-left.left = search rules in
    ap (λ (xs : List ℕ). xs ++ reversed_order (c.loop-left.left - 1)) pushed
    ∙ one_taken c.loop-left.numbers.items (reversed_order c.args.count) c.loop-left.left some c.loop-left.invariant
