use Rattle.std.proofs.Common.{◌++◌, ◌≡◌, ◌∷◌, [], ◌%◌, arith}
use Rattle.std.proofs.lemmas.Grind.{common_steps}
use Rattle.zarr_model.specs.Codec.{low_bytes}
use Rattle.zarr_codecs_elements.proofs.PieceLaws.{push_low_step}
use Rattle.zarr_codecs_elements.proofs.numbers.push_low.Goals as goal

pub loop-digit-preserved : goal.loop-digit-preserved
loop-digit-preserved c =
    let made : c.push.new.self.items ≡ c.loop-digit.out.items ++ (c.loop-digit.left % 256 ∷ []) =
    grind (arith, common_steps, c.in_ok-push.ensures.items) in
    push_low_step c.args.size c.loop-digit.digit c.loop-digit.left c.loop-digit.out.items c.push.new.self.items
    (c.args.out.now.items ++ low_bytes c.args.size c.args.number) c.loop-digit-test.true c.loop-digit.invariant made
