use Rattle.std.proofs.Common.{◌<◌, ◌∙◌, arith}
use Rattle.std.proofs.lemmas.List.{length-set}
use Rattle.zarr_codecs_elements.proofs.LoopLaws.{one_place}
use Rattle.zarr_codecs_elements.proofs.orders.put_places.Goals as goal

pub loop-next-preserved : goal.loop-next-preserved
loop-next-preserved c =
    let some : 0 < c.loop-next.next = omega arith in
    record {
      within = omega (arith, c.loop-next.invariant.within);
      long = length-set _ _ _ ∙ c.loop-next.invariant.long;
      put = one_place c.args.order.now c.loop-next.places c.args.places.now c.loop-next.next some
          c.loop-next.invariant.within c.loop-next.invariant.put;
    }
