use Rattle.zarr_codecs_elements.proofs.LoopLaws.{AreSeen}
use Rattle.zarr_codecs_elements.proofs.orders.are_new.Given as goal

abbrev pub invariant-loop-number : goal.invariant-loop-number
invariant-loop-number l = AreSeen l.number-index l.order l.seen
