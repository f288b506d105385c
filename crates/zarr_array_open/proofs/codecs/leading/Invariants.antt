use Rattle.zarr_array_open.proofs.ChainOrderLaws.{AreLeading}
use Rattle.zarr_array_open.proofs.codecs.leading.Given as goal

abbrev pub invariant-loop-codec : goal.invariant-loop-codec
invariant-loop-codec l = AreLeading l.codecs l.codec-index l.first.items
