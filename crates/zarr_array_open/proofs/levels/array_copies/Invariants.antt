use Rattle.zarr_array_open.proofs.ChainOrderLaws.{AreCopies}
use Rattle.zarr_array_open.proofs.levels.array_copies.Given as goal

abbrev pub invariant-loop-codec : goal.invariant-loop-codec
invariant-loop-codec l = AreCopies l.codecs l.codec-index l.same.items
