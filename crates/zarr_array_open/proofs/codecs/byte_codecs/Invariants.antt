use Rattle.zarr_array_open.proofs.ChainOrderLaws.{AreByteCodecs}
use Rattle.zarr_array_open.proofs.codecs.byte_codecs.Given as goal

abbrev pub invariant-loop-codec : goal.invariant-loop-codec
invariant-loop-codec l = AreByteCodecs l.codecs l.codec-index l.others.items
