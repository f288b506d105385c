use Rattle.std.proofs.Common.{◌≡◌, Some, drop, ◌≤◌, length}
use Rattle.zarr_codec_chain.specs.Prelude.{decode_bytes, options_of, byte_codecs}
use Rattle.zarr_codec_chain.proofs.decode.decode_through.Given as goal

abbrev pub invariant-loop-left : goal.invariant-loop-left
invariant-loop-left g l = record {
  within : l.left ≤ length l.codecs;
  decoded : decode_bytes (byte_codecs g.C.BytesToBytesCodecTraits.meaning (options_of l.options) (drop l.left l.codecs))
      l.fn.value.items ≡ Some l.opened.items;
}

abbrev pub decreases-loop-left : goal.decreases-loop-left
decreases-loop-left g l = l.left
