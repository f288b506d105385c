use Rattle.std.proofs.Common.{◌≡◌, Some, take}
use Rattle.zarr_codec_chain.specs.Prelude.{Options, decode_bytes, byte_codecs}
use Rattle.zarr_codec_chain.proofs.encode.encode_through.Given as goal

abbrev pub invariant-loop-codec : goal.invariant-loop-codec
invariant-loop-codec g l = (under : Options) → decode_bytes (byte_codecs g.C.BytesToBytesCodecTraits.meaning under
    (take l.codec-index l.codecs)) l.encoded.items ≡ Some l.fn.value.items
