use Rattle.std.proofs.Common.{refl, None}
use Rattle.zarrs_codec.specs.Prelude.{every}
use Rattle.zarrs_codec_partial_elements.proofs.BottomLaws.{step_of, told_of}
use Rattle.zarrs_codec_partial_elements.proofs.array_to_bytes_codec_partial_default.ArrayToBytesCodecPartialDefaultLevelReads.decode_whole.Goals as goal

pub returns-clause-reads : goal.returns-clause-reads
returns-clause-reads g c = step_of g.C.ArrayToBytesCodecTraits.request None every c.decode_whole.result
    c.requires.served c.decode_whole.ensures

pub returns-clause-kept : goal.returns-clause-kept
returns-clause-kept g c = record {
  same = (refl, c.decode_whole.ensures.same);
  tells = λ under asked e told. told_of c.decode_whole.ensures under _ e told;
}
