use Rattle.std.proofs.Common.{refl, Some}
use Rattle.zarrs_codec.specs.Prelude.{boxed, region as box_of}
use Rattle.zarrs_codec_partial_elements.proofs.BottomLaws.{step_of, told_of}
use Rattle.zarrs_codec_partial_elements.proofs.array_to_bytes_codec_partial_default.ArrayToBytesCodecPartialDefaultLevelReads.decode_box.Goals as goal

pub returns-clause-reads : goal.returns-clause-reads
returns-clause-reads g c = step_of g.C.ArrayToBytesCodecTraits.request (Some (box_of c.args.region.now))
    (boxed (box_of c.args.region.now)) c.decode_box.result c.requires.served c.decode_box.ensures

pub returns-clause-kept : goal.returns-clause-kept
returns-clause-kept g c = record {
  same = (refl, c.decode_box.ensures.same);
  tells = λ under asked e told. told_of c.decode_box.ensures under _ e told;
}
