use Rattle.std.proofs.Common.{refl}
use Rattle.zarrs_codec.specs.Prelude.{region as box_of, options_of}
use Rattle.zarrs_codec_partial.specs.Above.{codec_seen}
use Rattle.zarrs_codec_partial.specs.Reading.{in_box}
use Rattle.zarrs_codec_partial.proofs.ReadLaws.{step_of}
use Rattle.zarrs_codec_partial.proofs.array_to_array_codec_partial_default.ArrayToArrayCodecPartialDefaultLevelReads.decode_box.Goals as goal

pub decode_box-requires : goal.decode_box-requires
decode_box-requires g c = record {
  over = record {
    fits = c.args.self.now.fits;
    served = c.requires.served.0;
    below = record {
      shape = c.args.self.now.shape c.requires.served.0;
      kind = c.args.self.now.kind c.requires.served.0;
      fill = c.args.self.now.fill c.requires.served.0;
    };
  };
  inside = c.requires.inside;
}

pub returns-clause-reads : goal.returns-clause-reads
returns-clause-reads g c = step_of g.H.ArrayPartialDecoderTraits
    (codec_seen g.C.ArrayCodecTraits g.C.ArrayToArrayCodecTraits c.args.self.now.level) (options_of c.args.options.now)
    (in_box (box_of c.args.region.now)) c.args.self.now.handle c.decode_box.new.handle c.decode_box.result
    c.requires.served.0 c.requires.served.1 c.decode_box.ensures

pub returns-clause-kept : goal.returns-clause-kept
returns-clause-kept g c = record {
  same = (refl, c.decode_box.ensures.below.same);
  tells = λ under asked e told. c.decode_box.ensures.below.tells under _ e told;
}
