use Rattle.zarrs_codec.specs.Prelude.{options_of}
use Rattle.zarrs_codec_partial.specs.Above.{codec_seen}
use Rattle.zarrs_codec_partial.proofs.ReadLaws.{held_of}
use Rattle.zarrs_codec_partial.proofs.array_to_array_codec_partial_default.ArrayToArrayCodecPartialDefaultLevelWrites.old_elements.Goals as goal

pub decode_whole-requires : goal.decode_whole-requires
decode_whole-requires g c = record {
  over = record {
    fits = c.args.self.now.fits;
    served = c.requires.served.0;
    below = record {
      shape = c.args.self.now.shape c.requires.served.0;
      kind = c.args.self.now.kind c.requires.served.0;
      fill = c.args.self.now.fill c.requires.served.0;
    };
  };
}

pub returns-clause-reads : goal.returns-clause-reads
returns-clause-reads g c = held_of g.H.ArrayPartialDecoderTraits
    (codec_seen g.C.ArrayCodecTraits g.C.ArrayToArrayCodecTraits c.args.self.now.level) (options_of c.args.options.now)
    c.args.self.now.handle c.decode_whole.new.handle c.decode_whole.result
    c.requires.served.0 c.requires.served.1 c.decode_whole.ensures
