use Rattle.zarrs_codec.specs.Prelude.{kind_of, fill_element}
use Rattle.zarrs_codec_partial.specs.Above.{codec_seen}
use Rattle.zarrs_codec_partial.proofs.ServedLaws.{named_above}
use Rattle.zarrs_codec_partial.proofs.array_to_array_codec_partial_default.ArrayToArrayCodecPartialDefaultLevelWrites.store_elements.Goals as goal

pub store_elements-requires : goal.store_elements-requires
store_elements-requires g c = record {
  over = record {
    fits = c.args.self.now.fits;
    served = c.requires.served.0;
    below = record {
      shape = c.args.self.now.shape c.requires.served.0;
      kind = c.args.self.now.kind c.requires.served.0;
      fill = c.args.self.now.fill c.requires.served.0;
    };
  };
}

pub returns-clause-named : goal.returns-clause-named
returns-clause-named g c = λ there.
    let at = codec_seen g.C.ArrayCodecTraits g.C.ArrayToArrayCodecTraits c.args.self.now.level in
    named_above at.unserved (g.H.ArrayPartialDecoderTraits.seen c.args.self.now.handle).unserved
    (fill_element (kind_of at.level.data_type) at.fill) c.store_elements.result c.requires.served.0 c.requires.served.1
    (c.store_elements.ensures.named c.requires.served.1 there)
