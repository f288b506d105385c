use Rattle.zarrs_codec.specs.Prelude.{kind_of, fill_element}
use Rattle.zarrs_codec_partial.specs.Above.{codec_seen}
use Rattle.zarrs_codec_partial.proofs.AboveLaws.{own_served, fill_served}
use Rattle.zarrs_codec_partial.proofs.ServedLaws.{both_served}
use Rattle.zarrs_codec_partial.proofs.array_to_array_codec_partial_default.ArrayToArrayCodecPartialDefaultLevelReads.expect_served.Goals as goal

pub returns-clause-served : goal.returns-clause-served
returns-clause-served g c = both_served _ _ c.expect_served.result c.expect_served.ensures.served
    c.expect_served.ensures.denotes

pub returns-clause-named : goal.returns-clause-named
returns-clause-named g c =
    c.expect_served.ensures.named (g.H.ArrayPartialDecoderTraits.seen c.args.self.now.handle).unserved

pub returns-clause-memory : goal.returns-clause-memory
returns-clause-memory g c = λ none.
    let at = codec_seen g.C.ArrayCodecTraits g.C.ArrayToArrayCodecTraits c.args.self.now.level in
    let below = (g.H.ArrayPartialDecoderTraits.seen c.args.self.now.handle).unserved in
    let element = fill_element (kind_of at.level.data_type) at.fill in
    c.expect_served.ensures.memory (own_served at.unserved below element none)
    (fill_served at.unserved below element none)
