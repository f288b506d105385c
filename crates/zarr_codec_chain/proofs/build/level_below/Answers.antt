use Rattle.std.proofs.Common.{ap, is_some}
use Rattle.zarr_codec_chain.specs.Prelude.{unserved_at, level_at, fill_at}
use Rattle.zarrs_codec_traits.proofs.LevelLaws.{served_ok}
use Rattle.zarr_codec_chain.proofs.BuildLaws.{ready_as}
use Rattle.zarr_codec_chain.proofs.build.level_below.Goals as goal

pub returns-clause-ready : goal.returns-clause-ready
returns-clause-ready g c =
    let laws = g.met.A.ArrayToArrayCodecTraits in
    let codec = c.args.codec.now in
    let level = level_at c.args.at.now in
    let fill = fill_at c.args.at.now in
    let ready = c.requires.ready in
    let refused = rw c.deref.ensures.value at c.in_ok-shape.ensures.unserved in
    let served = served_ok (unserved_at (g.A.ArrayCodecTraits.unserved codec) level fill) _ refused in
    let made = rw c.deref.ensures.value at c.in_ok-shape.ensures.value in
    let below = made served (ap is_some ready.denotes) in
    ready_as _ _ _ _ below.0 below.1 (record {
      fit = laws.keeps_fit codec level fill served ready.fit;
      denotes = laws.denotes codec level fill served ready.denotes;
      proper = laws.keeps_bytes codec level fill served ready.denotes ready.proper;
    })
