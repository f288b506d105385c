use Rattle.zarr_codec_chain.proofs.StepLaws.{inside_top}
use Rattle.zarr_codec_chain.specs.Prelude.{bottom_level, steps, region as box_of, last_item}
use Rattle.std.proofs.Common.{◌∙◌, sym, ap}
use Rattle.zarr_codec_chain.proofs.RegionLaws.{inside-bottom, map_last}
use Rattle.zarr_chunks.proofs.parts.bottom_of_parts.Goals as goal

pub decode_parts-requires-clause-inside : goal.decode_parts-requires-clause-inside
decode_parts-requires-clause-inside g c =
    let chain = c.args.chain.now in
    let levels = c.args.levels.now in
    let array = g.A.ArrayToArrayCodecTraits in
    let here = ap box_of c.last_or.ensures ∙ (sym (map_last box_of c.args.boxes.now c.args.region.now)
    ∙ ap (λ boxes. last_item boxes (box_of c.args.region.now)) c.requires.boxes) in
    rw (here, c.deref.ensures.value) (inside-bottom array.meaning g.A.ArrayCodecTraits.unserved array.region_below
    (bottom_level levels) g.met.A.ArrayToArrayCodecTraits.region_inside
    (steps chain levels) (box_of c.args.region.now) c.requires.served.linked (inside_top chain.array_codecs.items
    levels.above.items (bottom_level levels) (box_of c.args.region.now) c.requires.served.count c.requires.inside))

pub decode_parts-requires-clause-answered : goal.decode_parts-requires-clause-answered
decode_parts-requires-clause-answered g c =
    let here = ap box_of c.last_or.ensures ∙ (sym (map_last box_of c.args.boxes.now c.args.region.now)
    ∙ ap (λ boxes. last_item boxes (box_of c.args.region.now)) c.requires.boxes) in
    rw (here, c.deref.ensures.value) c.requires.answered

pub returns-clause-value : goal.returns-clause-value
returns-clause-value g c = λ bytes xs are is.
    let here = ap box_of c.last_or.ensures ∙ (sym (map_last box_of c.args.boxes.now c.args.region.now)
    ∙ ap (λ boxes. last_item boxes (box_of c.args.region.now)) c.requires.boxes) in
    let at = rw (here, c.deref.ensures.value) at c.decode_parts.ensures.at in
    (at.served c.requires.served.served).value bytes xs are is

pub returns-clause-failed : goal.returns-clause-failed
returns-clause-failed g c = λ bytes are long.
    let here = ap box_of c.last_or.ensures ∙ (sym (map_last box_of c.args.boxes.now c.args.region.now)
    ∙ ap (λ boxes. last_item boxes (box_of c.args.region.now)) c.requires.boxes) in
    let at = rw (here, c.deref.ensures.value) at c.decode_parts.ensures.at in
    (at.served c.requires.served.served).cause bytes are long

pub returns-clause-valid : goal.returns-clause-valid
returns-clause-valid g c =
    let here = ap box_of c.last_or.ensures ∙ (sym (map_last box_of c.args.boxes.now c.args.region.now)
    ∙ ap (λ boxes. last_item boxes (box_of c.args.region.now)) c.requires.boxes) in
    let at = rw (here, c.deref.ensures.value) at c.decode_parts.ensures.at in
    (at.served c.requires.served.served).valid
