use Rattle.zarr_codec_chain.specs.Prelude.{fill_at, bottom_level, steps, region as box_of, last_item}
use Rattle.zarr_codec_chain.proofs.StepLaws.{inside_top}
use Rattle.std.proofs.Common.{◌∙◌, sym, ap, true, false}
use Rattle.zarr_codec_chain.proofs.RegionLaws.{inside-bottom, map_last}
use Rattle.zarr_chunks.proofs.parts.byte_request.Goals as goal

pub byte_request-requires-clause-inside : goal.byte_request-requires-clause-inside
byte_request-requires-clause-inside g c =
    let chain = c.args.chain.now in
    let levels = c.args.levels.now in
    let array = g.A.ArrayToArrayCodecTraits in
    let here = ap box_of c.last_or.ensures ∙ (sym (map_last box_of c.args.boxes.now c.args.region.now)
    ∙ ap (λ boxes. last_item boxes (box_of c.args.region.now)) c.requires.boxes) in
    rw (here, c.deref.ensures.value) (inside-bottom array.meaning g.A.ArrayCodecTraits.unserved array.region_below
    (bottom_level levels) g.met.A.ArrayToArrayCodecTraits.region_inside
    (steps chain levels) (box_of c.args.region.now) c.requires.served.linked (inside_top chain.array_codecs.items
    levels.above.items (bottom_level levels) (box_of c.args.region.now) c.requires.served.count c.requires.inside))

pub returns : goal.returns
returns g c =
    let levels = c.args.levels.now in
    let here = ap box_of c.last_or.ensures ∙ (sym (map_last box_of c.args.boxes.now c.args.region.now)
    ∙ ap (λ boxes. last_item boxes (box_of c.args.region.now)) c.requires.boxes) in
    (rw (here, c.deref.ensures.value) at c.byte_request.ensures.value)
    (g.met.B.ArrayCodecTraits.serves_parts c.args.chain.now.to_bytes (bottom_level levels) (fill_at levels.bottom)
    c.requires.served.served true true false)
