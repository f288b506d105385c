use Rattle.zarr_codec_chain.proofs.StepLaws.{inside_top}
use Rattle.zarr_codec_chain.specs.Prelude.{bottom_level, steps, region as box_of, last_item}
use Rattle.std.proofs.Common.{◌∙◌, sym, ap}
use Rattle.zarr_codec_chain.proofs.RegionLaws.{inside-bottom, map_last}
use Rattle.zarr_chunks.proofs.region.bottom_part.Goals as goal

pub extracted-requires : goal.extracted-requires
extracted-requires g c =
    let chain = c.args.chain.now in
    let levels = c.args.levels.now in
    let array = g.A.ArrayToArrayCodecTraits in
    let here = ap box_of c.last_or.ensures ∙ (sym (map_last box_of c.args.boxes.now c.args.region.now)
    ∙ ap (λ boxes. last_item boxes (box_of c.args.region.now)) c.requires.boxes) in
    record {
      fits = rw c.deref.ensures.value c.requires.served.bottom_fits;
      inside = rw (here, c.deref.ensures.value) (inside-bottom array.meaning g.A.ArrayCodecTraits.unserved
          array.region_below (bottom_level levels) g.met.A.ArrayToArrayCodecTraits.region_inside
          (steps chain levels) (box_of c.args.region.now) c.requires.served.linked
          (inside_top chain.array_codecs.items levels.above.items (bottom_level levels) (box_of c.args.region.now)
          c.requires.served.count c.requires.inside));
    }

pub returns-clause-value : goal.returns-clause-value
returns-clause-value g c = λ list is.
    let here = ap box_of c.last_or.ensures ∙ (sym (map_last box_of c.args.boxes.now c.args.region.now)
    ∙ ap (λ boxes. last_item boxes (box_of c.args.region.now)) c.requires.boxes) in
    (rw (here, c.deref.ensures.value) at c.extracted.ensures.value) list is
