use Rattle.std.proofs.Common.{refl, append-nil, ◌≡◌, ◌∙◌, sym, ap, subst, true, false, List, [], ◌∷◌, ◌++◌, map, drop}
use Rattle.std.proofs.Common.{arith, Err}
use Rattle.std.proofs.lemmas.Grind.{common_steps}
use Rattle.std.proofs.lemmas.List.{map-append, drop_all}
use Rattle.zarr_codec_chain.specs.Prelude.{ends_within, region as box_of, bottom_level, steps, Level, last_item}
use Rattle.zarr_codec_chain.specs.Levels.{fill_at, Step, step, steps_of, above, top}
use Rattle.zarr_codec_chain.proofs.StepLaws.{as_many, front, top_is}
use Rattle.zarr_codec_chain.proofs.RegionLaws.{first-link, inside-next, boxes-next, last-append, map_last}
use Rattle.zarr_codec_chain.proofs.ChainLaws.{err_memory, err_is}
use Rattle.zarr_codec_chain.proofs.chain.CodecChain.boxes_down.Goals as goal

pub inner_subset-requires : goal.inner_subset-requires
inner_subset-requires g c =
    let steps = steps c.args.self.now c.args.levels.now in
    let bottom = bottom_level c.args.levels.now in
    let n = c.loop-index.index in
    let old = map box_of c.loop-index.boxes.items in
    let region = box_of c.args.region.now in
    let here = front c.args.self.now.array_codecs.items c.args.levels.now.above.items n c.codec-item.result
    c.index.result.now c.requires.served.count (rw c.deref-codec-items.ensures.value at c.loop-index-test.true)
    (rw c.deref-codec-items.ensures.value at c.codec-item.is) c.index.ensures in
    let from : box_of c.last_or-above.result.now ≡ last_item old region =
    ap box_of (c.last_or-above.ensures ∙ ap (λ items. last_item items c.args.region.now) c.deref.ensures.value)
    ∙ sym (map_last box_of c.loop-index.boxes.items c.args.region.now) in
    record {
      inside = rw (from, c.deref-in-loop-index.ensures.value)
          (subst (λ (l : List (Step g.row.A.Denot)).
          ends_within (last_item old region) (top l bottom).shape ≡ true) here c.loop-index.invariant.inside);
    }

pub loop-index-preserved : goal.loop-index-preserved
loop-index-preserved g c =
    let laws = g.met.A.ArrayToArrayCodecTraits in
    let code = g.A.ArrayToArrayCodecTraits in
    let steps = steps c.args.self.now c.args.levels.now in
    let bottom = bottom_level c.args.levels.now in
    let n = c.loop-index.index in
    let this = step c.codec-item.result c.index.result.now in
    let old = map box_of c.loop-index.boxes.items in
    let region = box_of c.args.region.now in
    let here = front c.args.self.now.array_codecs.items c.args.levels.now.above.items n c.codec-item.result
    c.index.result.now c.requires.served.count (rw c.deref-codec-items.ensures.value at c.loop-index-test.true)
    (rw c.deref-codec-items.ensures.value at c.codec-item.is) c.index.ensures in
    let from : box_of c.last_or-above.result.now ≡ last_item old region =
    ap box_of (c.last_or-above.ensures ∙ ap (λ items. last_item items c.args.region.now) c.deref.ensures.value)
    ∙ sym (map_last box_of c.loop-index.boxes.items c.args.region.now) in
    let pushed : c.push.new.self.items ≡ c.loop-index.boxes.items ++ (c.in_ok-below.below ∷ []) =
    grind (arith, common_steps) in
    let more : map box_of c.push.new.self.items ≡ old ++ (box_of c.in_ok-below.below ∷ []) =
    ap (map box_of) pushed ∙ map-append box_of c.loop-index.boxes.items (c.in_ok-below.below ∷ []) in
    let link = (first-link code.meaning g.A.ArrayCodecTraits.unserved code.region_below bottom _ _ _ here
    c.loop-index.invariant.linked).0 in
    let asked = rw c.deref-in-loop-index.ensures.value at c.in_ok-below.ensures.value in
    let box : box_of c.in_ok-below.below ≡ code.region_below this.codec (above this).shape (last_item old region) =
    rw (← from) (asked (g.met.A.ArrayCodecTraits.serves_parts this.codec (above this) (fill_at this.at) link.served true
    false false)) in
    record {
      linked = (first-link code.meaning g.A.ArrayCodecTraits.unserved code.region_below bottom _ _ _ here
          c.loop-index.invariant.linked).1;
      inside = rw (more, last-append, box)
          (inside-next code.meaning g.A.ArrayCodecTraits.unserved code.region_below bottom laws.region_inside _ _ _
          (last_item old region) here c.loop-index.invariant.linked c.loop-index.invariant.inside);
      boxes = rw more (boxes-next code.meaning g.A.ArrayCodecTraits.unserved code.region_below bottom _ _ _ old _ region
          _ here box c.loop-index.invariant.boxes);
    }

pub returns-in_err-below : goal.returns-in_err-below
returns-in_err-below g c =
    let code = g.A.ArrayToArrayCodecTraits in
    let steps = steps c.args.self.now c.args.levels.now in
    let bottom = bottom_level c.args.levels.now in
    let n = c.loop-index.index in
    let this = step c.codec-item.result c.index.result.now in
    let here = front c.args.self.now.array_codecs.items c.args.levels.now.above.items n c.codec-item.result
    c.index.result.now c.requires.served.count (rw c.deref-codec-items.ensures.value at c.loop-index-test.true)
    (rw c.deref-codec-items.ensures.value at c.codec-item.is) c.index.ensures in
    let link = (first-link code.meaning g.A.ArrayCodecTraits.unserved code.region_below bottom _ _ _ here
    c.loop-index.invariant.linked).0 in
    let asked = rw c.deref-in-loop-index.ensures.value at c.in_err-below.ensures.value in
    let memory = asked (g.met.A.ArrayCodecTraits.serves_parts this.codec (above this) (fill_at this.at) link.served true
    false false) in
    let is : c.from_residual.result ≡ Err c.in_err-below.field-0.0 = err_is _ _ c.from_residual.ensures.1 in
    err_memory _ c.from_residual.result _ is memory

pub loop-index-init : goal.loop-index-init
loop-index-init g c =
    let levels = c.args.levels.now in
    let first =
    top_is c.args.self.now.array_codecs.items levels.above.items (bottom_level levels) c.requires.served.count in
    record {
      linked = c.requires.served.linked;
      inside = rw c.new-boxes.ensures.items (subst (λ (level : Level).
          ends_within (box_of c.args.region.now) level.shape ≡ true) (sym first) c.requires.inside);
      boxes = rw c.new-boxes.ensures.items refl;
    }

pub returns : goal.returns
returns g c =
    let codecs = c.args.self.now.array_codecs.items in
    let levels = c.args.levels.now.above.items in
    let past = rw c.deref-codec-items.ensures.value at c.loop-index-test.false in
    let end : drop c.loop-index.index (steps_of codecs levels) ≡ [] = drop_all c.loop-index.index
    (steps_of codecs levels) (omega (arith, past, as_many codecs levels c.requires.served.count)) in
    sym (append-nil (map box_of c.loop-index.boxes.items)) ∙ (rw end at c.loop-index.invariant.boxes)
