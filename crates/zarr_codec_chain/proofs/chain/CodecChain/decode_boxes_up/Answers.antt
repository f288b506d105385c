use Rattle.std.proofs.Common.{◌≡◌, ◌∙◌, sym, ap, subst, suc, ◌-◌, ◌<◌, ◌≤◌, true, ℕ, List, ◌∷◌, drop, take, length}
use Rattle.std.proofs.Common.{Some, IsSome, arith, rules}
use Rattle.std.proofs.lemmas.List.{length-map, length-take-le, take_all, drop_all}
use Rattle.zarr_codec_chain.specs.Prelude.{ends_within, region as box_of, raw_of, list_at, at_box, select, bottom_level}
use Rattle.zarr_codec_chain.specs.Prelude.{steps, Level, boxes_below, last_item}
use Rattle.zarrs_codec_traits.proofs.LevelLaws.{valid_memory}
use Rattle.zarr_codec_chain.specs.Levels.{Step, step, above, top}
use Rattle.zarr_codec_chain.proofs.StepLaws.{as_many, back, top_is}
use Rattle.zarr_codec_chain.proofs.LevelLaws.{fit-drop}
use Rattle.zarr_codec_chain.proofs.RegionLaws.{first-link, linked-drop, inside-at, box-at, last-of, length-boxes, given}
use Rattle.zarr_codec_chain.proofs.RegionLaws.{given-bytes, valid-below}
use Rattle.zarr_codec_chain.proofs.chain.CodecChain.decode_boxes_up.Goals as goal

-- the boxes are as many as the levels
long : (g : _) (c : goal.After-index-level g) → length c.args.boxes.now ≡ length c.args.self.now.array_codecs.items
long g c = sym (length-map c.args.boxes.now box_of) ∙ (ap length c.requires.boxes ∙ (length-boxes
    g.A.ArrayToArrayCodecTraits.region_below (steps c.args.self.now c.args.levels.now) (box_of c.args.region.now)
    ∙ as_many c.args.self.now.array_codecs.items c.args.levels.now.above.items c.requires.served.count))

pub slice_bounds-last_or-end : goal.slice_bounds-last_or-end
slice_bounds-last_or-end g c =
    let some : 0 < c.loop-left.left = c.loop-left-test.true in
    sym (length-take-le (c.loop-left.left - 1) c.args.boxes.now (omega (arith, long g c, c.loop-left.invariant.within)))

pub decode_region-requires-clause-fits : goal.decode_region-requires-clause-fits
decode_region-requires-clause-fits g c =
    rw c.deref.ensures.value (fit-drop (c.loop-left.left - 1) (steps c.args.self.now c.args.levels.now) _
    (step c.index.result.now c.index-level.result.now) c.requires.served.fit (back c.args.self.now.array_codecs.items
    c.args.levels.now.above.items c.loop-left.left c.index.result.now c.index-level.result.now c.requires.served.count
    c.loop-left-test.true c.loop-left.invariant.within c.index.ensures c.index-level.ensures))

pub decode_region-requires-clause-inside : goal.decode_region-requires-clause-inside
decode_region-requires-clause-inside g c =
    let code = g.A.ArrayToArrayCodecTraits in
    let bottom = bottom_level c.args.levels.now in
    let region = box_of c.args.region.now in
    let box = last_item (take (c.loop-left.left - 1) (boxes_below code.region_below
    (steps c.args.self.now c.args.levels.now) region)) region in
    let early : c.loop-left.left - 1 ≤ length (steps c.args.self.now c.args.levels.now) =
    omega (
      arith,
      c.loop-left.invariant.within,
      as_many c.args.self.now.array_codecs.items c.args.levels.now.above.items c.requires.served.count,
    ) in
    let inside = inside-at code.meaning g.A.ArrayCodecTraits.unserved code.region_below bottom
    g.met.A.ArrayToArrayCodecTraits.region_inside (c.loop-left.left - 1) (steps c.args.self.now c.args.levels.now)
    region early c.requires.served.linked (subst (λ (level : Level). ends_within region level.shape ≡
    true) (sym (top_is c.args.self.now.array_codecs.items c.args.levels.now.above.items bottom c.requires.served.count))
    c.requires.inside) in
    rw (
      last-of box_of c.args.boxes.now _ _ c.args.region.now c.last_or-above.result.now c.last_or-above.ensures
          c.requires.boxes,
      c.deref.ensures.value,
    ) (subst (λ (l : List (Step g.row.A.Denot)).
    ends_within box (top l bottom).shape ≡ true) (back c.args.self.now.array_codecs.items c.args.levels.now.above.items
    c.loop-left.left c.index.result.now c.index-level.result.now c.requires.served.count c.loop-left-test.true
    c.loop-left.invariant.within c.index.ensures c.index-level.ensures) inside)

pub loop-left-init : goal.loop-left-init
loop-left-init g c =
    let long_steps = as_many c.args.self.now.array_codecs.items c.args.levels.now.above.items c.requires.served.count in
    let all : c.len-left.result ≡ length c.args.self.now.array_codecs.items = search rules in
    record {
      within = omega (arith, all);
      holds = λ below counted h.
          let steps = (steps c.args.self.now c.args.levels.now) in
          let boxes = boxes_below g.A.ArrayToArrayCodecTraits.region_below steps (box_of c.args.region.now) in
          let as_many =
          length-boxes g.A.ArrayToArrayCodecTraits.region_below steps (box_of c.args.region.now) ∙ long_steps in
          rw (
            drop_all c.len-left.result steps (omega (arith, all, long_steps)),
            take_all c.len-left.result boxes (omega (arith, all, as_many)),
          ) h;
      valid = let steps = (steps c.args.self.now c.args.levels.now) in
          let boxes = boxes_below g.A.ArrayToArrayCodecTraits.region_below steps (box_of c.args.region.now) in
          let as_many =
          length-boxes g.A.ArrayToArrayCodecTraits.region_below steps (box_of c.args.region.now) ∙ long_steps in
          rw (
            drop_all c.len-left.result steps (omega (arith, all, long_steps)),
            take_all c.len-left.result boxes (omega (arith, all, as_many)),
          ) c.requires.valid;
      short = λ short. short;
    }

pub loop-left-preserved : goal.loop-left-preserved
loop-left-preserved g c = record {
  within = omega (arith, c.loop-left.invariant.within);
  holds = λ below counted start xs e.
      let code = g.A.ArrayToArrayCodecTraits in
      let laws = g.met.A.ArrayToArrayCodecTraits in
      let bottom = bottom_level c.args.levels.now in
      let steps = (steps c.args.self.now c.args.levels.now) in
      let this = (step c.index.result.now c.index-level.result.now) in
      let n = c.loop-left.left - 1 in
      let region = box_of c.args.region.now in
      let boxes = boxes_below code.region_below steps region in
      let next : suc n ≡ c.loop-left.left = omega (arith, c.loop-left-test.true) in
      let here : drop n steps ≡ this ∷ drop c.loop-left.left steps = (back c.args.self.now.array_codecs.items
      c.args.levels.now.above.items c.loop-left.left c.index.result.now c.index-level.result.now c.requires.served.count
      c.loop-left-test.true c.loop-left.invariant.within c.index.ensures c.index-level.ensures) in
      let from : box_of c.last_or-above.result.now ≡ last_item (take n boxes) region = last-of box_of c.args.boxes.now
      boxes n c.args.region.now c.last_or-above.result.now c.last_or-above.ensures c.requires.boxes in
      let links = linked-drop code.meaning g.A.ArrayCodecTraits.unserved code.region_below bottom n steps
      c.requires.served.linked in
      let link = (first-link code.meaning g.A.ArrayCodecTraits.unserved code.region_below bottom (drop n steps)
      (drop c.loop-left.left steps) this here links).0 in
      let below_it : last_item (take c.loop-left.left boxes) region ≡
      code.region_below this.codec (above this).shape (last_item (take n boxes) region) =
      ap (λ (k : ℕ). last_item (take k boxes) region) (sym next) ∙ box-at code.meaning g.A.ArrayCodecTraits.unserved
      code.region_below bottom n steps (drop c.loop-left.left steps) this region here in
      let got = given code.meaning g.A.ArrayCodecTraits.unserved code.region_below bottom laws.counted (drop n steps)
      (drop c.loop-left.left steps) this below xs here links counted e in
      let bytes = given-bytes code.meaning g.A.ArrayCodecTraits.unserved code.region_below bottom laws.counted
      (drop n steps) (drop c.loop-left.left steps) this below got.0 (last_item (take n boxes) region) _ (raw_of
      c.loop-left.decoded) here links below_it (c.loop-left.invariant.holds below counted start) got.1.elements in
      let decoded = (rw (c.deref.ensures.value, from) at c.in_ok-decoded.ensures.at).served in
      let box = last_item (take n boxes) region in
      subst (λ (l : List (Step g.row.A.Denot)). list_at (at_box box (top l bottom)) (raw_of c.in_ok-decoded.decoded) ≡
      Some (select (top l bottom).shape box xs)) (sym here)
      ((decoded link.served).value got.0 xs got.1.count got.1.decodes bytes);
  valid =
      let code = g.A.ArrayToArrayCodecTraits in
      let bottom = bottom_level c.args.levels.now in
      let steps = (steps c.args.self.now c.args.levels.now) in
      let this = (step c.index.result.now c.index-level.result.now) in
      let n = c.loop-left.left - 1 in
      let region = box_of c.args.region.now in
      let boxes = boxes_below code.region_below steps region in
      let next : suc n ≡ c.loop-left.left = omega (arith, c.loop-left-test.true) in
      let here : drop n steps ≡ this ∷ drop c.loop-left.left steps = (back c.args.self.now.array_codecs.items
      c.args.levels.now.above.items c.loop-left.left c.index.result.now c.index-level.result.now c.requires.served.count
      c.loop-left-test.true c.loop-left.invariant.within c.index.ensures c.index-level.ensures) in
      let from : box_of c.last_or-above.result.now ≡ last_item (take n boxes) region = last-of box_of c.args.boxes.now
      boxes n c.args.region.now c.last_or-above.result.now c.last_or-above.ensures c.requires.boxes in
      let links = linked-drop code.meaning g.A.ArrayCodecTraits.unserved code.region_below bottom n steps
      c.requires.served.linked in
      let link = (first-link code.meaning g.A.ArrayCodecTraits.unserved code.region_below bottom (drop n steps)
      (drop c.loop-left.left steps) this here links).0 in
      let below_it : last_item (take c.loop-left.left boxes) region ≡
      code.region_below this.codec (above this).shape (last_item (take n boxes) region) =
      ap (λ (k : ℕ). last_item (take k boxes) region) (sym next) ∙ box-at code.meaning g.A.ArrayCodecTraits.unserved
      code.region_below bottom n steps (drop c.loop-left.left steps) this region here in
      let box = last_item (take n boxes) region in
      let decoded = (rw (c.deref.ensures.value, from) at c.in_ok-decoded.ensures.at).served in
      subst (λ (l : List (Step g.row.A.Denot)).
      IsSome (list_at (at_box box (top l bottom)) (raw_of c.in_ok-decoded.decoded))) (sym here)
      (decoded link.served).valid;
  short = λ short. c.in_ok-decoded.ensures.short (c.loop-left.invariant.short short);
}

pub returns-in_err-decoded-clause-valid : goal.returns-in_err-decoded-clause-valid
returns-in_err-decoded-clause-valid g c =
    let code = g.A.ArrayToArrayCodecTraits in
    let bottom = bottom_level c.args.levels.now in
    let steps = (steps c.args.self.now c.args.levels.now) in
    let this = (step c.index.result.now c.index-level.result.now) in
    let n = c.loop-left.left - 1 in
    let region = box_of c.args.region.now in
    let boxes = boxes_below code.region_below steps region in
    let next : suc n ≡ c.loop-left.left = omega (arith, c.loop-left-test.true) in
    let here : drop n steps ≡ this ∷ drop c.loop-left.left steps = (back c.args.self.now.array_codecs.items
    c.args.levels.now.above.items c.loop-left.left c.index.result.now c.index-level.result.now c.requires.served.count
    c.loop-left-test.true c.loop-left.invariant.within c.index.ensures c.index-level.ensures) in
    let from : box_of c.last_or-above.result.now ≡ last_item (take n boxes) region = last-of box_of c.args.boxes.now
    boxes n c.args.region.now c.last_or-above.result.now c.last_or-above.ensures c.requires.boxes in
    let links =
    linked-drop code.meaning g.A.ArrayCodecTraits.unserved code.region_below bottom n steps c.requires.served.linked in
    let link = (first-link code.meaning g.A.ArrayCodecTraits.unserved code.region_below bottom (drop n steps)
    (drop c.loop-left.left steps) this here links).0 in
    let below_it : last_item (take c.loop-left.left boxes) region ≡
    code.region_below this.codec (above this).shape (last_item (take n boxes) region) =
    ap (λ (k : ℕ). last_item (take k boxes) region) (sym next) ∙ box-at code.meaning g.A.ArrayCodecTraits.unserved
    code.region_below bottom n steps (drop c.loop-left.left steps) this region here in
    let box = last_item (take n boxes) region in
    let refused = (rw (c.deref.ensures.value, from) at c.in_err-decoded.ensures.at).served in
    let given = valid-below code.meaning g.A.ArrayCodecTraits.unserved code.region_below bottom this
    (drop c.loop-left.left steps) box _ (raw_of c.loop-left.decoded) link below_it c.loop-left.invariant.valid in
    let below =
    at_box (code.region_below this.codec (above this).shape box) ((code.meaning this.codec).level_below (above this)) in
    let memory =
    valid_memory below (raw_of c.loop-left.decoded) c.in_err-decoded.field-0.0 given (refused link.served).exact in
    search rules

pub returns : goal.returns
returns g c =
    let end : c.loop-left.left ≡ 0 = omega (arith, c.loop-left-test.false) in
    let levels = c.args.levels.now in
    let first =
    top_is c.args.self.now.array_codecs.items levels.above.items (bottom_level levels) c.requires.served.count in
    record {
      value = λ below counted start. rw end at (c.loop-left.invariant.holds below counted start);
      valid = subst (λ (level : Level). IsSome (list_at (at_box (box_of c.args.region.now) level)
          (raw_of c.loop-left.decoded))) first (rw end at c.loop-left.invariant.valid);
      short = c.loop-left.invariant.short;
    }
