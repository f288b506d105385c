use Rattle.zarr_codec_chain.specs.Prelude.{bottom_level, steps, kind_of, count_of, region as box_of, raw_of, options_of}
use Rattle.zarr_codec_chain.specs.Prelude.{list_at, bottom_box}
use Rattle.std.proofs.Common.{◌∙◌, sym, ap, subst, length, Some, IsSome, inl, refl, rules}
use Rattle.std.proofs.lemmas.Option.{same_Some}
use Rattle.zarr_model.proofs.BytesLaws.{length-meaning}
use Rattle.zarr_codec_chain.proofs.LevelLaws.{some-list}
use Rattle.zarr_codec_chain.proofs.RegionLaws.{all-decode}
use Rattle.zarr_codec_chain.proofs.ChainLaws.{decoded-is, err_of}
use Rattle.zarr_chunks.proofs.ReadLaws.{box_of_list, held_of, ok_all}
use Rattle.zarr_chunks.proofs.value.region_of_value.Goals as goal

pub decode_boxes_up-requires : goal.decode_boxes_up-requires
decode_boxes_up-requires g c =
    let chain = c.args.chain.now in
    let levels = c.args.levels.now in
    let (xs, here, next) = some-list g.A.ArrayToArrayCodecTraits.meaning g.A.ArrayCodecTraits.unserved
    (bottom_level levels) (list_at (bottom_level levels) (raw_of c.in_ok-below.below)) _ c.in_ok-below.ensures.value in
    let part = c.in_ok-part.ensures.value xs here in
    record {
      served = c.requires.served;
      inside = c.requires.inside;
      boxes = search rules;
      valid = subst IsSome (sym part) refl;
    }

pub returns-clause-elements : goal.returns-clause-elements
returns-clause-elements g c = λ list is.
    let chain = c.args.chain.now in
    let levels = c.args.levels.now in
    let bottom = bottom_level levels in
    let array = g.A.ArrayToArrayCodecTraits in
    let to_list = g.B.ArrayToBytesCodecTraits in
    let bytes = g.C.BytesToBytesCodecTraits in
    let (xs, here, next) = some-list array.meaning g.A.ArrayCodecTraits.unserved bottom
    (list_at bottom (raw_of c.in_ok-below.below)) _ c.in_ok-below.ensures.value in
    let part = c.in_ok-part.ensures.value xs here in
    let all = decoded-is array.meaning g.A.ArrayCodecTraits.unserved to_list.meaning to_list.says bytes.meaning
    bytes.says chain levels c.requires.served.count (options_of c.args.options.now) c.args.value.items xs
    c.requires.served.linked next in
    held_of array.meaning chain.array_codecs.items levels.above.items c.requires.served.count bottom xs list
    (box_of c.args.region.now) c.decode_boxes_up.result (sym all ∙ is)
    (c.decode_boxes_up.ensures.value (Some xs) (λ ys same. ap length (sym (same_Some xs ys same))
    ∙ length-meaning (kind_of bottom.data_type) (count_of bottom.shape) (raw_of c.in_ok-below.below) xs here)
    (box_of_list array.meaning bottom xs (bottom_box array.region_below (steps chain levels) (box_of c.args.region.now))
    (raw_of c.in_ok-part.part) part))

pub returns-clause-decodes : goal.returns-clause-decodes
returns-clause-decodes g c =
    let chain = c.args.chain.now in
    let levels = c.args.levels.now in
    let bottom = bottom_level levels in
    let array = g.A.ArrayToArrayCodecTraits in
    let to_list = g.B.ArrayToBytesCodecTraits in
    let bytes = g.C.BytesToBytesCodecTraits in
    let laws = g.met.A.ArrayToArrayCodecTraits in
    let (xs, here, next) = some-list array.meaning g.A.ArrayCodecTraits.unserved bottom
    (list_at bottom (raw_of c.in_ok-below.below)) _ c.in_ok-below.ensures.value in
    let all = decoded-is array.meaning g.A.ArrayCodecTraits.unserved to_list.meaning to_list.says bytes.meaning
    bytes.says chain levels c.requires.served.count (options_of c.args.options.now) c.args.value.items xs
    c.requires.served.linked next in
    ok_all _ c.decode_boxes_up.result (subst IsSome (sym all)
    (all-decode array.meaning g.A.ArrayCodecTraits.unserved array.region_below bottom laws.counted laws.decodes
    (steps chain levels) xs c.requires.served.linked
    (length-meaning (kind_of bottom.data_type) (count_of bottom.shape) (raw_of c.in_ok-below.below) xs here)))

pub returns-clause-failed : goal.returns-clause-failed
returns-clause-failed g c =
    err_of _ _ _ c.decode_boxes_up.result (λ e memory. inl memory) c.decode_boxes_up.ensures.valid
