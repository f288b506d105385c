use Rattle.zarr_codec_chain.specs.Prelude.{bottom_level, steps, region as box_of, raw_of, options_of, bottom_box}
use Rattle.std.proofs.Common.{◌∙◌, sym, ap, length, Some, option_and_then}
use Rattle.std.proofs.lemmas.Option.{same_Some}
use Rattle.std.proofs.lemmas.Result.{err_from_is_err_and}
use Rattle.zarr_codec_chain.proofs.ChainLaws.{decoded-is, below_fails}
use Rattle.zarr_chunks.proofs.ReadLaws.{box_of_list, held_of}
use Rattle.zarr_chunks.proofs.PartLaws.{bottom_there}
use Rattle.zarr_chunks.proofs.parts.region_of_parts.Goals as goal

pub returns-in_err-part-clause-failed : goal.returns-in_err-part-clause-failed
returns-in_err-part-clause-failed g c = λ value bytes first are long.
    let p = err_from_is_err_and c.from_residual.result c.from_residual.ensures.1 in
    rw (p.1, p.2)
    (below_fails g.A.ArrayToArrayCodecTraits.meaning g.A.ArrayCodecTraits.unserved g.B.ArrayToBytesCodecTraits.meaning
    g.B.ArrayToBytesCodecTraits.says g.C.BytesToBytesCodecTraits.meaning g.C.BytesToBytesCodecTraits.says
    c.args.chain.now c.args.levels.now c.requires.served.count (options_of c.args.options.now) value bytes _
    c.requires.served.linked first (c.in_err-part.ensures.failed bytes are long))

pub returns-clause-elements : goal.returns-clause-elements
returns-clause-elements g c = λ value bytes list first are is.
    let chain = c.args.chain.now in
    let levels = c.args.levels.now in
    let bottom = bottom_level levels in
    let under = options_of c.args.options.now in
    let array = g.A.ArrayToArrayCodecTraits in
    let to_list = g.B.ArrayToBytesCodecTraits in
    let codecs = g.C.BytesToBytesCodecTraits in
    let (xs, here) =
    bottom_there array.meaning g.A.ArrayCodecTraits.unserved to_list.meaning to_list.says codecs.meaning codecs.says
    chain levels c.requires.served.count under value bytes list c.requires.served.linked first is in
    let part = c.in_ok-part.ensures.value bytes xs are here in
    let all = decoded-is array.meaning g.A.ArrayCodecTraits.unserved to_list.meaning to_list.says codecs.meaning
    codecs.says chain levels c.requires.served.count under value xs c.requires.served.linked
    (ap (option_and_then (to_list.meaning chain.to_bytes under bottom)) first ∙ here) in
    held_of array.meaning chain.array_codecs.items levels.above.items c.requires.served.count bottom xs list
    (box_of c.args.region.now) c.decode_boxes_up.result (sym all ∙ is)
    (c.decode_boxes_up.ensures.value (Some xs) (λ ys same. ap length (sym (same_Some xs ys same))
    ∙ g.met.B.ArrayToBytesCodecTraits.counted chain.to_bytes under bottom bytes xs here)
    (box_of_list array.meaning bottom xs (bottom_box array.region_below (steps chain levels) (box_of c.args.region.now))
    (raw_of c.in_ok-part.part) part))
