use Rattle.std.proofs.Common.{◌∙◌, sym, ap, List, Some}
use Rattle.std.proofs.lemmas.Result.{err_from_is_err_and}
use Rattle.zarrs_array_subset.specs.ArraySubset.{region as box_of}
use Rattle.zarrs_codec_traits.specs.Views.{options_of, asked_ranges}
use Rattle.zarr_chunks.specs.Regions.{bottom_request}
use Rattle.zarr_chunks.specs.Seen.{chain_seen}
use Rattle.zarr_chunks.proofs.SeenLaws.{not_fetched, part_fetched}
use Rattle.zarr_chunks.proofs.reading.fetch_part.Goals as goal

pub returns-in_err-part-in-Some-clause-fetches : goal.returns-in_err-part-in-Some-clause-fetches
returns-in_err-part-in-Some-clause-fetches g c =
    let p =
    err_from_is_err_and c.from_residual-in_err-part-in-Some.result c.from_residual-in_err-part-in-Some.ensures.1 in
    let chain = c.args.chain.now in
    let levels = c.args.levels.now in
    let seen = chain_seen g.A.ArrayCodecTraits g.A.ArrayToArrayCodecTraits g.B.ArrayCodecTraits
    g.B.ArrayToBytesCodecTraits g.C.BytesToBytesCodecTraits chain levels in
    let box = box_of c.args.region.now in
    let asked =
    bottom_request g.B.ArrayToBytesCodecTraits.request g.A.ArrayToArrayCodecTraits.region_below chain levels box in
    rw (p.1, p.2) (not_fetched seen (options_of c.args.options.now) box asked c.deref-in-Some.result.now c.args.key.now
    (g.S.Store.shown c.args.store.now) (g.S.Store.shown c.fetch_by_parts.new.store) c.in_err-part-in-Some.field-0.0
    (sym c.in_ok-ranges.ensures ∙ (ap asked_ranges c.in-Some.is
    ∙ ap (λ (r : List _). Some r) (sym c.deref-in-Some.ensures.value))) c.in_err-part-in-Some.ensures.reads)

pub returns-in-Some-clause-fetches : goal.returns-in-Some-clause-fetches
returns-in-Some-clause-fetches g c =
    let chain = c.args.chain.now in
    let levels = c.args.levels.now in
    let seen = chain_seen g.A.ArrayCodecTraits g.A.ArrayToArrayCodecTraits g.B.ArrayCodecTraits
    g.B.ArrayToBytesCodecTraits g.C.BytesToBytesCodecTraits chain levels in
    let box = box_of c.args.region.now in
    let asked =
    bottom_request g.B.ArrayToBytesCodecTraits.request g.A.ArrayToArrayCodecTraits.region_below chain levels box in
    part_fetched seen (options_of c.args.options.now) box asked c.deref-in-Some.result.now c.args.key.now
    (g.S.Store.shown c.args.store.now) (g.S.Store.shown c.fetch_by_parts.new.store) c.in_ok-part-in-Some.part
    (sym c.in_ok-ranges.ensures ∙ (ap asked_ranges c.in-Some.is ∙
    ap (λ (r : List _). Some r) (sym c.deref-in-Some.ensures.value))) c.requires.part c.in_ok-part-in-Some.ensures.reads
