use Rattle.std.proofs.Common.{◌≡◌, ◌∙◌, ap, refl, inl, subst, List, ℕ, Option, Some, Err, Vec, Global}
use Rattle.std.proofs.lemmas.Result.{err_from_is_err_and}
use Rattle.zarrs_codec_traits.specs.Prelude.{parts_of, slices_of, part_bytes}
use Rattle.zarr_codec_chain.specs.Prelude.{decode_bytes, region as box_of, options_of, bottom_level, steps, fill_at}
use Rattle.zarr_codec_chain.specs.Prelude.{bottom_box, byte_codecs}
use Rattle.zarr_model.proofs.Choices.{always_ok}
use Rattle.zarr_codec_chain.proofs.RegionLaws.{inside-bottom}
use Rattle.zarr_codec_chain.proofs.StepLaws.{inside_top}
use Rattle.zarr_chunks.specs.Fetch.{chain_content}
use Rattle.zarr_chunks.specs.Regions.{bottom_request, given_bytes, AreGivenParts}
use Rattle.zarr_chunks.specs.Seen.{chain_seen}
use Rattle.zarr_chunks.proofs.PartLaws.{opened_parts, answered_parts, parts_region_fails, ranges_given, parts_fail}
use Rattle.zarr_chunks.proofs.PartLaws.{parts_wanting, alike_parts, alike_given, same_given}
use Rattle.zarr_chunks.proofs.SeenLaws.{by_ranges}
use Rattle.zarr_chunks.proofs.parts.fetch_by_parts.Goals as goal

pub returns-in_err-parts-clause-reads : goal.returns-in_err-parts-clause-reads
returns-in_err-parts-clause-reads g c =
    let p = err_from_is_err_and c.from_residual.result c.from_residual.ensures.1 in
    let chain = c.args.chain.now in
    let levels = c.args.levels.now in
    let under = options_of c.args.options.now in
    let box = box_of c.args.region.now in
    let array = g.A.ArrayToArrayCodecTraits in
    let to_list = g.B.ArrayToBytesCodecTraits in
    let codecs = g.C.BytesToBytesCodecTraits in
    let served = c.requires.can.serves.served in
    let seen = chain_seen g.A.ArrayCodecTraits array g.B.ArrayCodecTraits to_list codecs chain levels in
    let before = g.S.Store.shown c.args.store.now in
    let after = g.S.Store.shown c.fetch_parts.new.store in
    let inside = inside-bottom array.meaning g.A.ArrayCodecTraits.unserved array.region_below (bottom_level levels)
    g.met.A.ArrayToArrayCodecTraits.region_inside
    (steps chain levels) box served.linked (inside_top chain.array_codecs.items levels.above.items (bottom_level levels)
    box served.count c.requires.can.inside) in
    let why = parts_region_fails array.meaning g.A.ArrayCodecTraits.unserved to_list.meaning to_list.says codecs.meaning
    codecs.says chain levels served.count under c.args.ranges.now served.linked
    (λ bytes some. g.met.B.ArrayToBytesCodecTraits.asks chain.to_bytes under (bottom_level levels)
    (bottom_box array.region_below (steps chain levels) box) (fill_at levels.bottom)
    bytes c.args.ranges.now served.served inside c.requires.asked some)
    (before.content c.args.key.now) before.faults after.faults c.in_err-parts.field-0.0 c.in_err-parts.ensures.failed in
    rw (p.1, p.2) (record {
      elements = λ list is. tt;
      alike = λ bytes other list given valid same is.
          parts_wanting array.meaning g.A.ArrayCodecTraits.unserved to_list.meaning to_list.says codecs.meaning
          codecs.says chain levels served.count under c.args.ranges.now _ bytes _ _
          c.in_err-parts.field-0.0 given valid c.in_err-parts.ensures.failed;
      valid = tt;
      short = tt;
      asked = by_ranges seen under box c.args.ranges.now c.args.key.now before after (Err c.in_err-parts.field-0.0) tt
          why c.fetch_parts.ensures.same c.fetch_parts.ensures.later c.fetch_parts.ensures.asks tt;
    })

pub returns-in-Some-clause-reads : goal.returns-in-Some-clause-reads
returns-in-Some-clause-reads g c =
    let chain = c.args.chain.now in
    let levels = c.args.levels.now in
    let under = options_of c.args.options.now in
    let box = box_of c.args.region.now in
    let array = g.A.ArrayToArrayCodecTraits in
    let to_list = g.B.ArrayToBytesCodecTraits in
    let codecs = g.C.BytesToBytesCodecTraits in
    let count = c.requires.can.serves.served.count in
    let seen = chain_seen g.A.ArrayCodecTraits array g.B.ArrayCodecTraits to_list codecs chain levels in
    let before = g.S.Store.shown c.args.store.now in
    let after = g.S.Store.shown c.fetch_parts.new.store in
    let stored = before.content c.args.key.now in
    let items = parts_of c.in-Some.parts in
    let asked = bottom_request to_list.request array.region_below chain levels box in
    let given = subst (λ (o : Option (Vec (Vec ℕ Global) Global)). AreGivenParts c.args.ranges.now
    (given_bytes codecs.meaning chain under stored) (part_bytes o)) c.in-Some.is c.in_ok-parts.ensures.value in
    let opened = opened_parts (decode_bytes (byte_codecs codecs.meaning under chain.byte_codecs.items))
    c.args.ranges.now stored items given in
    let answered =
    answered_parts asked c.args.ranges.now opened.bytes items c.requires.asked opened.slices opened.valid in
    let failed = c.region_of_parts.ensures.failed opened.value opened.bytes opened.first answered.are answered.long in
    record {
      elements = λ list is. c.region_of_parts.ensures.elements opened.value opened.bytes list opened.first answered.are
          (subst (λ (s : Option (List ℕ)).
          chain_content array.meaning to_list.meaning codecs.meaning chain levels under s ≡ Some list) opened.there is);
      alike = λ bytes other list has valid same is.
          let found_is =
          same_given array.meaning g.A.ArrayCodecTraits.unserved to_list.meaning to_list.says codecs.meaning codecs.says
          chain levels count under bytes opened.bytes stored opened.value opened.there opened.first has in
          let (found, first, are) = alike_parts array.meaning g.A.ArrayCodecTraits.unserved to_list.meaning to_list.says
          codecs.meaning codecs.says chain levels count under asked c.args.ranges.now bytes items other _
          c.requires.asked (opened.slices ∙ ap (slices_of c.args.ranges.now) found_is) refl same in
          alike_given array.meaning g.A.ArrayCodecTraits.unserved to_list.meaning to_list.says codecs.meaning
          codecs.says chain levels count under _ _ other list c.region_of_parts.result is (λ e memory. inl memory)
          (c.region_of_parts.ensures.elements other found list first are is)
          (c.region_of_parts.ensures.failed other found first are answered.long);
      valid = c.region_of_parts.ensures.valid;
      short = c.region_of_parts.ensures.short;
      asked = by_ranges seen under box c.args.ranges.now c.args.key.now before after c.region_of_parts.result
          (ranges_given array.meaning g.A.ArrayCodecTraits.unserved to_list.meaning to_list.says codecs.meaning
          codecs.says chain levels count under c.args.ranges.now stored items c.region_of_parts.result opened)
          (parts_fail array.meaning g.A.ArrayCodecTraits.unserved to_list.meaning to_list.says codecs.meaning
          codecs.says chain levels count under c.args.ranges.now stored items before.faults after.faults
          c.region_of_parts.result opened failed)
          c.fetch_parts.ensures.same c.fetch_parts.ensures.later c.fetch_parts.ensures.asks
          (always_ok c.region_of_parts.result c.in_ok-parts.ensures.taken);
    }
