use Rattle.std.proofs.Common.{◌≡◌, ◌∙◌, sym, ap, refl, inl, true, false, subst, Some, IsSome, List, ℕ}
use Rattle.zarrs_codec_traits.specs.Prelude.{Region, count_of, sizes, ends_within, kind_of, fill_element}
use Rattle.zarrs_codec_traits.specs.Prelude.{region as box_of, raw_of, options_of, list_at, at_box, select}
use Rattle.zarr_model.proofs.ElementLaws.{denoted}
use Rattle.zarr_model.proofs.Choices.{always_ok}
use Rattle.zarrs_codec_traits.proofs.FaultLaws.{answers_no_fault, known_validity}
use Rattle.zarrs_codec.proofs.NamedLaws.{refused_never}
use Rattle.zarrs_codec_partial.specs.Above.{codec_seen, level_below}
use Rattle.zarrs_codec_partial.specs.Reading.{in_box}
use Rattle.zarrs_codec_partial.proofs.AboveLaws.{box_few, box_valid, box_means, above_of, above_some, valid_fails}
use Rattle.zarrs_codec_partial.proofs.AboveLaws.{below_fill, below_served, fill_served}
use Rattle.zarrs_codec_partial.proofs.ReadLaws.{reads_early, reads_failed, below_still}
use Rattle.zarrs_codec_partial.proofs.level.ArrayLevel.decode_box.Goals as goal

pub partial_decode-requires : goal.partial_decode-requires
partial_decode-requires g c =
    let at = codec_seen g.C.ArrayCodecTraits g.C.ArrayToArrayCodecTraits c.args.self.now in
    let laws = g.met.C.ArrayToArrayCodecTraits in
    let codec = c.args.self.now.codec in
    let old = g.H.ArrayPartialDecoderTraits.seen c.args.handle.now in
    let over = c.requires.over in
    let part = g.met.C.ArrayCodecTraits.serves_parts codec at.level at.fill over.served true false false in
    let inner = (rw c.deref.ensures.value at c.in-Ok.ensures.value) part in
    let inside_region =
    laws.region_inside codec at.level at.fill (box_of c.args.region.now) over.served c.requires.inside in
    let inside = subst (λ (b : Region). ends_within b (level_below at).shape ≡ true) (sym inner) inside_region in
    record {
      few = box_few at.meaning at.fill_below at.level at.fill old over.below (box_of c.in-Ok.inner)
          (laws.keeps_fit codec at.level at.fill over.served over.fits) inside;
    }

pub returns-in-Ok-partial_decode : goal.returns-in-Ok-partial_decode
returns-in-Ok-partial_decode g c =
    let at = codec_seen g.C.ArrayCodecTraits g.C.ArrayToArrayCodecTraits c.args.self.now in
    let level = at.level in
    let fill = at.fill in
    let below = level_below at in
    let under = options_of c.args.options.now in
    let laws = g.met.C.ArrayToArrayCodecTraits in
    let codec = c.args.self.now.codec in
    let handle = g.H.ArrayPartialDecoderTraits in
    let old = handle.seen c.args.handle.now in
    let over = c.requires.over in
    let region = box_of c.args.region.now in
    let part = g.met.C.ArrayCodecTraits.serves_parts codec level fill over.served true false false in
    let inner = (rw c.deref.ensures.value at c.in-Ok.ensures.value) part in
    let inside = subst (λ (b : Region). ends_within b below.shape ≡ true) (sym inner)
    (laws.region_inside codec level fill region over.served c.requires.inside) in
    let fits = subst (λ (s : List ℕ). ends_within (box_of c.in-Ok.inner) s ≡ true) (sym over.below.shape) inside in
    let read = c.in-Ok-partial_decode.ensures.reads.selects in
    let kept = c.in-Ok-partial_decode.ensures.kept in
    let raw = raw_of c.in-Ok-partial_decode.bytes in
    let decoded =
    (rw c.deref-in-Ok-partial_decode.ensures.value at c.decode_region.ensures.at).served over.served in
    let exact = decoded.exact in
    record {
      gives = λ served.
          let ok = below_served at.unserved old.unserved (fill_element (kind_of level.data_type) fill) served in
          let some = fill_served at.unserved old.unserved (fill_element (kind_of level.data_type) fill) served in
          let denotes =
          laws.denotes codec level fill over.served (denoted (fill_element (kind_of level.data_type) fill) some) in
          let filled = below_fill at.meaning at.fill_below level fill old below.fill over.below denotes in
          let there = subst (λ (b : Region). IsSome (list_at (at_box b below) raw)) inner (box_valid at.meaning
          at.fill_below level fill old over.below (box_of c.in-Ok.inner) raw (read.valid ok filled)) in
          record {
            value = λ xs is.
                let above = above_of (at.meaning.decode_list level) (old.list under) xs is in
                let long = g.met.H.ArrayPartialDecoderTraits.counted c.args.handle.now under above.0 ok above.1.0
                ∙ ap count_of over.below.shape in
                let given = box_means at.meaning at.fill_below level fill old over.below (box_of c.in-Ok.inner) raw
                above.0 (read.value above.0 ok above.1.0) in
                let moved = subst (λ (b : Region). list_at (at_box b below) raw ≡ Some (select below.shape b above.0))
                inner given in
                decoded.value above.0 xs long above.1.1 moved;
            valid = decoded.valid;
            failed = valid_fails (at_box (at.region_below level.shape region) below) raw _ c.decode_region.result
                there exact (inl (inl refl));
            decodes = λ present all.
                let whole = subst (λ (b : Region). old.whole (Some b) ≡ true) (sym inner) all in
                always_ok c.decode_region.result
                (above_some (at.meaning.decode_list level) (old.list under) (read.decodes ok present whole)
                (λ ys e. laws.decodes codec level fill ys over.served (g.met.H.ArrayPartialDecoderTraits.counted
                c.args.handle.now under ys ok e ∙ ap count_of over.below.shape)));
            all = λ none. cc;
          };
      named = refused_never old.unserved c.in-Ok-partial_decode.bytes c.decode_region.result (read.named fits);
      below = below_still handle (box_of c.in-Ok.inner) (at.region_below level.shape region) c.args.handle.now
          c.partial_decode.new.self c.in-Ok-partial_decode.bytes c.decode_region.result inner
          (record { reads = read.reads; same = kept.same; tells = kept.tells; fault = tt; short = read.short })
          c.decode_region.ensures.short (answers_no_fault c.decode_region.result _
          (known_validity (kind_of below.data_type) (count_of (sizes (at.region_below level.shape region))) raw) exact);
    }

pub returns-in-Ok : goal.returns-in-Ok
returns-in-Ok g c =
    let at = codec_seen g.C.ArrayCodecTraits g.C.ArrayToArrayCodecTraits c.args.self.now in
    let laws = g.met.C.ArrayToArrayCodecTraits in
    let codec = c.args.self.now.codec in
    let over = c.requires.over in
    let region = box_of c.args.region.now in
    let part = g.met.C.ArrayCodecTraits.serves_parts codec at.level at.fill over.served true false false in
    let inner = (rw c.deref.ensures.value at c.in-Ok.ensures.value) part in
    let inside = subst (λ (b : Region). ends_within b (level_below at).shape ≡ true) (sym inner)
    (laws.region_inside codec at.level at.fill region over.served c.requires.inside) in
    let fits = subst (λ (s : List ℕ). ends_within (box_of c.in-Ok.inner) s ≡ true) (sym over.below.shape) inside in
    let read = c.in-Err-partial_decode.ensures.reads.selects in
    let kept = c.in-Err-partial_decode.ensures.kept in
    reads_failed g.H.ArrayPartialDecoderTraits at (options_of c.args.options.now) (in_box region) (box_of c.in-Ok.inner)
    c.args.handle.now c.partial_decode.new.self c.in-Err-partial_decode.error inner
    (λ ok. read.failed ok fits) (read.named fits)
    (record { reads = read.reads; same = kept.same; tells = kept.tells; fault = read.fault; short = λ served few. tt })

pub returns : goal.returns
returns g c =
    let at = codec_seen g.C.ArrayCodecTraits g.C.ArrayToArrayCodecTraits c.args.self.now in
    let handle = g.H.ArrayPartialDecoderTraits in
    let part = g.met.C.ArrayCodecTraits.serves_parts c.args.self.now.codec at.level at.fill c.requires.over.served true
    false false in
    reads_early handle at (options_of c.args.options.now) (in_box (box_of c.args.region.now)) c.args.handle.now
    c.in-Err.error (g.met.H.ArrayPartialDecoderTraits.same_self c.args.handle.now)
    ((rw c.deref.ensures.value at c.in-Err.ensures.value) part)
