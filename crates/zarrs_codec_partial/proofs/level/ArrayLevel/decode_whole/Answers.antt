use Rattle.std.proofs.Common.{◌≡◌, ◌∙◌, sym, ap, refl, inl, true, subst, Some, List, ℕ}
use Rattle.zarrs_codec_traits.specs.Prelude.{Region, count_of, ends_within, whole, kind_of, fill_element}
use Rattle.zarrs_codec_traits.specs.Prelude.{region as box_of, raw_of, options_of}
use Rattle.zarr_model.proofs.ElementLaws.{denoted}
use Rattle.zarr_model.proofs.Choices.{always_ok}
use Rattle.zarrs_codec_traits.proofs.FaultLaws.{answers_no_fault, known_validity}
use Rattle.zarrs_codec.proofs.BoxLaws.{whole_inside}
use Rattle.zarrs_codec.proofs.NamedLaws.{refused_never}
use Rattle.zarrs_codec_partial.specs.Above.{codec_seen, level_below}
use Rattle.zarrs_codec_partial.specs.Reading.{every_element}
use Rattle.zarrs_codec_partial.proofs.AboveLaws.{all_few, all_valid, all_means, above_of, above_some, valid_fails}
use Rattle.zarrs_codec_partial.proofs.AboveLaws.{below_fill, decoded_means, decoded_valid, all_below, below_served}
use Rattle.zarrs_codec_partial.proofs.AboveLaws.{fill_served}
use Rattle.zarrs_codec_partial.proofs.ReadLaws.{reads_early, reads_failed, below_still}
use Rattle.zarrs_codec_partial.proofs.level.ArrayLevel.decode_whole.Goals as goal

pub partial_decode-requires : goal.partial_decode-requires
partial_decode-requires g c =
    let at = codec_seen g.C.ArrayCodecTraits g.C.ArrayToArrayCodecTraits c.args.self.now in
    let laws = g.met.C.ArrayToArrayCodecTraits in
    let old = g.H.ArrayPartialDecoderTraits.seen c.args.handle.now in
    let over = c.requires.over in
    record {
      few = all_few at.meaning at.fill_below at.level at.fill old over.below (box_of c.in-Ok.all)
          (laws.keeps_fit c.args.self.now.codec at.level at.fill over.served over.fits) c.in-Ok.ensures;
    }

pub returns-in-Ok-partial_decode : goal.returns-in-Ok-partial_decode
returns-in-Ok-partial_decode g c =
    let at = codec_seen g.C.ArrayCodecTraits g.C.ArrayToArrayCodecTraits c.args.self.now in
    let level = at.level in
    let fill = at.fill in
    let below = level_below at in
    let under = options_of c.args.options.now in
    let laws = g.met.C.ArrayToArrayCodecTraits in
    let codec = c.args.self.now.codec in
    let handle = g.H.ArrayPartialDecoderTraits in
    let old = handle.seen c.args.handle.now in
    let over = c.requires.over in
    let all = box_of c.in-Ok.all in
    let inside =
    subst (λ (b : Region). ends_within b below.shape ≡ true) (sym c.in-Ok.ensures) (whole_inside below.shape) in
    let fits = subst (λ (s : List ℕ). ends_within all s ≡ true) (sym over.below.shape) inside in
    let read = c.in-Ok-partial_decode.ensures.reads.selects in
    let kept = c.in-Ok-partial_decode.ensures.kept in
    let raw = raw_of c.in-Ok-partial_decode.bytes in
    let decoded = (rw c.deref.ensures.value at c.decode.ensures.at).served over.served in
    let exact = decoded.exact in
    record {
      gives = λ served.
          let ok = below_served at.unserved old.unserved (fill_element (kind_of level.data_type) fill) served in
          let some = fill_served at.unserved old.unserved (fill_element (kind_of level.data_type) fill) served in
          let denotes =
          laws.denotes codec level fill over.served (denoted (fill_element (kind_of level.data_type) fill) some) in
          let filled = below_fill at.meaning at.fill_below level fill old below.fill over.below denotes in
          let there =
          all_valid at.meaning at.fill_below level fill old over.below all raw c.in-Ok.ensures (read.valid ok filled) in
          record {
            value = λ xs is.
                let above = above_of (at.meaning.decode_list level) (old.list under) xs is in
                let long = g.met.H.ArrayPartialDecoderTraits.counted c.args.handle.now under above.0 ok above.1.0
                ∙ ap count_of over.below.shape in
                let given = all_means at.meaning at.fill_below level fill old over.below all raw above.0 c.in-Ok.ensures
                long (read.value above.0 ok above.1.0) in
                decoded_means (at.meaning.decode_list level) level above.0 xs c.decode.result above.1.1
                (decoded.value above.0 given);
            valid = decoded_valid (at.meaning.decode_list level) level below raw c.decode.result there
                decoded.value;
            failed = valid_fails below raw _ c.decode.result there exact (inl (inl refl));
            decodes = λ present whole.
                let read_whole = subst (λ (b : Region). old.whole (Some b) ≡ true) (sym c.in-Ok.ensures) whole in
                always_ok c.decode.result
                (above_some (at.meaning.decode_list level) (old.list under) (read.decodes ok present read_whole)
                (λ ys e. laws.decodes codec level fill ys over.served (g.met.H.ArrayPartialDecoderTraits.counted
                c.args.handle.now under ys ok e ∙ ap count_of over.below.shape)));
            all = λ none.
                always_ok c.decode.result (above_some (at.meaning.decode_list level) (old.list under)
                (read.all ok filled (all_below at.meaning at.fill_below level fill old over.below all c.in-Ok.ensures))
                (λ ys e. laws.decodes codec level fill ys over.served (g.met.H.ArrayPartialDecoderTraits.counted
                c.args.handle.now under ys ok e ∙ ap count_of over.below.shape)));
          };
      named = refused_never old.unserved c.in-Ok-partial_decode.bytes c.decode.result (read.named fits);
      below = below_still handle all (whole below.shape) c.args.handle.now c.partial_decode.new.self
          c.in-Ok-partial_decode.bytes c.decode.result c.in-Ok.ensures
          (record { reads = read.reads; same = kept.same; tells = kept.tells; fault = tt; short = read.short })
          c.decode.ensures.short (answers_no_fault c.decode.result _
          (known_validity (kind_of below.data_type) (count_of below.shape) raw) exact);
    }

pub returns-in-Ok : goal.returns-in-Ok
returns-in-Ok g c =
    let at = codec_seen g.C.ArrayCodecTraits g.C.ArrayToArrayCodecTraits c.args.self.now in
    let below = level_below at in
    let over = c.requires.over in
    let all = box_of c.in-Ok.all in
    let inside =
    subst (λ (b : Region). ends_within b below.shape ≡ true) (sym c.in-Ok.ensures) (whole_inside below.shape) in
    let fits = subst (λ (s : List ℕ). ends_within all s ≡ true) (sym over.below.shape) inside in
    let read = c.in-Err-partial_decode.ensures.reads.selects in
    let kept = c.in-Err-partial_decode.ensures.kept in
    reads_failed g.H.ArrayPartialDecoderTraits at (options_of c.args.options.now) every_element all c.args.handle.now
    c.partial_decode.new.self c.in-Err-partial_decode.error c.in-Ok.ensures
    (λ ok. read.failed ok fits) (read.named fits)
    (record { reads = read.reads; same = kept.same; tells = kept.tells; fault = read.fault; short = λ served few. tt })

pub returns : goal.returns
returns g c =
    reads_early g.H.ArrayPartialDecoderTraits (codec_seen g.C.ArrayCodecTraits g.C.ArrayToArrayCodecTraits
    c.args.self.now) (options_of c.args.options.now) every_element c.args.handle.now c.in-Err.error
    (g.met.H.ArrayPartialDecoderTraits.same_self c.args.handle.now) c.in-Err.ensures
