use Rattle.std.proofs.Common.{◌≡◌, length, sym, ap, inl, true, subst, is_some, List, ℕ}
use Rattle.zarrs_codec_traits.specs.Prelude.{kind_of, fill_element, Region, tuples, ends_within, region as box_of}
use Rattle.zarrs_codec_traits.specs.Prelude.{raw_of, linear, options_of}
use Rattle.zarrs_codec_traits.proofs.FaultLaws.{memory_no_fault}
use Rattle.zarrs_codec.proofs.BoxLaws.{whole_inside}
use Rattle.zarrs_codec.proofs.NamedLaws.{refused_memory}
use Rattle.zarrs_codec.proofs.UpdateLaws.{stores_not, keeps_rest, keeps_self}
use Rattle.zarrs_codec_partial.specs.Above.{codec_seen, level_below, seen_above}
use Rattle.zarrs_codec_partial.proofs.AboveLaws.{all_few, all_same, all_below, fill_served}
use Rattle.zarrs_codec_partial.proofs.ServedLaws.{hands_valid, given_fine}
use Rattle.zarrs_codec_partial.proofs.StoreLaws.{stores_above, puts_all}
use Rattle.zarrs_codec_partial.proofs.level.ArrayLevel.store_elements.Goals as goal

pub partial_encode-requires : goal.partial_encode-requires
partial_encode-requires g c =
    let at = codec_seen g.C.ArrayCodecTraits g.C.ArrayToArrayCodecTraits c.args.self.now in
    let over = c.requires.over in
    record {
      few = all_few at.meaning at.fill_below at.level at.fill (g.H.ArrayPartialDecoderTraits.seen
          c.args.handle.now) over.below (box_of c.in-Ok.all)
          (g.met.C.ArrayToArrayCodecTraits.keeps_fit c.args.self.now.codec
          at.level at.fill over.served over.fits) c.in-Ok.ensures;
    }

pub returns-in-Ok-elements_below : goal.returns-in-Ok-elements_below
returns-in-Ok-elements_below g c =
    let at = codec_seen g.C.ArrayCodecTraits g.C.ArrayToArrayCodecTraits c.args.self.now in
    let level = at.level in
    let fill = at.fill in
    let below = level_below at in
    let under = options_of c.args.options.now in
    let handle = g.H.ArrayPartialDecoderTraits in
    let encoder = g.H.ArrayPartialEncoderTraits in
    let first = c.args.handle.now in
    let old = handle.seen first in
    let new = handle.seen c.partial_encode.new.self in
    let over = c.requires.over in
    let box = box_of c.in-Ok.all in
    let given = c.in-Ok-elements_below.ensures.hands in
    let encoded = raw_of c.in-Ok-elements_below.encoded in
    let bytes = raw_of c.args.bytes in
    let inside = subst (λ (s : List ℕ). ends_within box s ≡ true) (sym over.below.shape)
    (subst (λ (b : Region). ends_within b below.shape ≡ true) (sym c.in-Ok.ensures) (whole_inside below.shape)) in
    let same = all_same at.meaning at.fill_below level fill old over.below box encoded c.in-Ok.ensures in
    let puts = puts_all under _ (encoder.unencoded first) (encoder.encodes first) (encoder.encodes_short first)
    (linear old.level.shape (tuples box)) (length (tuples box)) encoded old new c.partial_encode.result _ _
    (all_below at.meaning at.fill_below level fill old over.below box c.in-Ok.ensures) inside
    c.partial_encode.ensures.updates in
    record {
      stores = stores_above at.meaning at.fill_below level fill at.unserved at.region_below under bytes encoded
          (length (tuples box)) _ _ _ old new c.partial_encode.result
          over.served c.in-Ok-elements_below.ensures.denotes over.below given.hands same puts;
      rest = c.partial_encode.ensures.updates.rewrites.rest;
      same = c.partial_encode.ensures.same;
      named = λ some there. c.partial_encode.ensures.named
          (given_fine (kind_of old.level.data_type) _ (length (tuples box)) encoded inside
          (hands_valid at.meaning level fill _ _ bytes encoded _ some given.hands same there));
    }

pub returns-in-Ok : goal.returns-in-Ok
returns-in-Ok g c =
    let at = codec_seen g.C.ArrayCodecTraits g.C.ArrayToArrayCodecTraits c.args.self.now in
    let handle = g.H.ArrayPartialDecoderTraits in
    let first = c.args.handle.now in
    let old = handle.seen first in
    let failed = c.in-Err-elements_below.ensures.hands.failed in
    let filled = fill_served at.unserved old.unserved (fill_element (kind_of at.level.data_type) at.fill) in
    record {
      stores = stores_not (options_of c.args.options.now) (raw_of c.args.bytes) _ _ _ (seen_above at old)
          c.in-Err-elements_below.error
          (λ list served means. inl (inl (failed (filled served) (ap is_some means))))
          (λ served few takes there short. inl (failed (filled served) there)) c.in-Err-elements_below.ensures.no_fault;
      rest = keeps_rest old old (keeps_self old);
      same = g.met.H.ArrayPartialDecoderTraits.same_self first;
      named = λ some there. refused_memory _ old.unserved c.in-Err-elements_below.error (failed some there);
    }

pub returns : goal.returns
returns g c =
    let at = codec_seen g.C.ArrayCodecTraits g.C.ArrayToArrayCodecTraits c.args.self.now in
    let first = c.args.handle.now in
    let old = g.H.ArrayPartialDecoderTraits.seen first in
    record {
      stores = stores_not (options_of c.args.options.now) (raw_of c.args.bytes) _ _ _ (seen_above at old) c.in-Err.error
          (λ list served means. inl (inl c.in-Err.ensures)) (λ served few takes there short. inl c.in-Err.ensures)
          (memory_no_fault c.in-Err.error c.in-Err.ensures);
      rest = keeps_rest old old (keeps_self old);
      same = g.met.H.ArrayPartialDecoderTraits.same_self first;
      named = λ some there. refused_memory _ old.unserved c.in-Err.error c.in-Err.ensures;
    }
