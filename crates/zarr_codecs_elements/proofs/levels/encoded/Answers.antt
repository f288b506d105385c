use Rattle.std.proofs.Common.{◌≡◌, true, length, List, ℕ, option_map, IfOk, ap, sym, ◌∙◌, subst, subst₂}
use Rattle.std.proofs.lemmas.List.{length-map}
use Rattle.std.specs.Int.NonZero.{non_zero_u64_get}
use Rattle.zarrs_codec_traits.specs.Prelude.{count_of, meaning, permuted, type_of, raw_of, validity, Answers, kind_seen}
use Rattle.zarrs_codec_traits.specs.Prelude.{lengths, Gives, IsFit}
use Rattle.zarr_codecs_elements.specs.Order.{is_order, inverse}
use Rattle.zarr_codecs_elements.proofs.OrderLaws.{inverse_order, length-inverse, length-permuted}
use Rattle.zarr_codecs_elements.proofs.CountLaws.{count_of-permuted}
use Rattle.zarr_codecs_elements.specs.Moving.{moved_list}
use Rattle.zarr_codecs_elements.proofs.MovedLevelLaws.{encode_gives, fit_below}
use Rattle.zarr_codecs_elements.proofs.levels.encoded.Goals as goal

pub moved-requires-clause-order : goal.moved-requires-clause-order
moved-requires-clause-order c =
    let back : c.deref-2.result.now ≡ inverse c.args.order.now = c.deref-2.ensures.value ∙ c.in_ok-back.ensures in
    subst (λ l. is_order l ≡ true) (sym back) (inverse_order c.args.order.now c.requires.order)

pub moved-requires-clause-rank : goal.moved-requires-clause-rank
moved-requires-clause-rank c =
    let order = c.args.order.now in
    let shape = lengths c.args.shape.now in
    let back : c.deref-2.result.now ≡ inverse order = c.deref-2.ensures.value ∙ c.in_ok-back.ensures in
    let below : c.deref-3.result.now ≡ permuted order shape = c.deref-3.ensures.value
    ∙ (c.in_ok-below.ensures ∙ ap (permuted order) (c.deref.ensures.value ∙ c.in_ok-numbers.ensures)) in
    ap length below ∙ (length-permuted order shape ∙ (sym (length-inverse order) ∙ sym (ap length back)))

pub moved-requires-clause-fits : goal.moved-requires-clause-fits
moved-requires-clause-fits c =
    let order = c.args.order.now in
    let shape = lengths c.args.shape.now in
    let rank : length shape ≡ length order = length-map c.args.shape.now non_zero_u64_get ∙ c.requires.rank in
    let below : c.deref-3.result.now ≡ permuted order shape = c.deref-3.ensures.value
    ∙ (c.in_ok-below.ensures ∙ ap (permuted order) (c.deref.ensures.value ∙ c.in_ok-numbers.ensures)) in
    subst (λ s. IsFit s (type_of c.args.data_type.now)) (sym below)
    (fit_below order shape (type_of c.args.data_type.now) c.requires.order rank c.requires.fits)

pub returns-clause-exact : goal.returns-clause-exact
returns-clause-exact c =
    let order = c.args.order.now in
    let shape = lengths c.args.shape.now in
    let rank : length shape ≡ length order = length-map c.args.shape.now non_zero_u64_get ∙ c.requires.rank in
    let below : c.deref-3.result.now ≡ permuted order shape = c.deref-3.ensures.value
    ∙ (c.in_ok-below.ensures ∙ ap (permuted order) (c.deref.ensures.value ∙ c.in_ok-numbers.ensures)) in
    subst (λ n. Answers (validity (kind_seen c.args.data_type.now) n (raw_of c.args.bytes)) c.moved.result)
    (ap count_of below ∙ count_of-permuted order shape c.requires.order rank) c.moved.ensures.exact

pub returns-clause-value : goal.returns-clause-value
returns-clause-value c =
    let kind = kind_seen c.args.data_type.now in
    let order = c.args.order.now in
    let shape = lengths c.args.shape.now in
    let raw = raw_of c.args.bytes in
    let rank : length shape ≡ length order = length-map c.args.shape.now non_zero_u64_get ∙ c.requires.rank in
    let back : c.deref-2.result.now ≡ inverse order = c.deref-2.ensures.value ∙ c.in_ok-back.ensures in
    let below : c.deref-3.result.now ≡ permuted order shape = c.deref-3.ensures.value
    ∙ (c.in_ok-below.ensures ∙ ap (permuted order) (c.deref.ensures.value ∙ c.in_ok-numbers.ensures)) in
    encode_gives raw_of kind order shape raw c.requires.order rank c.moved.result
    (subst₂ (λ (o s : List ℕ). IfOk c.moved.result (λ v. Gives (meaning kind (count_of s) (raw_of v))
    (option_map (moved_list o s) (meaning kind (count_of s) raw)))) back below c.moved.ensures.value)
