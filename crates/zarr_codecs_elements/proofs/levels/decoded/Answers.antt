use Rattle.std.proofs.Common.{◌≡◌, length, List, ℕ, option_map, IfOk, ap, sym, ◌∙◌, subst}
use Rattle.std.proofs.lemmas.List.{length-map}
use Rattle.std.specs.Int.NonZero.{non_zero_u64_get}
use Rattle.zarrs_codec_traits.specs.Prelude.{count_of, meaning, raw_of, validity, Answers, kind_seen, lengths, Gives}
use Rattle.zarr_codecs_elements.proofs.CountLaws.{count_of-permuted}
use Rattle.zarr_codecs_elements.specs.Moving.{moved_list}
use Rattle.zarr_codecs_elements.proofs.MovedLevelLaws.{decode_gives}
use Rattle.zarr_codecs_elements.proofs.levels.decoded.Goals as goal

pub returns-clause-exact : goal.returns-clause-exact
returns-clause-exact c =
    let shape = lengths c.args.shape.now in
    let rank : length shape ≡ length c.args.order.now =
    length-map c.args.shape.now non_zero_u64_get ∙ c.requires.rank in
    let are : c.deref.result.now ≡ shape = c.deref.ensures.value ∙ c.in_ok-numbers.ensures in
    subst (λ n. Answers (validity (kind_seen c.args.data_type.now) n (raw_of c.args.bytes)) c.moved.result)
    (ap count_of are ∙ sym (count_of-permuted c.args.order.now shape c.requires.order rank)) c.moved.ensures.exact

pub returns-clause-value : goal.returns-clause-value
returns-clause-value c = λ list is.
    let kind = kind_seen c.args.data_type.now in
    let order = c.args.order.now in
    let shape = lengths c.args.shape.now in
    let raw = raw_of c.args.bytes in
    let rank : length shape ≡ length order = length-map c.args.shape.now non_zero_u64_get ∙ c.requires.rank in
    let are : c.deref.result.now ≡ shape = c.deref.ensures.value ∙ c.in_ok-numbers.ensures in
    decode_gives raw_of kind order shape raw c.requires.order rank c.moved.result
    (subst (λ (s : List ℕ). IfOk c.moved.result (λ v. Gives (meaning kind (count_of s) (raw_of v))
    (option_map (moved_list order s) (meaning kind (count_of s) raw)))) are c.moved.ensures.value) list is
