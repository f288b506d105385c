use Rattle.std.proofs.Common.{◌≡◌, length, List, ℕ, option_map, IfOk, ap, sym, ◌∙◌, subst}
use Rattle.std.proofs.lemmas.List.{length-map}
use Rattle.std.specs.Int.NonZero.{non_zero_u64_get}
use Rattle.zarrs_codec_traits.specs.Prelude.{count_of, meaning, region as box_of, type_of, raw_of, validity, Answers}
use Rattle.zarrs_codec_traits.specs.Prelude.{kind_seen, lengths, Gives, IsFit}
use Rattle.zarr_codecs_elements.specs.Moving.{moved_list}
use Rattle.zarr_codecs_elements.proofs.MovedLevelLaws.{region_gives, box_rank, box_count, box_fit}
use Rattle.zarr_codecs_elements.proofs.levels.region_decoded.Goals as goal

pub moved-requires-clause-rank : goal.moved-requires-clause-rank
moved-requires-clause-rank c =
    let shape = lengths c.args.shape.now in
    let rank : length shape ≡ length c.args.order.now =
    length-map c.args.shape.now non_zero_u64_get ∙ c.requires.rank in
    ap length c.shape.ensures.value ∙ box_rank c.args.order.now shape (box_of c.args.region.now) rank c.requires.inside

pub moved-requires-clause-fits : goal.moved-requires-clause-fits
moved-requires-clause-fits c =
    subst (λ s. IsFit s (type_of c.args.data_type.now)) (sym c.shape.ensures.value) (box_fit (lengths c.args.shape.now)
    (box_of c.args.region.now) (type_of c.args.data_type.now) c.requires.inside c.requires.fits)

pub returns-clause-exact : goal.returns-clause-exact
returns-clause-exact c =
    let shape = lengths c.args.shape.now in
    let rank : length shape ≡ length c.args.order.now =
    length-map c.args.shape.now non_zero_u64_get ∙ c.requires.rank in
    subst (λ n. Answers (validity (kind_seen c.args.data_type.now) n (raw_of c.args.bytes)) c.moved.result)
    (ap count_of c.shape.ensures.value ∙ sym (box_count c.args.order.now shape (box_of c.args.region.now)
    c.requires.order rank c.requires.inside)) c.moved.ensures.exact

pub returns-clause-value : goal.returns-clause-value
returns-clause-value c = λ list is.
    let kind = kind_seen c.args.data_type.now in
    let order = c.args.order.now in
    let shape = lengths c.args.shape.now in
    let box = box_of c.args.region.now in
    let raw = raw_of c.args.bytes in
    let rank : length shape ≡ length order = length-map c.args.shape.now non_zero_u64_get ∙ c.requires.rank in
    region_gives raw_of kind order shape box raw c.requires.order rank c.requires.inside c.moved.result
    (subst (λ (s : List ℕ). IfOk c.moved.result (λ v. Gives (meaning kind (count_of s) (raw_of v)) (option_map
    (moved_list order s) (meaning kind (count_of s) raw)))) c.shape.ensures.value c.moved.ensures.value) list is
