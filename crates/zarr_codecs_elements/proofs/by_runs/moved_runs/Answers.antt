use Rattle.std.proofs.Common.{◌≡◌, ℕ, ◌<◌, ◌-◌, ◌*◌, ◌^◌, List, length, take, drop, None, IfOk, sym, subst, subst₂}
use Rattle.zarrs_codec_traits.specs.Prelude.{count_of, gathered, raw_of, lengths_refusal}
use Rattle.zarr_codecs_elements.proofs.LoopLaws.{positive_parts}
use Rattle.zarr_codecs_elements.proofs.SplitLaws.{cut_of}
use Rattle.zarr_codecs_elements.proofs.by_runs.moved_runs.Goals as goal

pub moved_parts-requires-clause-order : goal.moved_parts-requires-clause-order
moved_parts-requires-clause-order c =
    (cut_of c.args.order.now c.args.shape.now c.leading-lead.result c.requires.order c.requires.rank
    c.leading-lead.ensures.few c.leading-lead.ensures.rest).first

pub moved_parts-requires-clause-some : goal.moved_parts-requires-clause-some
moved_parts-requires-clause-some c =
    let cut = cut_of c.args.order.now c.args.shape.now c.leading-lead.result c.requires.order c.requires.rank
    c.leading-lead.ensures.few c.leading-lead.ensures.rest in
    let shape = c.args.shape.now in
    let lead = c.leading-lead.result in
    (positive_parts (count_of (take lead shape)) (count_of (take (length shape - lead) (drop lead shape)))
    (subst (λ n. 0 < n) cut.counted c.requires.some)).0

pub moved_parts-requires-clause-others : goal.moved_parts-requires-clause-others
moved_parts-requires-clause-others c =
    let cut = cut_of c.args.order.now c.args.shape.now c.leading-lead.result c.requires.order c.requires.rank
    c.leading-lead.ensures.few c.leading-lead.ensures.rest in
    let shape = c.args.shape.now in
    let lead = c.leading-lead.result in
    (positive_parts (count_of (take lead shape)) (count_of (take (length shape - lead) (drop lead shape)))
    (subst (λ n. 0 < n) cut.counted c.requires.some)).1

pub moved_parts-requires-clause-fits : goal.moved_parts-requires-clause-fits
moved_parts-requires-clause-fits c =
    let cut = cut_of c.args.order.now c.args.shape.now c.leading-lead.result c.requires.order c.requires.rank
    c.leading-lead.ensures.few c.leading-lead.ensures.rest in
    subst (λ n. n < 2 ^ 64) cut.counted c.requires.fits

pub moved_parts-requires-clause-bytes : goal.moved_parts-requires-clause-bytes
moved_parts-requires-clause-bytes c =
    let cut = cut_of c.args.order.now c.args.shape.now c.leading-lead.result c.requires.order c.requires.rank
    c.leading-lead.ensures.few c.leading-lead.ensures.rest in
    subst (λ n. n * c.args.size < 2 ^ 64) cut.counted c.requires.bytes

pub moved_parts-requires-clause-long : goal.moved_parts-requires-clause-long
moved_parts-requires-clause-long c =
    let cut = cut_of c.args.order.now c.args.shape.now c.leading-lead.result c.requires.order c.requires.rank
    c.leading-lead.ensures.few c.leading-lead.ensures.rest in
    subst (λ n. lengths_refusal c.args.size n (raw_of c.args.bytes.now) ≡ None) cut.counted c.requires.long

pub returns-clause-value : goal.returns-clause-value
returns-clause-value c =
    let cut = cut_of c.args.order.now c.args.shape.now c.leading-lead.result c.requires.order c.requires.rank
    c.leading-lead.ensures.few c.leading-lead.ensures.rest in
    subst₂ (λ (n : ℕ) (ps : List ℕ). IfOk c.moved_parts.result (λ v. raw_of v ≡ gathered c.args.size n ps
    (raw_of c.args.bytes.now) (raw_of c.args.bytes.now))) (sym cut.counted) cut.places c.moved_parts.ensures.value
