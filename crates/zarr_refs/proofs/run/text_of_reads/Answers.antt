use Rattle.std.proofs.Common.{◌≡◌, List, ℕ, map, ap, ◌∙◌, rules}
use Rattle.std.specs.BTreeMap.{BTreeMap}
use Rattle.zarrs_codec_traits.specs.Prelude.{Content, Shown, options_of}
use Rattle.zarr_array.specs.OpenArray.{described_array, documented}
use Rattle.zarr_array.specs.boxes.Command.{command_of}
use Rattle.zarr_cli.specs.Run.{open_costs}
use Rattle.zarr_refs.specs.declared.slices.Slice.{Slice}
use Rattle.zarr_refs.specs.Lent.{over_of}
use Rattle.zarr_refs.specs.Over.{over_shown}
use Rattle.zarr_refs.specs.Slices.{slice_at, slice_held}
use Rattle.zarr_refs.proofs.ReadsLaws.{reads_back}
use Rattle.zarr_refs.proofs.run.text_of_reads.Goals as goal

pub returns-clause-back : goal.returns-clause-back
returns-clause-back g c =
    let old = over_of g.S.Store c.over-sliced.result in
    let new = over_of g.S.Store c.text_of_commands-text.new.store in
    let base : old.base ≡ g.S.Store.shown c.args.store.now = ap g.S.Store.shown c.over-sliced.ensures.base in
    let same : (over_shown old).content ≡
    (λ key. slice_held (g.S.Store.shown c.args.store.now).content (slice_at c.args.slices key)) =
    ap {B = Content} (λ (s : Shown) (key : List ℕ). slice_held s.content (slice_at c.over-sliced.result.slices key))
    base
    ∙ ap {B = Content} (λ (slices : BTreeMap (List ℕ) Slice) (key : List ℕ).
    slice_held (g.S.Store.shown c.args.store.now).content (slice_at slices key)) c.over-sliced.ensures.slices in
    reads_back (open_costs (documented c.args.array.now)) (described_array c.args.array.now)
    (options_of c.args.options.now) (map command_of c.args.reads.now) old new
    (g.met.S.Store.counts_fit c.over-sliced.result.base.now).0 c.over-sliced.ensures.counts.0
    (c.text_of_commands-text.ensures.kept c.requires.reads) _ _ _ c.text_of_commands-text.result
    same (ap (λ (s : Shown). s.faults) base) (search rules) c.text_of_commands-text.ensures.did
