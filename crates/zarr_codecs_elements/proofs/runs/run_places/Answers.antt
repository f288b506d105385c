use Rattle.std.proofs.Common.{◌*◌, sym, ◌∙◌, subst}
use Rattle.zarrs_codec_slices.specs.Picking.{AllBelow}
use Rattle.zarr_codecs_elements.proofs.RunLaws.{runs_below}
use Rattle.zarr_codecs_elements.proofs.SplitLaws.{runs_low}
use Rattle.zarr_codecs_elements.proofs.runs.run_places.Goals as goal

pub returns-clause-below : goal.returns-clause-below
returns-clause-below c =
    subst (AllBelow (c.args.count * c.args.run)) (sym c.in_ok-places.ensures)
    (runs_below c.args.count c.args.run c.deref.result.now
    (runs_low c.args.order.now c.args.shape.now c.deref.result.now c.args.count c.requires.order c.requires.rank
    c.requires.count (c.deref.ensures.value ∙ c.in_ok-runs.ensures)))
