use Rattle.std.proofs.Common.{◌<◌, arith}
use Rattle.zarr_codecs_elements.proofs.RunSteps.{lead_more}
use Rattle.zarr_codecs_elements.proofs.lead.leading.Goals as goal

pub loop-lead-preserved : goal.loop-lead-preserved
loop-lead-preserved c =
    let some : 0 < c.loop-lead.lead = omega arith in
    record {
      few = omega (arith, c.loop-lead.invariant.few);
      rest = lead_more c.args.order.now c.loop-lead.lead some c.loop-lead.invariant.few c.if-dimension-lead.false
          c.loop-lead.invariant.rest;
    }
