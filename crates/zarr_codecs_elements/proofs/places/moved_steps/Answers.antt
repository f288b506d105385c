use Rattle.zarr_codecs_elements.proofs.LoopLaws.{parts_fit}
use Rattle.zarr_codecs_elements.proofs.places.moved_steps.Goals as goal

pub put_steps-requires-clause-fits : goal.put_steps-requires-clause-fits
put_steps-requires-clause-fits c =
    parts_fit c.args.order.now c.args.shape.now c.requires.order c.requires.rank c.requires.some c.requires.fits
