use Rattle.std.proofs.Common.{◌≡◌, ◌<◌, ◌^◌, ◌++◌, ap, ◌∙◌, subst}
use Rattle.zarr_codecs_elements.specs.Moved.{moved_steps, strided}
use Rattle.zarr_codecs_elements.proofs.LoopLaws.{greatest_fits}
use Rattle.zarr_codecs_elements.proofs.PlaceLaws.{moved-strided}
use Rattle.zarr_codecs_elements.proofs.places.moved_places.Goals as goal

pub push_strided-requires : goal.push_strided-requires
push_strided-requires c =
    greatest_fits c.args.order.now c.args.shape.now c.deref.result.now c.requires.order c.requires.rank c.requires.some
    (subst (λ n. n < 2 ^ 64) c.requires.count c.ranges.count.fits) (c.deref.ensures.value ∙ c.in_ok-steps.ensures)

pub returns : goal.returns
returns c =
    let steps : c.deref.result.now ≡ moved_steps c.args.order.now c.args.shape.now =
    c.deref.ensures.value ∙ c.in_ok-steps.ensures in
    c.in_ok-push_strided.ensures
    ∙ (ap (λ items. items ++ strided c.args.shape.now c.deref.result.now 0) c.in_ok-places.ensures.items
    ∙ (ap (λ l. strided c.args.shape.now l 0) steps
    ∙ moved-strided c.args.order.now c.args.shape.now c.requires.order c.requires.rank))
