use Rattle.std.proofs.Common.{◌≡◌, arith, ap, ◌∙◌, ◌+◌, max, length}
use Rattle.zarrs_storage.proofs.PartLemmas.{item_end, item_more}
use Rattle.zarrs_storage.proofs.parts.end_of_parts.Goals as goal

pub overflow_add-part : goal.overflow_add-part
overflow_add-part c = omega (
  arith,
  c.len.ensures,
  c.requires,
  item_end c.args.parts.now c.loop-part.part-index c.part-item.result c.loop-part-test.true c.part-item.is,
)

pub loop-part-preserved : goal.loop-part-preserved
loop-part-preserved c =
    let long : c.len.result ≡ length c.part-item.result.bytes.items = omega (arith, c.len.ensures) in
    c.max-end.ensures
    ∙ ap (λ n. max c.loop-part.end (c.part-item.result.offset + n)) long
    ∙ item_more c.args.parts.now c.loop-part.part-index c.loop-part.end c.part-item.result c.loop-part-test.true
    c.part-item.is c.loop-part.invariant
