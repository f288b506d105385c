use Rattle.std.proofs.Common.{arith, ap, ◌∙◌, length}
use Rattle.zarrs_storage.specs.Parts.{replaced_at}
use Rattle.zarrs_storage.proofs.PartLemmas.{item_end, item_put, length-replaced}
use Rattle.zarrs_storage.proofs.parts.overwrite.Goals as goal

pub put_bytes-requires : goal.put_bytes-requires
put_bytes-requires c = omega (
  arith,
  ap length c.deref.ensures.value,
  c.requires,
  c.loop-part.invariant.long,
  item_end c.args.parts.now c.loop-part.part-index c.part-item.result c.loop-part-test.true c.part-item.is,
)

pub loop-part-preserved : goal.loop-part-preserved
loop-part-preserved c =
    let put = c.put_bytes.ensures
    ∙ ap (λ bytes. replaced_at c.part-item.result.offset bytes c.loop-part.value.items) c.deref.ensures.value in
    record {
      long = ap length put
          ∙ length-replaced c.part-item.result.offset c.part-item.result.bytes.items c.loop-part.value.items
          (omega (
            arith,
            c.requires,
            c.loop-part.invariant.long,
            item_end c.args.parts.now c.loop-part.part-index c.part-item.result c.loop-part-test.true c.part-item.is,
          ))
          ∙ c.loop-part.invariant.long;
      value = put ∙ item_put c.args.parts.now c.args.value.now.items c.loop-part.value.items c.loop-part.part-index
          c.part-item.result
          c.loop-part-test.true c.part-item.is c.requires c.loop-part.invariant.value;
    }
