use Rattle.zarr_chunks.proofs.PartLaws.{parts_ok}
use Rattle.zarr_chunks.proofs.parts.parts_through.Goals as goal

pub returns-clause-value : goal.returns-clause-value
returns-clause-value g c =
    parts_ok _ c.in_ok-bytes.bytes.items c.args.ranges.now c.parts_in_memory.result c.in_ok-bytes.ensures.value
    (rw c.deref.ensures.value at c.parts_in_memory.ensures.value)
