use Rattle.std.proofs.Common.{rules}
use Rattle.zarr_refs.proofs.ReadLaws.{parts_read}
use Rattle.zarr_refs.proofs.ref_store.read_parts.Goals as goal

pub returns-clause-reads : goal.returns-clause-reads
returns-clause-reads g c = parts_read c.args.slice.now c.args.ranges.now c.in_ok-ranges.ensures.valid _ _ _
    c.get_partial_many.result c.requires (search rules) c.get_partial_many.ensures.reads
