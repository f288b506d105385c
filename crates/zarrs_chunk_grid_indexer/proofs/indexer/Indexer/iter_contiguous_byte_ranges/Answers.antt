use Rattle.std.proofs.Common.{ap, ◌∙◌}
use Rattle.zarr_model.specs.Region.{count_of}
use Rattle.zarrs_chunk_grid_iterators.specs.Runs.{span_of}
use Rattle.zarrs_chunk_grid_iterators.proofs.Ends.{always_from}
use Rattle.zarrs_chunk_grid_indexer.proofs.ByteFacts.{always_bytes}
use Rattle.zarrs_chunk_grid_indexer.proofs.indexer.Indexer.iter_contiguous_byte_ranges.Goals as goal

pub returns-in-Ok-clause-lists : goal.returns-in-Ok-clause-lists
returns-in-Ok-clause-lists g c =
    always_bytes g.Self.RunsIter.Iterator.next_gives c.args.element_size (count_of c.args.array_shape.now)
    c.requires.elements c.requires.bytes
    (g.Self.Indexer.pieces c.args.self.now c.args.array_shape.now) c.new.result c.new.ensures.size
    (g.met.Self.Indexer.within c.args.self.now c.args.array_shape.now c.in-Ok.ensures.inside)
    (always_from _ _ _ _ _ span_of g.Self.Indexer.contiguous_left g.met.Self.Indexer.contiguous_ends _ c.new.result.runs
    (ap g.Self.Indexer.contiguous_left c.new.ensures.runs ∙ c.in-Ok.ensures.lists))
