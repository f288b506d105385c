use Rattle.std.proofs.Common.{ap₂, ◌∙◌}
use Rattle.zarrs_array_subset.specs.Boxes.{region_of}
use Rattle.zarrs_array_subset.proofs.BoxLaws.{region_parts}
use Rattle.zarrs_chunk_grid.proofs.chunk_grid_traits.chunks.box_of.Goals as goal

pub returns : goal.returns
returns g c =
    c.in-Ok.ensures.ok.1 ∙ (ap₂ region_of c.in_ok-start.ensures c.in_ok-shape.ensures
    ∙ region_parts ((g.G.ChunkGridTraits.grid c.args.grid.now).chunk_box c.args.chunk.now))
