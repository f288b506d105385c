use Rattle.zarr_chunks.proofs.FetchLaws.{filled_value}
use Rattle.zarr_chunks.proofs.fetching.filled_chunk.Goals as goal

pub returns-clause-value : goal.returns-clause-value
returns-clause-value c =
    filled_value c.args.shape.now c.args.data_type.now c.args.fill_value.now c.num_elements.result
    c.new_fill_value.result
    c.num_elements.ensures c.requires.denotes c.new_fill_value.ensures.answer c.new_fill_value.ensures.filled
