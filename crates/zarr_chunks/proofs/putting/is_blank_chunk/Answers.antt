use Rattle.std.proofs.Common.{ap, ◌∙◌}
use Rattle.zarr_codec_chain.specs.Prelude.{count_of, kind_of, fill_element, raw_of, first_level}
use Rattle.zarr_model.proofs.BytesLaws.{length-meaning}
use Rattle.zarr_chunks.proofs.PutLaws.{blank_is, chunk_some}
use Rattle.zarr_chunks.proofs.putting.is_blank_chunk.Goals as goal

pub returns : goal.returns
returns c = λ list means.
    let levels = c.args.levels.now in
    let level = first_level levels in
    let kind = kind_of level.data_type in
    let number = count_of level.shape in
    let denotes = ap (fill_element kind) c.fill_value.ensures ∙ c.requires.fill.denotes in
    blank_is c.is_fill_value.result number level.fill list
    (length-meaning kind number (raw_of c.args.chunk.now) list means)
    (c.is_fill_value.ensures.elements kind number list level.fill means (chunk_some levels.above.items levels.bottom)
    denotes)
