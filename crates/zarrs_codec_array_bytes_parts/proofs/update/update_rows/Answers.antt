use Rattle.zarrs_codec_array_bytes.specs.Raw.{raw_of}
use Rattle.zarrs_codec_array_bytes.specs.Rows.{outer_box, inner_box, row_element_bytes}
use Rattle.zarrs_codec_array_bytes_parts.proofs.UpdateLaws.{answer_replaced}
use Rattle.zarrs_codec_array_bytes_parts.proofs.update.update_rows.Goals as goal

pub returns-clause-value : goal.returns-clause-value
returns-clause-value g c =
    answer_replaced raw_of c.args.shape.now (outer_box c.args.rows.now) (inner_box c.args.rows.now)
    (g.I.Indexer.places c.args.update_indexer.now) (row_element_bytes c.args.rows.now)
    (raw_of c.args.bytes) (raw_of c.args.update_bytes.now) c.replace_rows.result c.requires.outer c.requires.places
    c.replace_rows.ensures.value
