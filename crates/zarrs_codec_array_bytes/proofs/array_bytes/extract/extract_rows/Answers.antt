use Rattle.zarrs_codec_array_bytes.specs.Raw.{raw_of}
use Rattle.zarrs_codec_array_bytes.specs.Rows.{outer_box, inner_box, row_element_bytes}
use Rattle.zarrs_codec_array_bytes.proofs.RowLaws.{answer_selected}
use Rattle.zarrs_codec_array_bytes.proofs.array_bytes.extract.extract_rows.Goals as goal

pub returns-clause-value : goal.returns-clause-value
returns-clause-value g c =
    answer_selected raw_of c.args.shape.now (outer_box c.args.rows.now) (inner_box c.args.rows.now)
    (g.I.Indexer.places c.args.indexer.now) (row_element_bytes c.args.rows.now)
    (raw_of c.args.bytes.now) (raw_of c.args.bytes.now) c.select.result c.requires.outer c.requires.places
    c.select.ensures.value
