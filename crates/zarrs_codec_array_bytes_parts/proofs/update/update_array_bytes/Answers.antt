use Rattle.zarr_model.specs.DataTypeSize.{size_seen}
use Rattle.zarrs_codec_array_bytes.specs.Raw.{raw_of}
use Rattle.zarrs_codec_array_bytes_parts.proofs.UpdateLaws.{updated, updated_short}
use Rattle.zarrs_codec_array_bytes_parts.proofs.update.update_array_bytes.Goals as goal

pub returns-clause-updated : goal.returns-clause-updated
returns-clause-updated g c =
    updated raw_of (size_seen c.args.data_type_size) c.args.shape.now (g.I.Indexer.places c.args.update_indexer.now)
    (raw_of c.args.bytes.now) (raw_of c.args.update_bytes.now) c.update_copied.result
    c.update_copied.ensures.value

pub returns-clause-short : goal.returns-clause-short
returns-clause-short g c =
    updated_short raw_of (size_seen c.args.data_type_size) c.args.shape.now
    (g.I.Indexer.places c.args.update_indexer.now) (g.I.Indexer.fits c.args.update_indexer.now c.args.shape.now)
    (raw_of c.args.bytes.now) (raw_of c.args.update_bytes.now) c.update_copied.result c.update_copied.ensures.answer
    c.update_copied.ensures.value
