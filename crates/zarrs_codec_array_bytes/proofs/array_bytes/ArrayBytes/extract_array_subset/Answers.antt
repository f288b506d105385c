use Rattle.zarrs_codec_array_bytes.specs.Steps.{kind_seen}
use Rattle.zarrs_codec_array_bytes.specs.Raw.{raw_of}
use Rattle.zarrs_codec_array_bytes.proofs.MeaningLaws.{selected, selected_short}
use Rattle.zarrs_codec_array_bytes.proofs.array_bytes.ArrayBytes.extract_array_subset.Goals as goal

pub returns-clause-selected : goal.returns-clause-selected
returns-clause-selected g c =
    selected raw_of (kind_seen c.args.data_type.now) c.args.array_shape.now (g.I.Indexer.places c.args.indexer.now)
    (g.I.Indexer.fits c.args.indexer.now c.args.array_shape.now) (raw_of c.args.self.now) c.extract_by.result
    (g.met.I.Indexer.inside c.args.indexer.now c.args.array_shape.now) c.extract_by.ensures.answer
    c.extract_by.ensures.value

pub returns-clause-short : goal.returns-clause-short
returns-clause-short g c =
    selected_short raw_of (kind_seen c.args.data_type.now) c.args.array_shape.now
    (g.I.Indexer.places c.args.indexer.now) (g.I.Indexer.fits c.args.indexer.now c.args.array_shape.now)
    (raw_of c.args.self.now) c.extract_by.result
    (g.met.I.Indexer.inside c.args.indexer.now c.args.array_shape.now) c.extract_by.ensures.answer
    c.extract_by.ensures.value
