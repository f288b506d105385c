use Rattle.std.proofs.Common.{◌++◌, map, ap, ◌∙◌}
use Rattle.zarr_model.specs.Region.{count_of}
use Rattle.zarrs_chunk_grid_indexer.specs.Runs.{span_of}
use Rattle.zarrs_codec_array_bytes.specs.Selection.{linear}
use Rattle.zarrs_codec_array_bytes.proofs.RunLaws.{runs_listed, runs_below}
use Rattle.zarrs_codec_array_bytes.proofs.array_bytes.extract.linear_runs.Goals as goal

pub returns-in-Ok-clause-value : goal.returns-in-Ok-clause-value
returns-in-Ok-clause-value g c =
    runs_listed _ (g.I.Indexer.pieces c.args.indexer.now c.args.shape.now)
    (linear c.args.shape.now (g.I.Indexer.places c.args.indexer.now))
    (c.in-Ok.ensures.lists
    ∙ ap (λ l. map span_of l ++ g.I.Indexer.pieces c.args.indexer.now c.args.shape.now) c.new-runs.ensures.items)
    (g.met.I.Indexer.joins c.args.indexer.now c.args.shape.now c.in-Ok.ensures.inside)

pub returns-in-Ok-clause-within : goal.returns-in-Ok-clause-within
returns-in-Ok-clause-within g c =
    runs_below (count_of c.args.shape.now) _ (g.I.Indexer.pieces c.args.indexer.now c.args.shape.now)
    (c.in-Ok.ensures.lists
    ∙ ap (λ l. map span_of l ++ g.I.Indexer.pieces c.args.indexer.now c.args.shape.now) c.new-runs.ensures.items)
    (g.met.I.Indexer.within c.args.indexer.now c.args.shape.now c.in-Ok.ensures.inside)
