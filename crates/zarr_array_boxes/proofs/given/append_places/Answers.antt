use Rattle.std.proofs.Common.{rules}
use Rattle.zarr_model.specs.Region.{count_of}
use Rattle.zarrs_codec_array_bytes.specs.Selection.{linear}
use Rattle.zarr_array_boxes.proofs.GivenLaws.{runs_joined, joined_below}
use Rattle.zarr_array_boxes.proofs.given.append_places.Goals as goal

pub returns-in-Ok-clause-places : goal.returns-in-Ok-clause-places
returns-in-Ok-clause-places g c =
    runs_joined c.args.runs.now.items c.append_contiguous_linearised_indices.new.out.items
    (g.I.Indexer.pieces c.args.at.now c.args.shape.now) (linear c.args.shape.now (g.I.Indexer.places c.args.at.now))
    (search rules) (g.met.I.Indexer.joins c.args.at.now c.args.shape.now (search rules))

pub returns-in-Ok-clause-within : goal.returns-in-Ok-clause-within
returns-in-Ok-clause-within g c = λ below.
    joined_below (count_of c.args.shape.now) c.args.runs.now.items c.append_contiguous_linearised_indices.new.out.items
    (g.I.Indexer.pieces c.args.at.now c.args.shape.now)
    (search rules) (g.met.I.Indexer.within c.args.at.now c.args.shape.now (search rules)) below
