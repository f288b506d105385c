use Rattle.std.proofs.Common.{ℕ, length, get_or, ◌<◌, sym, subst, ap, ◌∙◌, ◌++◌}
use Rattle.zarr_model.specs.Region.{count_of}
use Rattle.zarrs_codec_slices.proofs.RowLaws.{indices_below}
use Rattle.zarrs_codec_array_bytes.specs.Selection.{linear}
use Rattle.zarrs_codec_array_bytes.proofs.array_bytes.extract.linear_indices.Goals as goal

pub returns-in-Ok-clause-within : goal.returns-in-Ok-clause-within
returns-in-Ok-clause-within g c =
    subst (λ l. (k : ℕ) → k < length l → get_or l k 0 < count_of c.args.shape.now) (sym (c.in-Ok.ensures.lists
    ∙ ap (λ l. l ++ linear c.args.shape.now (g.I.Indexer.places c.args.indexer.now)) c.new-indices.ensures.items))
    (indices_below c.args.shape.now (g.I.Indexer.places c.args.indexer.now)
    (g.met.I.Indexer.inside c.args.indexer.now c.args.shape.now c.in-Ok.ensures.inside))
