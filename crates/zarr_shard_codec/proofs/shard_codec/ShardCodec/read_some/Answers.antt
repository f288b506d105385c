use Rattle.std.proofs.Common.{◌≡◌, ◌∷◌, [], Some, ap, ◌∙◌, subst}
use Rattle.zarrs_codec.specs.Prelude.{region as region_of, value_bytes, value_part, taken_of, options_of}
use Rattle.zarrs_storage.specs.declared.byte_range.ByteRange.TheVariants.{Suffix}
use Rattle.zarr_shard_codec.specs.ReadRegion.{HasCost}
use Rattle.zarr_shard_codec.proofs.ReadSteps.{by_part}
use Rattle.zarr_shard_codec.proofs.shard_codec.ShardCodec.read_some.Goals as goal

pub returns-in-Ok-Some-clause-read : goal.returns-in-Ok-Some-clause-read
returns-in-Ok-Some-clause-read g c =
    let codec = c.args.self.now in
    let before = g.S.Store.shown c.args.store.now in
    let mid = g.S.Store.shown c.fetch_range.new.store in
    let content = before.content c.args.key.now in
    by_part codec (options_of c.args.options.now) (region_of c.args.region.now) content (mid.content c.args.key.now)
    c.in-Ok-Some.part.items before mid (g.S.Store.shown c.read_by_part.new.store) c.read_by_part.result
    (c.in-Ok-Some.ensures.read.1.same c.args.key.now)
    (subst (λ n. value_part content (Suffix n) ≡ Some (Some c.in-Ok-Some.part.items)) c.len_of_index.ensures
    (c.in-Ok-Some.ensures.read.0 ∙ ap (λ o. Some (value_bytes o)) c.in-Ok-Some.field-0-is))
    (subst (λ n. HasCost 1 (taken_of (Some (Suffix n ∷ [])) content) before mid) c.len_of_index.ensures
    c.in-Ok-Some.ensures.read.1) c.read_by_part.ensures.read
