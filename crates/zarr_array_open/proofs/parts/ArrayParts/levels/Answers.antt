use Rattle.std.proofs.Common.{ap, ◌∙◌}
use Rattle.zarrs_codec_traits.specs.Prelude.{lengths, level_of, fill_bytes}
use Rattle.zarr_array_open.specs.Chain.{chain_form}
use Rattle.zarr_array_open.proofs.ChainLaws.{shape_ranked, shape_fits, serves_shape}
use Rattle.zarr_array_open.proofs.ServingLaws.{not_built}
use Rattle.zarr_array_open.proofs.parts.ArrayParts.levels.Goals as goal

pub of-requires-clause-fits : goal.of-requires-clause-fits
of-requires-clause-fits c =
    shape_fits c.args.self.now c.args.chunk.now (lengths c.deref.result.now) c.requires.chunk
    (ap lengths c.deref.ensures.value ∙ c.in_ok-lengths.ensures)

pub returns-in-Ok : goal.returns-in-Ok
returns-in-Ok c =
    serves_shape c.args.self.now c.args.chain.now c.requires.chain c.args.chunk.now (lengths c.deref.result.now)
    c.in-Ok.levels c.requires.chunk (ap lengths c.deref.ensures.value ∙ c.in_ok-lengths.ensures)
    c.in-Ok.ensures.served c.in-Ok.ensures.first c.in-Ok.ensures.fill

pub only_memory-requires : goal.only_memory-requires
only_memory-requires c =
    let array = c.args.self.now in
    not_built (chain_form array.chain) c.args.chain.now (level_of c.deref.result.now array.data_type array.fill)
    (fill_bytes array.fill) c.in-Err.error array.served
    (shape_ranked array c.args.chunk.now (lengths c.deref.result.now) c.requires.chunk
    (ap lengths c.deref.ensures.value ∙ c.in_ok-lengths.ensures)) c.requires.chain c.in-Err.ensures.exact
