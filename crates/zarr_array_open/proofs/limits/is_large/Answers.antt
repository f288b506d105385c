use Rattle.std.proofs.Common.{◌≡◌, None, sym, ap, ◌∙◌}
use Rattle.zarrs_codec_traits.specs.Prelude.{fixed_size, type_of, kind_seen}
use Rattle.zarr_basics.specs.BasicGrid.{basic_grid}
use Rattle.zarr_basics.specs.Limits.{has_large_chunk}
use Rattle.zarr_codecs.specs.Views.{plain_of}
use Rattle.zarr_codecs.proofs.SizeLaws.{stored_unsized}
use Rattle.zarr_array_open.proofs.limits.is_large.Goals as goal

pub innermost_fill-requires : goal.innermost_fill-requires
innermost_fill-requires c = stored_unsized (plain_of c.args.codec.now) (type_of c.args.data_type.now)
    (sym c.stores_lengths.ensures ∙ c.if-not-stores_lengths.false) c.requires.served

pub has_long_chunk-requires : goal.has_long_chunk-requires
has_long_chunk-requires c =
    let unsized : fixed_size (kind_seen c.args.data_type.now) ≡ None = stored_unsized (plain_of c.args.codec.now)
    (type_of c.args.data_type.now) (sym c.stores_lengths.ensures ∙ c.if-not-stores_lengths.false) c.requires.served in
    ap (has_large_chunk (basic_grid c.args.grid.now)) (sym (c.fixed_size.ensures ∙ unsized))
    ∙ (sym c.has_large_chunk.ensures ∙ c.if-has_large_chunk.false)
