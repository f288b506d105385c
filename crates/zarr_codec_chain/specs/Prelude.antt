-- The words that files above this crate import most, of its specs and of those below it, from one
-- place.
pub use Rattle.zarr_model.specs.ArrayBytes.{ArrayBytes, meaning}
pub use Rattle.zarr_model.specs.Codec.{ArrayCodec, Level, Options, decode_array_to_bytes, decode_bytes}
pub use Rattle.zarr_model.specs.Command.{has_long_element, kind, layout}
pub use Rattle.zarr_model.specs.Cost.{counted}
pub use Rattle.zarr_model.specs.Element.{DataType, Element, fill_element, kind_of}
pub use Rattle.zarr_model.specs.Grid.{IsChunk}
pub use Rattle.zarr_model.specs.Parts.{box_under}
pub use Rattle.zarr_model.specs.Region.{Region, count, count_of, ends_within, sizes}
pub use Rattle.zarr_model.specs.Shown.{Shown}
pub use Rattle.zarr_model.specs.Store.{Content, box_content, chunk_content}
pub use Rattle.zarrs_array_subset.specs.ArraySubset.{region}
pub use Rattle.zarrs_data_type_bytes.specs.FillValue.{fill_bytes}
pub use Rattle.zarrs_data_type.specs.DataType.{type_of}
pub use Rattle.zarrs_codec_slices.specs.Filling.{filled_with, innermost_fill}
pub use Rattle.zarrs_codec_slices.specs.Picking.{size_in}
pub use Rattle.zarrs_codec_array_bytes.specs.Raw.{raw_of}
pub use Rattle.zarrs_codec_array_bytes.specs.Refusals.{fine}
pub use Rattle.zarrs_codec_traits.specs.Errors.{IsDecodeError, unserved_at}
pub use Rattle.zarrs_codec_traits.specs.Held.{value_part}
pub use Rattle.zarrs_codec_traits.specs.Reads.{IsHandleError, TellsRangeOf}
pub use Rattle.zarrs_codec_traits.specs.Views.{lengths, level_of, options_of}
pub use Rattle.zarrs_codec_traits.specs.Words.{Gives, IsFit, at_box, list_at, select}
pub use Rattle.zarr_codec_chain.specs.Answers.{GivesPart, StaysShort, levels_list}
pub use Rattle.zarr_codec_chain.specs.Chain.{HasFill, IsServedChain, Listing, Opening, bottom_level, chain_says}
pub use Rattle.zarr_codec_chain.specs.Chain.{decoded, first_fill, first_level, steps}
pub use Rattle.zarr_codec_chain.specs.Levels.{AreLinked, SaysInvalid, Serving, above, elements_above, fill_at, first_of}
pub use Rattle.zarr_codec_chain.specs.Levels.{level_at, step, steps_of}
pub use Rattle.zarr_codec_chain.specs.Regions.{Boxing, bottom_box, boxes_below, last_item}
pub use Rattle.zarr_codec_chain.specs.Values.{byte_codecs, bytes_says, said_at}
