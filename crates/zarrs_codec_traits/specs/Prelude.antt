-- The words that files above this crate import most, of its specs and of those below it, from one
-- place.
pub use Rattle.zarr_model.specs.Array.{Array, elements_in}
pub use Rattle.zarr_model.specs.ArrayBytes.{ArrayBytes, are_offsets, array_bytes, ends_from, fixed_bytes, is_mask}
pub use Rattle.zarr_model.specs.ArrayBytes.{meaning, optional_bytes, pieces, variable_bytes}
pub use Rattle.zarr_model.specs.Codec.{ArrayCodec, Level, Options, bytes_codec, decode_array_to_bytes, decode_bytes}
pub use Rattle.zarr_model.specs.Codec.{decode_chain, decode_fixed, decode_levels, decode_vlen, low_bytes}
pub use Rattle.zarr_model.specs.Codec.{number_of_bytes, opposite, permuted, permuted_box}
pub use Rattle.zarr_model.specs.Command.{Description, Matches, Refusal, bytes_refusal, erase, expected_optional_bytes}
pub use Rattle.zarr_model.specs.Command.{has_long_element, has_long_step, invalid_mask}
pub use Rattle.zarr_model.specs.Command.{invalid_variable_sized_array_offsets, is_too_large, kind, layout, or_then}
pub use Rattle.zarr_model.specs.Command.{refusal, refused_if, region_refusal, write}
pub use Rattle.zarr_model.specs.Cost.{all_asks, counted}
pub use Rattle.zarr_model.specs.Element.{DataType, Element, Kind, bool_type, bytes_type, fill_element, fixed}
pub use Rattle.zarr_model.specs.Element.{fixed_size, int_type, kind_of, of_bytes, optional, optional_type, raw_type}
pub use Rattle.zarr_model.specs.Element.{same_element, string_type, uint_type, variable}
pub use Rattle.zarr_model.specs.Grid.{CoversShape, Grid, IsChunk, chunks, chunks_meeting, regular_grid}
pub use Rattle.zarr_model.specs.Key.{KeyEncoding, default_keys}
pub use Rattle.zarr_model.specs.Outside.{HasCause, MayPutKey, PutsKey, Rose}
pub use Rattle.zarr_model.specs.Region.{Region, Span, contains, count, count_of, ends_within, is_in, linear_index}
pub use Rattle.zarr_model.specs.Region.{overlap_of, part_of_box, place, share_tuple, sizes, starts, tuple_at, tuples}
pub use Rattle.zarr_model.specs.Region.{whole}
pub use Rattle.zarr_model.specs.Seen.{SeesNoDamage}
pub use Rattle.zarr_model.specs.Session.{AreRefused, IsUntouched}
pub use Rattle.zarr_model.specs.Shown.{Shown, Told}
pub use Rattle.zarr_model.specs.Store.{Content, IsHonest, Layout, Means, box_content, chunk_content, stored_array}
pub use Rattle.zarr_model.specs.Store.{with_keys}
pub use Rattle.zarrs_storage.specs.ByteRange.{first_invalid, is_valid, parts_of, slice_of, slices_of}
pub use Rattle.zarrs_storage.specs.Parts.{held_bytes}
pub use Rattle.zarrs_storage.specs.Store.{IsFault, IsPlain, ListsKeys, SameContent, invalid_range, part_bytes}
pub use Rattle.zarrs_storage.specs.Store.{value_bytes}
pub use Rattle.zarrs_plugin.specs.Making.{Makes, Unmade, config}
pub use Rattle.zarrs_plugin.specs.Registry.{Names, registry_of}
pub use Rattle.zarrs_metadata_values.specs.Configuration.{is_none_or_empty, only_member}
pub use Rattle.zarrs_metadata_values.specs.Reading.{Reads, ◌>>=◌}
pub use Rattle.zarrs_metadata_parts.specs.Making.{or_config}
pub use Rattle.zarrs_metadata_parts.specs.MetadataV3.{Extension, extension_seen, extensions_seen}
pub use Rattle.zarrs_array_subset.specs.ArraySubset.{region}
pub use Rattle.zarrs_array_subset.specs.Boxes.{is_box, region_of}
pub use Rattle.zarrs_data_type_bytes.specs.CodecSupport.{bytes_table}
pub use Rattle.zarrs_data_type_bytes.specs.FillValue.{fill_bytes}
pub use Rattle.zarrs_data_type.specs.DataType.{is_type, type_of}
pub use Rattle.zarrs_codec_slices.specs.Filling.{filled_with, has_size, innermost_fill}
pub use Rattle.zarrs_codec_slices.specs.Overlap.{Copied}
pub use Rattle.zarrs_codec_slices.specs.Picking.{AllBelow, gathered, picked, piece_of, size_in}
pub use Rattle.zarrs_codec_array_bytes.specs.Levels.{inner_length, is_fixed}
pub use Rattle.zarrs_codec_array_bytes.specs.Raw.{raw_of}
pub use Rattle.zarrs_codec_array_bytes.specs.Refusals.{Answers, BytesAnswer, IfUnfit, extract_answer, fill_answer, fine}
pub use Rattle.zarrs_codec_array_bytes.specs.Refusals.{first_answer, lengths_refusal, other_fill, sized_answer}
pub use Rattle.zarrs_codec_array_bytes.specs.Refusals.{then_answer, told, told_by, validity, wrong_length}
pub use Rattle.zarrs_codec_array_bytes.specs.Selection.{linear}
pub use Rattle.zarrs_codec_array_bytes.specs.Steps.{kind_seen}
pub use Rattle.zarrs_codec_array_bytes_parts.specs.Held.{IsTargetOf, held_by}
pub use Rattle.zarrs_codec_array_bytes_parts.specs.Targets.{ArePut}
pub use Rattle.zarrs_codec_traits.specs.Calls.{AtLevel, DecodesArray, DecodesParts, DecodesRegion, EncodesArray}
pub use Rattle.zarrs_codec_traits.specs.Errors.{IsDecodeError, IsFormRefusal, IsNoFault, RefusesAs, RefusesBy, Unserved}
pub use Rattle.zarrs_codec_traits.specs.Errors.{unserved_at, unserved_error}
pub use Rattle.zarrs_codec_traits.specs.Held.{Held, IsSoundSeen, Seen, value_part}
pub use Rattle.zarrs_codec_traits.specs.Into.{IsPut, RefusesCount, into_answer}
pub use Rattle.zarrs_codec_traits.specs.Parts.{part_lengths_answer}
pub use Rattle.zarrs_codec_traits.specs.Reads.{AreParts, GivesParts, IsFailedRead, IsHandleError, IsPartError}
pub use Rattle.zarrs_codec_traits.specs.Reads.{IsRangeErrorOf, IsReadError, ReadsRanges, RefusesSome, TellsRangeOf}
pub use Rattle.zarrs_codec_traits.specs.Through.{through}
pub use Rattle.zarrs_codec_traits.specs.Views.{lengths, level_of, options_of}
pub use Rattle.zarrs_codec_traits.specs.Words.{AreBytes, Gives, IsBlank, IsFit, at_box, list_at, select, taken}
pub use Rattle.zarrs_codec_traits.specs.Writes.{UnlessFault}
