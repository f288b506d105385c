-- The words that files above this crate import most, of its specs and of those below it, from one
-- place.
pub use Rattle.zarr_model.specs.Array.{Array, elements_in}
pub use Rattle.zarr_model.specs.ArrayBytes.{ArrayBytes, fixed_bytes, meaning, optional_bytes, variable_bytes}
pub use Rattle.zarr_model.specs.Codec.{ArrayCodec, Level, Options, decode_bytes}
pub use Rattle.zarr_model.specs.Command.{Refusal, bytes_refusal, has_long_element, kind, layout}
pub use Rattle.zarr_model.specs.Cost.{counted}
pub use Rattle.zarr_model.specs.Element.{DataType, Element, Kind, fill_element, fixed, fixed_size, kind_of}
pub use Rattle.zarr_model.specs.Element.{same_element}
pub use Rattle.zarr_model.specs.Grid.{IsChunk, chunks_meeting}
pub use Rattle.zarr_model.specs.Region.{Region, contains, count, count_of, ends_within, linear_index, place, sizes}
pub use Rattle.zarr_model.specs.Region.{tuple_at, tuples, whole}
pub use Rattle.zarr_model.specs.Shown.{Shown}
pub use Rattle.zarr_model.specs.Store.{Layout, chunk_content, stored_array}
pub use Rattle.zarrs_storage.specs.ByteRange.{first_invalid, is_valid, parts_of, slice_of, slices_of}
pub use Rattle.zarrs_storage.specs.Parts.{held_bytes}
pub use Rattle.zarrs_storage.specs.Store.{SameContent, part_bytes, value_bytes}
pub use Rattle.zarrs_array_subset.specs.ArraySubset.{region}
pub use Rattle.zarrs_data_type.specs.DataType.{type_of}
pub use Rattle.zarrs_codec_slices.specs.Overlap.{Copied}
pub use Rattle.zarrs_codec_slices.specs.Picking.{picked, size_in}
pub use Rattle.zarrs_codec_array_bytes.specs.Raw.{raw_of}
pub use Rattle.zarrs_codec_array_bytes.specs.Refusals.{Answers, BytesAnswer, IfUnfit, fine, first_answer, other_fill}
pub use Rattle.zarrs_codec_array_bytes.specs.Refusals.{told_by, validity}
pub use Rattle.zarrs_codec_array_bytes.specs.Selection.{linear}
pub use Rattle.zarrs_codec_traits.specs.Errors.{IsDecodeError, IsNoFault, RefusesAs, Unserved, unserved_at}
pub use Rattle.zarrs_codec_traits.specs.Held.{Held, IsSoundSeen, Seen, value_part}
pub use Rattle.zarrs_codec_traits.specs.Parts.{ArePartsOf, part_lengths_answer}
pub use Rattle.zarrs_codec_traits.specs.Reads.{GivesParts, IsFailedRead, IsHandleError, IsPartError, IsReadError}
pub use Rattle.zarrs_codec_traits.specs.Reads.{ReadsRanges, TellsRangeOf}
pub use Rattle.zarrs_codec_traits.specs.Through.{through}
pub use Rattle.zarrs_codec_traits.specs.Views.{lengths, level_of, options_of}
pub use Rattle.zarrs_codec_traits.specs.Words.{Gives, IsFit, at_box, list_at, select}
pub use Rattle.zarrs_codec_traits.specs.Writes.{UnlessFault}
pub use Rattle.zarrs_codec.specs.Boxes.{is_all, smaller_box}
pub use Rattle.zarrs_codec.specs.ListWrites.{given_answer, is_kept}
pub use Rattle.zarrs_codec.specs.Lists.{AreFew, IsListError, IsUnread, ListSeen, ReadsList, Refused, RefusesFor}
pub use Rattle.zarrs_codec.specs.Lists.{TellsFault, by_codec, fills, is_short}
pub use Rattle.zarrs_codec.specs.Selects.{Choice, Indexed, boxed, chosen, every, indexed, placed}
pub use Rattle.zarrs_codec.specs.Settings.{KeepsSettings}
pub use Rattle.zarrs_codec.specs.Stored.{taken_of}
pub use Rattle.zarrs_codec.specs.Updates.{Change, Stores, change_of}
