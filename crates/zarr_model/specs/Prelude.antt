-- The words of the model, for those who import them from one place.
pub use Rattle.zarr_model.specs.Region.{Span, Region, starts, sizes, count_of, count, whole, is_in, contains, tuples}
pub use Rattle.zarr_model.specs.Region.{place, tuple_at, linear_index, ends_within, shared_span, share_tuple, span_at}
pub use Rattle.zarr_model.specs.Region.{overlap_of, moved_back, part_of_box, is_in_part}
pub use Rattle.zarr_model.specs.Element.{Element, of_bytes, null, some, Kind, fixed, variable, optional, DataType}
pub use Rattle.zarr_model.specs.Element.{bool_type, int_type, uint_type, raw_type, string_type, bytes_type}
pub use Rattle.zarr_model.specs.Element.{optional_type, kind_of, IsOfKind, fixed_size, blank, optional_fill}
pub use Rattle.zarr_model.specs.Element.{fill_element, same_element}
pub use Rattle.zarr_model.specs.ArrayBytes.{ArrayBytes, fixed_bytes, variable_bytes, optional_bytes, pieces}
pub use Rattle.zarr_model.specs.ArrayBytes.{between_offsets, offsets_rise_to, are_offsets, is_mask, masked, mask_over}
pub use Rattle.zarr_model.specs.ArrayBytes.{meaning, bytes_of, mask_byte, held, ends_from, array_bytes}
pub use Rattle.zarr_model.specs.Array.{Array, blank_array, SameArray, elements_in, written, erased}
pub use Rattle.zarr_model.specs.Grid.{Grid, IsChunk, chunks, chunks_meeting, CoversShape, Axis, box_of_axes}
pub use Rattle.zarr_model.specs.Grid.{grid_of_axes, regular_axis, boundary_axis, regular_axes, regular_grid}
pub use Rattle.zarr_model.specs.Grid.{boundary_grid, CutsLength}
pub use Rattle.zarr_model.specs.Key.{is_store_key, KeyEncoding, default_keys, v2_keys, v2_key, chunk_key}
pub use Rattle.zarr_model.specs.Codec.{Options, Level, ArrayCodec, Chain, decode_bytes, decode_levels, decode_chain}
pub use Rattle.zarr_model.specs.Codec.{IsCounted, KeepsCount, ByteOrder, little, big, component_size, from_order}
pub use Rattle.zarr_model.specs.Codec.{decode_fixed, number_of_bytes, low_bytes, decode_items, decode_vlen, vlen_value}
pub use Rattle.zarr_model.specs.Codec.{decode_optional, ArrayToBytes, bytes_codec, vlen_codec, optional_codec}
pub use Rattle.zarr_model.specs.Codec.{decode_array_to_bytes, less_offset, element_less, opposite, offset_codec}
pub use Rattle.zarr_model.specs.Codec.{permuted, permuted_box, transpose_codec, checksum_codec}
pub use Rattle.zarr_model.specs.Store.{Content, with_key, without_key, with_keys, Layout, box_content, chunk_content}
pub use Rattle.zarr_model.specs.Store.{IsHonest, WhollyMeans, Means, HasCount, IsSound, IsChunkKey, SameOtherKeys}
pub use Rattle.zarr_model.specs.Store.{chunk_with, content_at, stored_element, stored_array}
pub use Rattle.zarr_model.specs.Command.{Description, kind, layout, Command, read, write, erase, Refusal}
pub use Rattle.zarr_model.specs.Command.{incompatible_dimensionality, subset_out_of_bounds, region_too_large}
pub use Rattle.zarr_model.specs.Command.{expected_fixed_length_bytes, expected_variable_length_bytes}
pub use Rattle.zarr_model.specs.Command.{expected_optional_bytes, invalid_mask, unexpected_chunk_decoded_size}
pub use Rattle.zarr_model.specs.Command.{invalid_variable_sized_array_offsets, element_too_long, refusal_name, Reply}
pub use Rattle.zarr_model.specs.Command.{elements, done, refused, refused_if, or_then, is_too_large, bytes_refusal}
pub use Rattle.zarr_model.specs.Command.{has_long_step, has_long_element, region_refusal, refusal, written_elements}
pub use Rattle.zarr_model.specs.Command.{reply_of, array_of, reply, after, replies, array_after, Answer, answered}
pub use Rattle.zarr_model.specs.Command.{answered_done, answered_refused, Matches}
pub use Rattle.zarr_model.specs.Cover.{IsCover, IsLeastCover, linear_indices}
pub use Rattle.zarr_model.specs.Cost.{chunks_under, command_chunks, asks_store, puts_chunks, calls_of, asks_of}
pub use Rattle.zarr_model.specs.Cost.{all_asks, puts_of, all_puts, counted, is_among, is_blank, present_under}
pub use Rattle.zarr_model.specs.Cost.{present_after, present_in, bytes_under, all_bytes, changes_chunk}
pub use Rattle.zarr_model.specs.Failure.{ChunkHas, Changes, IsPartWay, IsCutShort, FailedAt, without_chunks, is_damaged}
pub use Rattle.zarr_model.specs.Failure.{undamaged}
pub use Rattle.zarr_model.specs.Outside.{Rose, HasCause, ReadsOnly, TakesBytes, PutsKey, MayPutKey, ReadsNext}
pub use Rattle.zarr_model.specs.Session.{LeavesKeys, LeavesArray, ServesArray, ServesWhole, refusal_in, RefusesRight}
pub use Rattle.zarr_model.specs.Session.{AreRefused, IsUntouched}
pub use Rattle.zarr_model.specs.Causes.{begun, IsPlace, calls_met, CountsBefore, CallsUpTo, AsksUpTo, PutsUpTo}
pub use Rattle.zarr_model.specs.Causes.{IsLeftAt, erases_chunk, IsUndecoded, IsStopped, IsStarved, IsDamageMet}
pub use Rattle.zarr_model.specs.Causes.{MeetsNoDamage, KeepsDamage}
pub use Rattle.zarr_model.specs.Shown.{Shown, Told, Given}
pub use Rattle.zarr_model.specs.Mended.{is_still_damaged, mended}
pub use Rattle.zarr_model.specs.Leaves.{RanOver, AnswersUndamaged, LeftAt, ChangedFirst, StopsAt, StaysDamaged}
pub use Rattle.zarr_model.specs.Leaves.{IsLeftBut, HasMet}
pub use Rattle.zarr_model.specs.KeyLines.{SetsSome, EndsBetween}
pub use Rattle.zarr_model.specs.Parts.{holds_pieces, finds_part, level_under, box_under, finds_given, chain_finds}
pub use Rattle.zarr_model.specs.Seen.{finds_shared, passes_over, IsDamageSeen, SeesNoDamage}
pub use Rattle.zarr_model.specs.Needed.{is_write, are_none, writes_last, TellsPresence, TakesNeeded, ErasesKeys}
pub use Rattle.zarr_model.specs.Needed.{read_bytes, write_bytes}
pub use Rattle.zarr_model.specs.Boundaries.{starts_from, cuts, reached, chunk_at, IsRising, are_cut, ReachesEnd}
pub use Rattle.zarr_model.specs.Largest.{largest, largest_lengths, sums_fit}
