-- What commands, replies and refusals stand for in the model of an array.
use Rattle.std.specs.Prelude.{◌≡◌, ℕ, Bool, true, false, List, slice_get, Option, Some, None, IsSome, option_and_then}
use Rattle.std.specs.List.{list_all}
use Rattle.zarr_model.specs.Region.{Region, count}
use Rattle.zarr_model.specs.ArrayBytes.{meaning}
use Rattle.zarrs_array_subset.specs.ArraySubset.{region as region_of}
use Rattle.zarrs_codec_array_bytes.specs.Raw.{raw_of}
use Rattle.zarr_model.specs.Command as Model
use Rattle.zarr_array_boxes.specs.declared.command.Command.{Command}
use Rattle.zarr_array_boxes.specs.declared.command.Command.TheVariants.{Read, Write, Erase}
use Rattle.zarr_array_boxes.specs.declared.command.Reply.{Reply}
use Rattle.zarr_array_boxes.specs.declared.command.Reply.TheVariants.{Elements, Done, Refused}
use Rattle.zarr_array_boxes.specs.declared.refusal.Refusal.{Refusal}
use Rattle.zarr_array_boxes.specs.declared.refusal.Refusal.TheVariants.{IncompatibleDimensionality, SubsetOutOfBounds}
use Rattle.zarr_array_boxes.specs.declared.refusal.Refusal.TheVariants.{RegionTooLarge, ExpectedFixedLengthBytes}
use Rattle.zarr_array_boxes.specs.declared.refusal.Refusal.TheVariants.{ExpectedVariableLengthBytes, ExpectedOptionalBytes}
use Rattle.zarr_array_boxes.specs.declared.refusal.Refusal.TheVariants.{InvalidMask, UnexpectedChunkDecodedSize}
use Rattle.zarr_array_boxes.specs.declared.refusal.Refusal.TheVariants.{InvalidVariableSizedArrayOffsets, ElementTooLong}

abbrev pub command_of : Command → Model.Command
command_of (Read subset) = Model.read (region_of subset)
command_of (Write subset bytes) = Model.write (region_of subset) (raw_of bytes)
command_of (Erase chunk) = Model.erase chunk.items

-- whether a command reads
abbrev pub is_read : Model.Command → Bool
is_read (Model.read region) = true
is_read (Model.write region bytes) = false
is_read (Model.erase chunk) = false

-- the region of a command that reads, and of the command at a place of a list
abbrev pub region_read : Model.Command → Option Region
region_read (Model.read region) = Some region
region_read (Model.write region bytes) = None
region_read (Model.erase chunk) = None

abbrev pub region_at : List Model.Command → Option (ℕ × ℕ) → Option Region
region_at commands None = None
region_at commands (Some place) = option_and_then region_read (slice_get commands place.0)

-- each command of a list reads
abbrev pub AreReads : List Model.Command → Type 0
AreReads commands = list_all is_read commands ≡ true

abbrev pub refusal_of : Refusal → Model.Refusal
refusal_of IncompatibleDimensionality = Model.incompatible_dimensionality
refusal_of SubsetOutOfBounds = Model.subset_out_of_bounds
refusal_of RegionTooLarge = Model.region_too_large
refusal_of ExpectedFixedLengthBytes = Model.expected_fixed_length_bytes
refusal_of ExpectedVariableLengthBytes = Model.expected_variable_length_bytes
refusal_of ExpectedOptionalBytes = Model.expected_optional_bytes
refusal_of InvalidMask = Model.invalid_mask
refusal_of UnexpectedChunkDecodedSize = Model.unexpected_chunk_decoded_size
refusal_of InvalidVariableSizedArrayOffsets = Model.invalid_variable_sized_array_offsets
refusal_of ElementTooLong = Model.element_too_long

abbrev pub answer_of : Reply → Model.Answer
answer_of (Elements bytes) = Model.answered (raw_of bytes)
answer_of Done = Model.answered_done
answer_of (Refused why) = Model.answered_refused (refusal_of why)

-- the elements of a reply, if it has some, have none that is too long for its length to be stored
abbrev pub IsShortReply : Reply → Type 0
IsShortReply (Elements bytes) = Model.has_long_element (raw_of bytes) ≡ false
IsShortReply Done = Unit {0}
IsShortReply (Refused why) = Unit {0}

-- the elements of a reply, if it has some, are those of a region: as many, and of the array's kind;
-- and it is not that of a command that changes something
abbrev pub IsReadReply : Model.Description → Region → Reply → Type 0
IsReadReply description region (Elements bytes) =
    IsSome (meaning (Model.kind description) (count region) (raw_of bytes))
IsReadReply description region Done = ⊥
IsReadReply description region (Refused why) = Unit {0}
