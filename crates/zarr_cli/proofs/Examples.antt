-- Worked examples, computed. Each has the text of its replies, the elements that its final keys decode to, and which
-- keys are left.
use Rattle.std.proofs.Common.{◌≡◌, ℕ, List, [], ◌∷◌, refl, codes, Bool, true, false, Some, None, pos, take, drop}
use Rattle.std.specs.Fmt.{digits}
use Rattle.sha2.specs.Sha256.{sha256, digest_bytes, hash_after, compress, rounds, schedule, first_words}
use Rattle.hex.specs.Hex.{encode_with, decode_pairs}
use Rattle.zarr_model.specs.Prelude.{whole, tuple_at, linear_index, linear_indices, undamaged, blank_array, of_bytes}
use Rattle.zarr_model.specs.Prelude.{null, some, fixed, variable, optional, fixed_size, fill_element, int_type}
use Rattle.zarr_model.specs.Prelude.{uint_type, raw_type, string_type, optional_type, fixed_bytes, variable_bytes}
use Rattle.zarr_model.specs.Prelude.{optional_bytes, default_keys, v2_keys, chunk_key, Options, offset_codec}
use Rattle.zarr_model.specs.Prelude.{bytes_codec, big, decode_array_to_bytes, decode_bytes, decode_levels, Description}
use Rattle.zarr_model.specs.Prelude.{layout, write, refusal, bytes_refusal, is_too_large, has_long_step}
use Rattle.zarr_model.specs.Prelude.{invalid_variable_sized_array_offsets, invalid_mask, expected_optional_bytes}
use Rattle.zarr_model.specs.Prelude.{replies, all_asks, all_bytes, present_in}
use Rattle.zarr_cli.specs.Words.{Settings, with_words, first_settings, settings_of}
use Rattle.zarr_cli_runs.specs.Keys.{IsDump}
use Rattle.zarr_cli_runs.specs.array.parts.Opening.{chain_order}
use Rattle.zarr_cli_runs.specs.Ending.{bad_input, refused_document, damaged_chunk, write_fault, ending_line}
use Rattle.zarr_cli_runs.specs.lines.Text.{input_lines, first_entries, line_command, replies_text, good_lines}
use Rattle.zarr_basics.specs.GridForms.{boundaries}
use Rattle.zarr_cli_runs.specs.array.parts.Document.{describe}
use Rattle.zarr_cli_runs.specs.array.parts.kinds.array_to_array.ArrayToArray.{offset, transpose}
use Rattle.zarr_cli_runs.specs.array.parts.kinds.BytesToBytes.{checksum}
use Rattle.zarr_model.specs.declared.endianness.Endianness.TheVariants.{Little, Big}
use Rattle.zarr_cli_runs.specs.array.parts.kinds.Plain.{plain_bytes, plain_vlen, plain_optional}
use Rattle.zarr_cli_runs.proofs.Documents.{plain_document}
use Rattle.zarr_cli.proofs.Worked.{reply_lines, left_in_chunks, kept_in_chunks, left_chunks, kept_chunks, its_commands}
use Rattle.zarr_cli.proofs.Worked.{first_array, empty_store, store_of, holding}

abbrev plain_options : Options
plain_options = record { store_empty_chunks = false; validate_checksums = true }

abbrev empty_options : Options
empty_options = record { store_empty_chunks = true; validate_checksums = true }

-- an example: the replies, and the final keys by what they decode to and which chunks they are
record Example (description : Description) (options : Options) (input answer dump : List ℕ) : Type 0 where
  texts : reply_lines description options input ≡ Some answer
  elements : left_in_chunks description options input ≡ kept_in_chunks description options dump
  present : left_chunks description options input ≡ kept_chunks description dump

-- a write in the middle, and the whole array
abbrev square : Description
square = describe (plain_document (4 ∷ 4 ∷ []) (2 ∷ 2 ∷ []) 0)

abbrev middle_write_keys : List ℕ
middle_write_keys = codes "key c/0/0 h0000000b\nkey c/0/1 h00000c00\nkey c/1/0 h000e0000\nkey c/1/1 h0f000000\n"

abbrev square_input : List ℕ
square_input = codes "write 1..3,1..3 h0b h0c h0e h0f\nread 0..4,0..4\n"

middle_write : Example square plain_options square_input
    (codes "done\nok h00 h00 h00 h00 h00 h0b h0c h00 h00 h0e h0f h00 h00 h00 h00 h00\n")
    middle_write_keys
unfolding digits encode_with decode_pairs
middle_write = record { texts = refl; elements = refl; present = refl }

middle_write_dump : IsDump true (holding (first_entries (input_lines middle_write_keys))) middle_write_keys
unfolding digits encode_with decode_pairs
middle_write_dump =
    (first_entries (input_lines middle_write_keys), record { in_order = refl; held = λ key. refl }, refl)

middle_write_asks : all_asks square (its_commands square square_input) ≡ 8
unfolding digits encode_with decode_pairs
middle_write_asks = refl

middle_write_bytes : all_bytes square plain_options (its_commands square square_input)
    (first_array square plain_options square_input) (present_in square empty_store) ≡ 16
unfolding digits encode_with decode_pairs
middle_write_bytes = refl

-- the element past the shape stays
past_the_shape : Example (describe (plain_document (5 ∷ []) (2 ∷ []) 0)) plain_options
    (codes "key c/2 h0709\nwrite 4..5 h2a") (codes "done\n") (codes "key c/2 h2a09\n")
unfolding digits encode_with decode_pairs
past_the_shape = record { texts = refl; elements = refl; present = refl }

-- regions without elements, and past the end
empty_regions : Example (describe (plain_document (4 ∷ []) (2 ∷ []) 0)) plain_options
    (codes "read 4..4\nread 4..1\nread 5..5\nread 3..5")
    (codes "ok\nok\nrefused SubsetOutOfBounds\nrefused SubsetOutOfBounds\n") []
unfolding digits encode_with decode_pairs
empty_regions = record { texts = refl; elements = refl; present = refl }

-- no dimension
no_dimension : Example (describe (plain_document [] [] 0)) plain_options (codes "read .\nwrite . h2a\nread .")
    (codes "ok h00\ndone\nok h2a\n") (codes "key c h2a")
unfolding digits encode_with decode_pairs
no_dimension = record { texts = refl; elements = refl; present = refl }

no_dimension_v2 : chunk_key (v2_keys 46) [] ≡ codes "0"
no_dimension_v2 = refl

no_dimension_erase : Example (describe (plain_document [] [] 0)) plain_options
    (codes "read .\nwrite . h2a\nread .\nerase .") (codes "ok h00\ndone\nok h2a\ndone\n") []
unfolding digits encode_with decode_pairs
no_dimension_erase = record { texts = refl; elements = refl; present = refl }

-- a dimension of length 0
empty_dimension : Example (describe (plain_document (0 ∷ 3 ∷ []) (2 ∷ 2 ∷ []) 0)) plain_options
    (codes "read 0..0,0..3\nwrite 0..0,0..3\nerase 0,0")
    (codes "ok\ndone\nrefused SubsetOutOfBounds\n") []
unfolding digits encode_with decode_pairs
empty_dimension = record { texts = refl; elements = refl; present = refl }

-- strings
abbrev strings : Description
strings = describe (record (plain_document (2 ∷ []) (2
    ∷ []) 0) { data_type = string_type; fill = of_bytes (97 ∷ []); to_bytes = plain_vlen true })

texts_stored : Example strings plain_options (codes "write 0..2 h6161 h\nread 0..2") (codes "done\nok h6161 h\n")
    (codes "key c/0 h0200000002000000616100000000")
unfolding digits encode_with decode_pairs
texts_stored = record { texts = refl; elements = refl; present = refl }

texts_stored_blank :
    Example strings plain_options (codes "write 0..2 h6161 h\nwrite 0..2 h61 h61") (codes "done\ndone\n") []
unfolding digits encode_with decode_pairs
texts_stored_blank = record { texts = refl; elements = refl; present = refl }

texts_stored_short :
    Example strings plain_options (codes "write 0..2 h61") (codes "refused InvalidVariableSizedArrayOffsets\n") []
unfolding digits encode_with decode_pairs
texts_stored_short = record { texts = refl; elements = refl; present = refl }

-- two optional levels
abbrev optionals : Description
optionals = describe (record (plain_document (3 ∷ []) (3 ∷ []) 0) {
  data_type = optional_type (optional_type (uint_type 1));
  fill = null;
  to_bytes = plain_optional (plain_optional (plain_bytes (Some Little)));
})

nested_optionals : Example optionals plain_options (codes "write 0..3 - +- ++h2a\nread 0..3")
    (codes "done\nok - +- ++h2a\n") (codes "key c/0 h00010100000100002a")
unfolding digits encode_with decode_pairs
nested_optionals = record { texts = refl; elements = refl; present = refl }

nested_optionals_mask : refusal optionals (write (record { start = 0; size = 3 } ∷ []) (optional_bytes
    (optional_bytes (fixed_bytes (0 ∷ 0 ∷ 0 ∷ [])) (0 ∷ 0 ∷ 0 ∷ [])) (2 ∷ 1 ∷ 1 ∷ []))) ≡ Some invalid_mask
nested_optionals_mask = refl

nested_optionals_fixed : refusal optionals
    (write (record { start = 0; size = 3 } ∷ []) (fixed_bytes (0 ∷ 0 ∷ 0 ∷ []))) ≡ Some expected_optional_bytes
nested_optionals_fixed = refl

nested_optionals_short : Example optionals plain_options (codes "write 0..3 -") (codes "refused InvalidMask\n") []
unfolding digits encode_with decode_pairs
nested_optionals_short = record { texts = refl; elements = refl; present = refl }

-- a chunk that holds the fill everywhere
blank_chunk : Example (describe (plain_document (2 ∷ []) (2 ∷ []) 7)) plain_options
    (codes "key c/0 h0102\nwrite 0..2 h07 h07") (codes "done\n") []
unfolding digits encode_with decode_pairs
blank_chunk = record { texts = refl; elements = refl; present = refl }

blank_chunk_stored : Example (describe (plain_document (2 ∷ []) (2 ∷ []) 7)) empty_options
    (codes "key c/0 h0102\nwrite 0..2 h07 h07") (codes "done\n") (codes "key c/0 h0707")
unfolding digits encode_with decode_pairs
blank_chunk_stored = record { texts = refl; elements = refl; present = refl }

-- big-endian numbers
big_endian : Example (describe (record (plain_document (1 ∷ []) (1
    ∷ []) 0) { data_type = int_type 2; fill = of_bytes (0 ∷ 0 ∷ []); to_bytes = plain_bytes (Some Big) }))
    plain_options (codes "write 0..1 h0100") (codes "done\n") (codes "key c/0 h0001")
unfolding digits encode_with decode_pairs
big_endian = record { texts = refl; elements = refl; present = refl }

big_endian_line : Example (describe (record (plain_document (3 ∷ []) (2
    ∷ []) 0) { data_type = int_type 2; fill = of_bytes (7 ∷ 0 ∷ []); to_bytes = plain_bytes (Some Big) }))
    plain_options (codes "write 1..2 h0203\nread 0..3") (codes "done\nok h0700 h0203 h0700\n")
    (codes "key c/0 h00070302")
unfolding digits encode_with decode_pairs
big_endian_line = record { texts = refl; elements = refl; present = refl }

-- an offset
abbrev with_offset : Description
with_offset = describe (record (plain_document (2 ∷ []) (2 ∷ []) 10) { array_codecs = offset (pos 250) ∷ [] })

less_offset_numbers : Example with_offset plain_options (codes "read 0..1\nwrite 0..1 h0b") (codes "ok h0a\ndone\n")
    (codes "key c/0 h0504")
unfolding digits encode_with decode_pairs
less_offset_numbers = record { texts = refl; elements = refl; present = refl }

-- a region too large to hold; from an array without keys
abbrev huge : Description
huge = describe (plain_document (4294967296 ∷ 4294967296 ∷ []) (1 ∷ 1 ∷ []) 0)

too_large : replies_text (replies huge (its_commands huge
    (codes "read 0..4294967296,0..4294967296\nread 0..1,0..1\nread 0..1")) (blank_array huge.shape huge.fill))
    ≡ codes "refused RegionTooLarge\nok h00\nrefused IncompatibleDimensionality\n"
unfolding digits encode_with decode_pairs
too_large = refl

-- the write is too short
short_write :
    Example square plain_options (codes "write 0..1,0..2 h01") (codes "refused UnexpectedChunkDecodedSize\n") []
unfolding digits encode_with decode_pairs
short_write = record { texts = refl; elements = refl; present = refl }

-- lines out of form, by how many good ones come before them
abbrev good : List ℕ → ℕ
good input = good_lines (line_command (fixed 1)) (input_lines input)

late_key_line : good (codes "read 0..4,0..4\nkey c/0/0 h00") ≡ 1
unfolding digits encode_with decode_pairs
late_key_line = refl

hostile_lines : (good (codes "bogus") ≡ 0) × (good (codes "key /c h00") ≡ 0) × (good (codes "key c/0/0 h0") ≡ 0) ×
    (good (codes "read 0..1, 0..1") ≡ 0)
    × (good (codes "read 01..2,0..1") ≡ 0) × (good (codes "read 0..18446744073709551616,0..1") ≡ 0) ×
    (good (codes "write 0..1,0..1 h0102") ≡ 0)
    × (good (codes "read ") ≡ 0) × (good (codes " read .") ≡ 0) × (good [] ≡ 0) × (good (codes "read .\n\n") ≡ 1) ×
    (good (codes "write 4..4\nwrite 4..4 ") ≡ 1)
unfolding digits encode_with decode_pairs
hostile_lines = (refl, refl, refl, refl, refl, refl, refl, refl, refl, refl, refl, refl)

lines_of_input : (input_lines [] ≡ [] ∷ []) × (input_lines (codes "\n") ≡ [] ∷ []) ×
    (input_lines (codes "a\n\n") ≡ (codes "a") ∷ [] ∷ []) × (input_lines (codes "a\nb") ≡ codes "a" ∷ codes "b" ∷ [])
lines_of_input = (refl, refl, refl, refl)

-- a transposed chunk
transposed : Example
    (describe (record (plain_document (2 ∷ 3 ∷ []) (2 ∷ 3 ∷ []) 0) { array_codecs = transpose (1 ∷ 0 ∷ []) ∷ [] }))
    plain_options (codes "write 0..2,0..3 h01 h02 h03 h04 h05 h06\nread 0..2,1..2") (codes "done\nok h02 h05\n")
    (codes "key c/0/0 h010402050306")
unfolding digits encode_with decode_pairs
transposed = record { texts = refl; elements = refl; present = refl }

transposed_cube : Example (describe (record (plain_document (2 ∷ 2 ∷ 2 ∷ []) (2 ∷ 2 ∷ 2 ∷ []) 0) {
  array_codecs = transpose (2 ∷ 0 ∷ 1 ∷ []) ∷ [];
}))
    plain_options (codes "write 0..2,0..2,0..2 h01 h02 h03 h04 h05 h06 h07 h08") (codes "done\n")
    (codes "key c/0/0/0 h0103050702040608")
unfolding digits encode_with decode_pairs
transposed_cube = record { texts = refl; elements = refl; present = refl }

-- a grid of boundaries
boundary_lengths :
    Example (describe (record (plain_document (5 ∷ []) (5 ∷ []) 0) { grid = boundaries ((2 ∷ 4 ∷ []) ∷ []) }))
    plain_options (codes "write 1..3 h01 h02") (codes "done\n") (codes "key c/0 h0001\nkey c/1 h02000000")
unfolding digits encode_with decode_pairs
boundary_lengths = record { texts = refl; elements = refl; present = refl }

-- an empty middle dimension
empty_middle : Example (describe (plain_document (2 ∷ 0 ∷ 3 ∷ []) (1 ∷ 1 ∷ 1 ∷ []) 0)) plain_options
    (codes "read 0..2,0..0,0..3\nread 2..2,0..0,3..3\nread 0..2,0..1,0..3")
    (codes "ok\nok\nrefused SubsetOutOfBounds\n") []
unfolding digits encode_with decode_pairs
empty_middle = record { texts = refl; elements = refl; present = refl }

-- later key lines win
later_key_wins : Example (describe (plain_document (4 ∷ []) (2 ∷ []) 0)) plain_options (codes
    "key c/0 h0102\nkey c/0 h0304\nkey c/9 hff\nread 0..2") (codes "ok h03 h04\n") (codes "key c/0 h0304\nkey c/9 hff")
unfolding digits encode_with decode_pairs
later_key_wins = record { texts = refl; elements = refl; present = refl }

-- a digest that is right, wrong, not looked at, and a value too short for one
abbrev with_digest : Description
with_digest = describe (record (plain_document (1 ∷ []) (1
    ∷ []) 0) { data_type = raw_type 3; fill = of_bytes (0 ∷ 0 ∷ 0 ∷ []); byte_codecs = checksum ∷ [] })

abbrev unchecked_options : Options
unchecked_options = record { store_empty_chunks = false; validate_checksums = false }

digest : reply_lines with_digest plain_options
    (codes "key c/0 h616263ba7816bf8f01cfea414140de5dae2223b00361a396177a9cb410ff61f20015ad\nread 0..1") ≡
    Some (codes "ok h616263\n")
unfolding digits encode_with decode_pairs sha256 digest_bytes hash_after compress rounds schedule first_words
digest = refl

digest_unchecked : reply_lines with_digest unchecked_options
    (codes "key c/0 h616263ba7816bf8f01cfea414140de5dae2223b00361a396177a9cb410ff61f20015ae\nread 0..1") ≡
    Some (codes "ok h616263\n")
unfolding digits encode_with decode_pairs sha256 digest_bytes hash_after compress rounds schedule first_words
digest_unchecked = refl

digest_wrong : kept_in_chunks with_digest plain_options
    (codes "key c/0 h616263ba7816bf8f01cfea414140de5dae2223b00361a396177a9cb410ff61f20015ae") ≡ None ∷ []
unfolding digits encode_with decode_pairs sha256 digest_bytes hash_after compress rounds schedule first_words
digest_wrong = refl

digest_short : kept_in_chunks with_digest plain_options (codes "key c/0 h6162") ≡ None ∷ []
unfolding digits encode_with decode_pairs sha256 digest_bytes hash_after compress rounds schedule first_words
digest_short = refl

-- a read that follows the first example asks for four chunks and four bytes
middle_write_read : (all_asks square (its_commands square (codes "read 1..3,1..3")) ≡ 4)
    × (all_bytes square plain_options (its_commands square (codes "read 1..3,1..3"))
    (first_array square plain_options middle_write_keys) (present_in square (store_of middle_write_keys)) ≡ 4)
unfolding digits encode_with decode_pairs
middle_write_read = (refl, refl)

-- linear indices, and places
linear : (linear_indices (8 ∷ 8 ∷ []) (record { start = 1; size = 2 } ∷ record { start = 5; size = 2 } ∷ []) ≡
    13 ∷ 14 ∷ 21 ∷ 22 ∷ [])
    × (linear_index (3 ∷ 4 ∷ []) (1 ∷ 2 ∷ []) ≡ 6) × (tuple_at (whole (3 ∷ 4 ∷ [])) 11 ≡ 2 ∷ 3 ∷ [])
    × (linear_indices (6 ∷ 7 ∷ 1 ∷ []) (record { start = 3; size = 1 } ∷ record { start = 4; size = 1 }
    ∷ record { start = 0; size = 1 } ∷ []) ≡ 25 ∷ [])
linear = (refl, refl, refl, refl)

-- fill values of an optional type in an optional type
fills : (fill_element (optional (optional (fixed 1))) (42 ∷ 1 ∷ 1 ∷ []) ≡ Some (some (some (of_bytes (42 ∷ [])))))
    × (fill_element (optional (optional (fixed 1))) (0 ∷ 1 ∷ []) ≡ Some (some null)) ×
    (fill_element (optional (optional (fixed 1))) (0 ∷ []) ≡ Some null)
    × (fill_element (optional (fixed 1)) [] ≡ None) × (fill_element (fixed 2) (1 ∷ []) ≡ None)
fills = (refl, refl, refl, refl, refl)

-- offsets that don't begin at 0; and a long element under a null
offsets_refused : bytes_refusal variable 1 (variable_bytes (1 ∷ 2 ∷ 3 ∷ []) (1 ∷ 3 ∷ [])) ≡
    Some invalid_variable_sized_array_offsets
offsets_refused = refl

long_steps : (has_long_step (0 ∷ 4294967295 ∷ []) ≡ false) × (has_long_step (0 ∷ 4294967296 ∷ []) ≡ true)
long_steps = (refl, refl)

-- `vlen` values out of form
vlen_refused : (kept_in_chunks strings plain_options (codes "key c/0 h020000000100000061") ≡ None ∷ []) ×
    (kept_in_chunks strings plain_options (codes "key c/0 hffffffff") ≡ None ∷ [])
    × (kept_in_chunks optionals plain_options (codes "key c/0 h020000000000000000") ≡ None ∷ []) ×
    (kept_in_chunks optionals plain_options (codes "key c/0 h0000") ≡ None ∷ [])
unfolding digits encode_with decode_pairs
vlen_refused = (refl, refl, refl, refl)

-- the keys of a far chunk
far_key : chunk_key (default_keys 47) (18446744073709551614 ∷ []) ≡ codes "c/18446744073709551614"
unfolding digits
far_key = refl

-- the words of the command line
abbrev every_word : List ℕ → Bool
every_word word = true

abbrev made : ℕ → Settings
made n = record first_settings { make = Some n }

words_read : (with_words every_word false (codes "--dump" ∷ codes "--no-checksums" ∷ []) first_settings
    ≡ Some
    (record { dump = true; options = record { store_empty_chunks = false; validate_checksums = false }; make = None }))
    × (with_words every_word false (codes "--x" ∷ []) first_settings ≡ None)
words_read = (refl, refl)

-- a word with a number: the last one counts, and the number may not lack
numbers_read : (with_words every_word false
    (codes "--make" ∷ codes "5" ∷ codes "--make" ∷ codes "70" ∷ []) first_settings ≡ Some (made 70))
    × (with_words every_word false (codes "--make" ∷ []) first_settings ≡ None)
    × (with_words every_word false (codes "--make" ∷ codes "x" ∷ []) first_settings ≡ None)
    × (with_words every_word false (codes "--make" ∷ codes "--dump" ∷ []) first_settings ≡ None)
    × (with_words every_word false (codes "5" ∷ []) first_settings ≡ None)
unfolding digits
numbers_read = (refl, refl, refl, refl, refl)

-- the words and the command lines that a program knows
known_words : (settings_of [] ≡ Some first_settings) × (settings_of (codes "-dump" ∷ []) ≡ None)
    × (settings_of (codes "--dump" ∷ []) ≡ Some (record first_settings { dump = true }))
    × (settings_of (codes "--no-checksums" ∷ []) ≡
    Some (record first_settings { options = record plain_options { validate_checksums = false } }))
    × (settings_of (codes "--make" ∷ codes "5" ∷ []) ≡ Some (record first_settings { make = Some 5 }))
    × (settings_of (codes "--make" ∷ codes "5" ∷ codes "--dump" ∷ codes "--make" ∷ codes "6" ∷ []) ≡
    Some (record first_settings { dump = true; make = Some 6 }))
    × (settings_of (codes "--make" ∷ []) ≡ None) × (settings_of (codes "--make" ∷ codes "x" ∷ []) ≡ None)
    × (settings_of (codes "--make" ∷ codes "01" ∷ []) ≡ None) ×
    (settings_of (codes "--make" ∷ codes "5" ∷ codes "--make" ∷ []) ≡ None)
unfolding digits
known_words = (refl, refl, refl, refl, refl, refl, refl, refl, refl, refl)

known_commands :
    (good_lines (line_command (fixed 1)) (codes "key c/0 h01" ∷ codes "read 0..1" ∷ codes "write 0..1 00" ∷ []) ≡ 2)
    × (good_lines (line_command (fixed 1)) (codes "key c/0 h01" ∷ codes "read 0..1" ∷ codes "write 0..1 h00" ∷ []) ≡ 3)
unfolding digits encode_with decode_pairs
known_commands = (refl, refl)

-- an element of a line has the bytes of its type
sized_lines : (good_lines (line_command (fixed 2)) (codes "write 0..2 h0100 hFf02" ∷ codes "write 0..1 h01" ∷ []) ≡ 1)
    × (good_lines (line_command (fixed 2)) (codes "write 0..1 h010203" ∷ []) ≡ 0)
unfolding digits encode_with decode_pairs
sized_lines = (refl, refl)

-- the lines of endings
lines_of_endings : (ending_line (bad_input 12) ≡ Some (codes "input 12\n")) ×
    (ending_line (refused_document chain_order) ≡ Some (codes "document ChainOrder\n"))
    × (ending_line (damaged_chunk (codes "c/0")) ≡ Some (codes "chunk c/0\n")) × (ending_line write_fault ≡ None)
unfolding digits
lines_of_endings = (refl, refl, refl, refl)

-- a damaged key is dropped, and no other
mended : (undamaged (layout square plain_options) (store_of (codes "key c/0/0 h01\nkey c/0/1 h01020304\nkey x h00"))
    (codes "c/0/0") ≡ None)
    × (undamaged (layout square plain_options) (store_of (codes "key c/0/0 h01\nkey c/0/1 h01020304\nkey x h00"))
    (codes "c/0/1") ≡ Some (1 ∷ 2 ∷ 3 ∷ 4 ∷ []))
    × (undamaged (layout square plain_options) (store_of (codes "key c/0/0 h01\nkey c/0/1 h01020304\nkey x h00"))
    (codes "x") ≡ Some (0 ∷ []))
unfolding digits encode_with decode_pairs
mended = (refl, refl, refl)

-- below an offset the fill has the offset too
fill_below : ((offset_codec (pos 250)).level_below
    (record { shape = []; data_type = uint_type 1; fill = of_bytes (10 ∷ []) })).fill ≡ of_bytes (4 ∷ [])
fill_below = refl

-- a count of 2 ^ 64 - 1 is too large, and one less is not
largest : (is_too_large (Some 1) 18446744073709551615 ≡ true)
    × (is_too_large (Some 1) 18446744073709551614 ≡ false)
    × (is_too_large None 18446744073709551615 ≡ true)
largest = (refl, refl, refl)

-- the components of a raw type have one byte, so no byte order turns them round
raw_order : decode_array_to_bytes plain_options (bytes_codec big)
    (record { shape = 1 ∷ []; data_type = raw_type 3; fill = of_bytes (0 ∷ 0 ∷ 0 ∷ []) }) (1 ∷ 2 ∷ 3 ∷ []) ≡
    Some (of_bytes (1 ∷ 2 ∷ 3 ∷ []) ∷ [])
raw_order = refl

-- the last codec of a list is undone first
codec_order :
    (decode_bytes ((λ v. Some (take 2 v)) ∷ (λ v. Some (drop 1 v)) ∷ []) (1 ∷ 2 ∷ 3 ∷ 4 ∷ []) ≡ Some (2 ∷ 3 ∷ []))
codec_order = refl

level_order : decode_levels
    (record { level_below = λ level. level; decode_list = λ level l. Some (take 1 l); box_below = λ shape box. box }
    ∷ record { level_below = λ level. level; decode_list = λ level l. Some (drop 1 l); box_below = λ shape box. box }
    ∷ [])
    (λ level value. Some (of_bytes value ∷ null ∷ some null ∷ []))
    (record { shape = []; data_type = raw_type 3; fill = null }) [] ≡ Some (null ∷ [])
level_order = refl

-- the size of an optional type is that of the innermost one
optional_size : is_too_large (fixed_size (optional (optional (fixed 8)))) 2305843009213693952 ≡ true
optional_size = refl
