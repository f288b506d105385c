-- The runs of a region's elements as ranges of the bytes of a value, and what is told of the parts
-- that are read of it.
use Rattle.std.specs.Prelude.{ℕ, ◌+◌, ◌*◌, ◌/◌, List, [], ◌∷◌, length, map, Some}
use Rattle.zarrs_codec_traits.specs.Prelude.{Span, Region, BytesAnswer, fine, then_answer}
use Rattle.zarrs_chunk_grid_iterators.specs.Runs.{runs}
use Rattle.zarrs_storage.specs.declared.byte_range.ByteRange.{ByteRange}
use Rattle.zarrs_storage.specs.declared.byte_range.ByteRange.TheVariants.{FromStart}
use Rattle.zarrs_codec_traits.specs.Parts.{length_answer}

-- the bytes of a run of elements of a size
abbrev pub run_range : ℕ → Span → ByteRange
run_range size run = FromStart (run.start * size) (Some (run.size * size))

-- those of the runs of a region of a shape
abbrev pub run_ranges : ℕ → List ℕ → Region → List ByteRange
run_ranges size shape region = map (run_range size) (runs shape region)

-- the same of a shape whose elements are behind so many bytes
abbrev pub run_after : ℕ → ℕ → Span → ByteRange
run_after before size run = FromStart (before + run.start * size) (Some (run.size * size))

abbrev pub ranges_after : ℕ → ℕ → List ℕ → Region → List ByteRange
ranges_after before size shape region = map (run_after before size) (runs shape region)

-- what is told of parts that must have one length each: the first of another length
abbrev pub part_answer : ℕ → List ℕ → BytesAnswer
part_answer long part = length_answer (FromStart 0 (Some long)) part

abbrev pub parts_answer : ℕ → List (List ℕ) → BytesAnswer
parts_answer long [] = fine
parts_answer long (part ∷ parts) = then_answer (part_answer long part) (parts_answer long parts)

-- the same of parts of one length that have so many bytes together
abbrev pub even_answer : ℕ → List (List ℕ) → BytesAnswer
even_answer total parts = parts_answer (total / length parts) parts
