-- What a `BoundaryAxis` stands for, and numbers of several, dimension by dimension.
use Rattle.std.specs.Prelude.{ℕ, ◌+◌, ◌-◌, ◌^◌, min, max, List, [], ◌∷◌, map, zip, get_or}
use Rattle.zarr_model.specs.Prelude.{Region, chunk_at, largest}
use Rattle.zarr_basics.specs.Lengths.{nonzeros}
use Rattle.zarr_basics.specs.declared.axis.BoundaryAxis.{BoundaryAxis}

abbrev pub axis_lengths : BoundaryAxis → List ℕ
axis_lengths axis = nonzeros axis.lengths.items

abbrev pub axis_starts : BoundaryAxis → List ℕ
axis_starts axis = axis.starts.items

-- the lengths of the chunks in each dimension, and the largest of each, or 1 where there is none
abbrev pub lengths_of : List BoundaryAxis → List (List ℕ)
lengths_of axes = map axis_lengths axes

abbrev pub largest_of : List BoundaryAxis → List ℕ
largest_of axes = map (λ axis. max 1 (largest (axis_lengths axis))) axes

-- the chunk of each index, and of the last index of each start and length
abbrev pub chunks_at : List BoundaryAxis → List ℕ → List ℕ
chunks_at axes indices = map (λ p. chunk_at (axis_starts p.0) p.1) (zip axes indices)

abbrev pub last_chunks : List BoundaryAxis → List ℕ → List ℕ → List ℕ
last_chunks axes start shape =
    map (λ p. chunk_at (axis_starts p.0.0) (min (p.0.1 + p.1) (2 ^ 64 - 1) - 1))
    (zip (zip axes start) shape)

-- where each chunk begins, and its length
abbrev pub starts_at : List BoundaryAxis → List ℕ → List ℕ
starts_at axes chunk = map (λ p. get_or (axis_starts p.0) p.1 0) (zip axes chunk)

abbrev pub lengths_at : List BoundaryAxis → List ℕ → List ℕ
lengths_at axes chunk = map (λ p. get_or (axis_lengths p.0) p.1 1) (zip axes chunk)

-- the chunks that a region meets, as a region of chunks
abbrev pub boundary_chunk_region : List BoundaryAxis → Region → Region
boundary_chunk_region (axis ∷ axes) (span ∷ region) = record {
  start = chunk_at (axis_starts axis) span.start;
  size = chunk_at (axis_starts axis) (span.start + span.size - 1)
      - chunk_at (axis_starts axis) span.start + 1;
} ∷ boundary_chunk_region axes region
boundary_chunk_region _ _ = []
