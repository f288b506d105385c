-- What index lists hold (`_of`), and what is left of them in iterators that borrow a list (`_lent`) and in
-- those that own one (`_left`).
use Rattle.std.specs.Prelude.{ℕ, ◌-◌, List, map}
use Rattle.zarr_model.specs.Region.{Region, Span, tuple_at}
use Rattle.zarrs_array_subset.specs.ArraySubset.{region}
use Rattle.zarrs_chunk_grid_iterators.specs.Places.{places, linear_at}
use Rattle.zarrs_chunk_grid_iterators.specs.declared.indices_iterator.Indices.{Indices}
use Rattle.zarrs_chunk_grid_iterators.specs.declared.indices_iterator.IndicesIterator.{IndicesIterator}
use Rattle.zarrs_chunk_grid_iterators.specs.declared.indices_iterator.IndicesIntoIterator.{IndicesIntoIterator}
use Rattle.zarrs_chunk_grid_iterators.specs.declared.linearised_indices_iterator.LinearisedIndices.{LinearisedIndices}
use Rattle.zarrs_chunk_grid_iterators.specs.declared.linearised_indices_iterator.LinearisedIndicesIterator.{
  LinearisedIndicesIterator,
}
use Rattle.zarrs_chunk_grid_iterators.specs.declared.linearised_indices_iterator.LinearisedIndicesIntoIterator.{
  LinearisedIndicesIntoIterator,
}
use Rattle.zarrs_chunk_grid_iterators.specs.declared.contiguous_indices_iterator.ContiguousIndices.{ContiguousIndices}
use Rattle.zarrs_chunk_grid_iterators.specs.declared.contiguous_indices_iterator.ContiguousIndicesIterator.{
  ContiguousIndicesIterator,
}
use Rattle.zarrs_chunk_grid_iterators.specs.declared.contiguous_indices_iterator.ContiguousIndicesIntoIterator.{
  ContiguousIndicesIntoIterator,
}
use Rattle.zarrs_chunk_grid_iterators.specs.declared.contiguous_linearised_indices_iterator.ContiguousLinearisedIndices.{
  ContiguousLinearisedIndices,
}
use Rattle.zarrs_chunk_grid_iterators.specs.declared.contiguous_linearised_indices_iterator.ContiguousLinearisedIndicesIterator.{
  ContiguousLinearisedIndicesIterator,
}
use Rattle.zarrs_chunk_grid_iterators.specs.declared.contiguous_linearised_indices_iterator.ContiguousLinearisedIndicesIntoIterator.{
  ContiguousLinearisedIndicesIntoIterator,
}

-- the tuples at the places of a region's list from a up to b
abbrev pub indices_of : Region → ℕ → ℕ → List (List ℕ)
indices_of region a b = map (tuple_at region) (places a b)

-- tuples
abbrev pub tuples_of : Indices → List (List ℕ)
tuples_of s = map (tuple_at (region s.subset)) (places s.left.start s.left.end)

abbrev pub tuples_lent : IndicesIterator → List (List ℕ)
tuples_lent s = map (tuple_at (region s.indices.now.subset)) (places s.left.start s.left.end)

abbrev pub first_lent : IndicesIterator → List ℕ
first_lent s = tuple_at (region s.indices.now.subset) s.left.start

abbrev pub last_lent : IndicesIterator → List ℕ
last_lent s = tuple_at (region s.indices.now.subset) (s.left.end - 1)

abbrev pub tuples_left : IndicesIntoIterator → List (List ℕ)
tuples_left s = map (tuple_at (region s.indices.subset)) (places s.left.start s.left.end)

abbrev pub first_left : IndicesIntoIterator → List ℕ
first_left s = tuple_at (region s.indices.subset) s.left.start

abbrev pub last_left : IndicesIntoIterator → List ℕ
last_left s = tuple_at (region s.indices.subset) (s.left.end - 1)

-- linear indices
abbrev pub linear_of : LinearisedIndices → List ℕ
linear_of s = map (linear_at s.array_shape.items (region s.subset)) (places 0 s.total)

abbrev pub linear_lent : LinearisedIndicesIterator → List ℕ
linear_lent s =
    map (linear_at s.indices.now.array_shape.items (region s.indices.now.subset))
    (places s.left.start s.left.end)

abbrev pub linear_left : LinearisedIndicesIntoIterator → List ℕ
linear_left s =
    map (linear_at s.indices.array_shape.items (region s.indices.subset)) (places s.left.start s.left.end)

-- runs of linear indices
abbrev pub runs_of : ContiguousLinearisedIndices → List Span
runs_of s =
    map (λ index. record { start = index; size = s.contiguous_elements }) (linear_of s.starts)

abbrev pub runs_lent : ContiguousLinearisedIndicesIterator → List Span
runs_lent s =
    map (λ index. record { start = index; size = s.contiguous_elements }) (linear_lent s.starts)

abbrev pub runs_left : ContiguousLinearisedIndicesIntoIterator → List Span
runs_left s =
    map (λ index. record { start = index; size = s.contiguous_elements }) (linear_left s.starts)

-- runs by the tuples at which they begin
abbrev pub tuple_runs_of : ContiguousIndices → List (List ℕ × ℕ)
tuple_runs_of s = map (λ tuple. (tuple, s.contiguous_elements)) (tuples_of s.starts)

abbrev pub tuple_runs_lent : ContiguousIndicesIterator → List (List ℕ × ℕ)
tuple_runs_lent s = map (λ tuple. (tuple, s.contiguous_elements)) (tuples_lent s.starts)

abbrev pub first_run_lent : ContiguousIndicesIterator → List ℕ × ℕ
first_run_lent s = (first_lent s.starts, s.contiguous_elements)

abbrev pub last_run_lent : ContiguousIndicesIterator → List ℕ × ℕ
last_run_lent s = (last_lent s.starts, s.contiguous_elements)

abbrev pub tuple_runs_left : ContiguousIndicesIntoIterator → List (List ℕ × ℕ)
tuple_runs_left s = map (λ tuple. (tuple, s.contiguous_elements)) (tuples_left s.starts)

abbrev pub first_run_left : ContiguousIndicesIntoIterator → List ℕ × ℕ
first_run_left s = (first_left s.starts, s.contiguous_elements)

abbrev pub last_run_left : ContiguousIndicesIntoIterator → List ℕ × ℕ
last_run_left s = (last_left s.starts, s.contiguous_elements)
