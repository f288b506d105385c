-- The configuration that is written for a chunk shape.
use Rattle.std.proofs.Common.{◌≡◌, ℕ, true, List, Option, Some, None, ap, ◌∙◌}
use Rattle.std.proofs.lemmas.Bool.{cond-true}
use Rattle.std.specs.Prelude.{codes}
use Rattle.serde_json.specs.Data.{Data, Members, no_members, member}
use Rattle.zarrs_metadata_values.specs.Configuration.{only_member}
use Rattle.zarrs_metadata_values.specs.Reading.{◌>>=◌, whole_numbers}
use Rattle.zarrs_metadata_values.specs.Writing.{numbers_data}
use Rattle.zarrs_metadata_values.proofs.EachLemmas.{bind_some}
use Rattle.zarrs_metadata_values.proofs.NumberLists.{whole_numbers_read_back}
use Rattle.zarr_basics.proofs.ReadLengths.{whole_numbers_back, only_member_back, if_back}
use Rattle.zarr_basics.specs.GridConfigurations.{are_chunk_lengths, if_chunk_lengths, chunk_shape_in}
use Rattle.zarr_basics.specs.GridConfigurations.{chunk_shape_members}

pub reads_back : (shape lengths : List ℕ) → are_chunk_lengths shape lengths ≡ true →
    chunk_shape_in shape (Some (chunk_shape_members lengths)) ≡ Some lengths
unfolding chunk_shape_in
reads_back shape lengths e =
    ap (λ (read : Option (List ℕ)). read >>= if_chunk_lengths shape) (whole_numbers_read_back lengths)
    ∙ cond-true (are_chunk_lengths shape lengths) (Some lengths) None e

pub is_written : (shape : List ℕ) (configuration : Option Members) (lengths : List ℕ) →
    chunk_shape_in shape configuration ≡ Some lengths → configuration ≡ Some (chunk_shape_members lengths)
unfolding chunk_shape_in
is_written shape None lengths e = cc
is_written shape (Some ms) lengths e =
    let value =
    bind_some (only_member (codes "chunk_shape") ms) (λ v. whole_numbers v >>= if_chunk_lengths shape) lengths e in
    let numbers = bind_some (whole_numbers value.0) (if_chunk_lengths shape) lengths value.2 in
    ap Some (only_member_back (codes "chunk_shape") ms value.0 value.1
    ∙ ap (λ (v : Data). member (codes "chunk_shape") v no_members) (whole_numbers_back value.0 numbers.0 numbers.1
    ∙ ap numbers_data (if_back (are_chunk_lengths shape numbers.0) numbers.0 lengths numbers.2)))
