-- The configuration that is written for lengths.
use Rattle.std.proofs.Common.{◌≡◌, ℕ, true, List, [], ◌∷◌, map, Option, Some, None, refl, ap, ◌∙◌}
use Rattle.std.proofs.lemmas.Bool.{cond-true}
use Rattle.zarrs_metadata_values.specs.Reading.{◌>>=◌, whole_numbers}
use Rattle.zarrs_metadata_values.specs.Writing.{numbers_data}
use Rattle.zarrs_metadata_values.proofs.EachLemmas.{each_written}
use Rattle.zarrs_metadata_values.proofs.NumberLists.{whole_numbers_read_back}
use Rattle.zarr_model.specs.Prelude.{are_cut}
use Rattle.zarr_basics.specs.BoundaryConfigurations.{number_lists, number_lists_data, if_cut, lengths_in}
use Rattle.zarr_basics.specs.BoundaryConfigurations.{lengths_members}

same : (lists : List (List ℕ)) → map (λ l. l) lists ≡ lists
same [] = refl
same (l ∷ lists) = ap (λ r. l ∷ r) (same lists)

lists_read_back : (lists : List (List ℕ)) → number_lists (number_lists_data lists) ≡ Some lists
unfolding number_lists
lists_read_back lists =
    each_written whole_numbers numbers_data (λ l. l) whole_numbers_read_back lists ∙ ap Some (same lists)

pub reads_back : (shape : List ℕ) (lengths : List (List ℕ)) → are_cut shape lengths ≡ true →
    lengths_in shape (Some (lengths_members lengths)) ≡ Some lengths
unfolding lengths_in
reads_back shape lengths e = ap (λ (read : Option (List (List ℕ))). read >>= if_cut shape) (lists_read_back lengths)
    ∙ cond-true (are_cut shape lengths) (Some lengths) None e
