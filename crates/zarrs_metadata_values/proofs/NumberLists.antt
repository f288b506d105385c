-- Lists of whole numbers, written and read again.
use Rattle.std.proofs.Common.{◌≡◌, ℕ, List, [], ◌∷◌, map, Some, refl}
use Rattle.serde_json.specs.View.{items_of}
use Rattle.zarrs_metadata_values.specs.Reading.{each, whole_number, whole_numbers}
use Rattle.zarrs_metadata_values.specs.Writing.{number_data, numbers_data}

pub numbers_read_back : (ns : List ℕ) → each whole_number (items_of (map number_data ns)) ≡ Some ns
numbers_read_back [] = refl
numbers_read_back (n ∷ ns) = rw (numbers_read_back ns)

pub whole_numbers_read_back : (ns : List ℕ) → whole_numbers (numbers_data ns) ≡ Some ns
unfolding whole_numbers
whole_numbers_read_back ns = numbers_read_back ns
