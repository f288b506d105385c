-- Facts on regions that the indexers of boxes need.
use Rattle.std.proofs.Common.{◌≡◌, ℕ, List, length, map}
use Rattle.std.proofs.lemmas.List.{length-map}
use Rattle.zarr_model.proofs.RegionLaws.{length-tuples}

pub ruleset of_boxes = (length-tuples)

pub length_of_map : {V : Type 0} (f : V → List ℕ) (list : List V) → length (map f list) ≡ length list
length_of_map f list = length-map list f

pub ruleset of_lists = (length_of_map)
