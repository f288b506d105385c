use Rattle.std.proofs.Common.{◌≡◌, true, rules, ap₂}
use Rattle.zarrs_array_subset.specs.Boxes.{region_of, is_box}
use Rattle.zarrs_array_subset.proofs.BoxLaws.{same_boxes}
use Rattle.zarrs_array_subset.proofs.array_subset.ArraySubset.equals_subset.Goals as goal

pub returns : goal.returns
returns c =
    let a : is_box c.args.self.now.start.items c.args.self.now.shape.items ≡ true = search rules in
    let b : is_box c.args.other.now.start.items c.args.other.now.shape.items ≡ true = search rules in (
      λ t. let h = c.are_same.ensures.0 t in ap₂ region_of h.0 h.1,
      λ e. c.are_same.ensures.1 (same_boxes _ _ _ _ a b e),
    )
