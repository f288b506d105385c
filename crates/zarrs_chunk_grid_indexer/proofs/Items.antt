-- Counts of lists of things, each of which stands for a list.
use Rattle.std.proofs.Common.{◌≡◌, ◌+◌, List, ◌∷◌, length}
use Rattle.std.specs.List.{flat_map}
use Rattle.std.proofs.lemmas.List.{length-append}

pub count_first : {X A : Type 0} (list : X → List A) (x : X) (xs : List X) →
    length (flat_map list (x ∷ xs)) ≡ length (list x) + length (flat_map list xs)
count_first list x xs = length-append (list x) (flat_map list xs)

pub ruleset of_counts = (count_first)
