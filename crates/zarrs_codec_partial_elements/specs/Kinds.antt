-- Kinds as lists of numbers: that two are one kind is then an equation, which a ghost field can hold.
use Rattle.std.specs.Prelude.{ℕ, suc, List, [], ◌∷◌}
use Rattle.zarr_model.specs.Element.{Kind, fixed, variable, optional}

-- each level of options is a 0; elements of n bytes end in n and one more, those of any length in nothing
abbrev pub kind_code : Kind → List ℕ
kind_code (fixed n) = suc n ∷ []
kind_code variable = []
kind_code (optional kind) = 0 ∷ kind_code kind
