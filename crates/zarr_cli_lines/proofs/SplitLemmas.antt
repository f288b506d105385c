-- The parts of a text between separators.
use Rattle.std.proofs.Common.{◌≡◌, ℕ, ◌<◌, ◌==◌, List, [], ◌∷◌, length, None, refl, arith}
use Rattle.std.proofs.lemmas.List.Splits.{length-slice_split}
use Rattle.zarr_cli_lines.specs.Text.{split_at}
use Rattle.zarr_cli_lines.specs.Parts.{two_of}

-- a text has a part
pub split_nonempty : (separator : ℕ) (text : List ℕ) → 0 < length (split_at separator text)
split_nonempty separator text = omega (arith, length-slice_split (λ b. b == separator) text)

-- after two parts and a separator there is a third one
pub more_than_two : (separator : ℕ) (first second rest : List ℕ) →
    two_of (first ∷ second ∷ split_at separator rest) ≡ None
more_than_two separator first second rest = go (split_at separator rest) (split_nonempty separator rest)
  where
    go : (parts : List (List ℕ)) → 0 < length parts → two_of (first ∷ second ∷ parts) ≡ None
    go [] h = absurd (omega arith)
    go (part ∷ parts) h = refl
