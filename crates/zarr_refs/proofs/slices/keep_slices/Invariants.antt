use Rattle.std.proofs.Common.{◌≡◌, ℕ, List, drop, take}
use Rattle.zarr_refs.specs.References.{first_repeated, repeated_after}
use Rattle.zarr_refs.specs.Slices.{slice_at, slice_named}
use Rattle.zarr_refs.proofs.slices.keep_slices.Given as goal

abbrev pub invariant-loop-reference : goal.invariant-loop-reference
invariant-loop-reference l =
    ((key : List ℕ) → slice_at l.slices key ≡ slice_named key (take l.reference-index l.references))
    × (first_repeated l.references ≡
    repeated_after (take l.reference-index l.references) (drop l.reference-index l.references))
