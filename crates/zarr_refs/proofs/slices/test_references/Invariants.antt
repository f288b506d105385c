use Rattle.std.proofs.Common.{◌≡◌, ◌≤◌, true, take, drop}
use Rattle.std.specs.List.{list_all}
use Rattle.zarr_refs.specs.Slices.{slice_by, is_bounded}
use Rattle.zarrs_storage.specs.Store.{SameContent}
use Rattle.zarr_refs.specs.References.{unfit, IsAsked}
use Rattle.zarr_refs.proofs.slices.test_references.Given as goal

abbrev pub invariant-loop-reference : goal.invariant-loop-reference
invariant-loop-reference g l =
    SameContent (g.S.Store.shown l.initial.base) (g.S.Store.shown l.base)
    × ((g.S.Store.shown l.initial.base).faults ≤ (g.S.Store.shown l.base).faults)
    × (unfit (g.S.Store.shown l.initial.base).content l.references ≡
    unfit (g.S.Store.shown l.initial.base).content (drop l.reference-index l.references))
    × (list_all (λ r. is_bounded (slice_by r)) (take l.reference-index l.references) ≡ true)
    × IsAsked l.reference-index (g.S.Store.shown l.initial.base) (g.S.Store.shown l.base)
