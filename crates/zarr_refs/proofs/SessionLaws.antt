-- A session of reads that is one.
use Rattle.std.proofs.Common.{◌≡◌, ◌∙◌, ap, sym, subst, refl, ℕ, List, Vec, Option, Some, None, option_map}
use Rattle.std.proofs.Common.{MatchOption, Result}
use Rattle.std.specs.BTreeMap.{BTreeMap}
use Rattle.zarrs_codec_traits.specs.Prelude.{Shown, SameContent}
use Rattle.zarr_array.specs.Ended.{Ended}
use Rattle.zarr_array.specs.boxes.declared.command.Reply.{Reply}
use Rattle.zarr_refs.specs.declared.slices.Slice.{Slice}
use Rattle.zarr_refs.specs.Slices.{slice_at, bytes_part, slice_held}
use Rattle.zarr_refs.specs.Over.{Over, over_shown}
use Rattle.zarr_refs.specs.Kept.{KeepsOver}
use Rattle.zarr_refs.specs.declared.error.RefSessionError.{RefSessionError}
use Rattle.zarr_refs.specs.Session.{session_ended, IsSession}

pub is_session : {Z : Type 0} (result : Result (Vec Reply Z) RefSessionError) (ended : Ended) (P : Ended → Type 0) →
    session_ended result ≡ Some ended → P ended → IsSession result P
is_session result ended P is p = subst (λ (o : Option Ended). MatchOption o ⊥ P) (sym is) p

-- the content of slices that are kept
held_alike : (slice : Option Slice) (old new : Shown) → SameContent old new →
    slice_held new.content slice ≡ slice_held old.content slice
held_alike None old new same = refl
held_alike (Some s) old new same = ap (option_map (bytes_part s.offset s.length)) (same s.base)

pub same_slices : (old new : Over) → KeepsOver old new → SameContent (over_shown old) (over_shown new)
same_slices old new kept key =
    ap (λ (slices : BTreeMap (List ℕ) Slice). slice_held new.base.content (slice_at slices key)) kept.same_slices
    ∙ held_alike (slice_at old.slices key) old.base new.base kept.same
