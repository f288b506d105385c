-- Metadata that is refused for its name.
use Rattle.std.proofs.Common.{◌≡◌, ℕ, Bool, true, false, ◌↔◌, if◌then◌else◌, List, Result, Err, refl, sym, ap}
use Rattle.std.proofs.Common.{true≢false}
use Rattle.zarrs_metadata_parts.specs.MetadataV3.{Extension}
use Rattle.zarrs_plugin.specs.Making.{Unmade, unsupported}
use Rattle.zarrs_chunk_grid.specs.Making.{ConfiguredGrid, RefusesNames}

refused_else : (known : Bool) (made : Result ConfiguredGrid Unmade) (own name : List ℕ) →
    (made ≡ Err (unsupported name) → ⊥) →
    ((if known then made else Err (unsupported own)) ≡ Err (unsupported name)) ↔ ((name ≡ own) × (known ≡ false))
refused_else true made own name never = (λ h. absurd (never h), λ h. absurd (true≢false h.1))
refused_else false made own name never = (λ h. (cc, refl), λ h. ap (λ n. Err (unsupported n)) (sym h.0))

-- where the name is tested first, and what is made of a known one is not refused for a name
pub refuses_names : (is_known : List ℕ → Bool) (made : Extension → List ℕ → Result ConfiguredGrid Unmade) →
    ((e : Extension) (shape name : List ℕ) → made e shape ≡ Err (unsupported name) → ⊥) →
    RefusesNames is_known (λ e shape. if is_known e.name then made e shape else Err (unsupported e.name))
refuses_names is_known made never e shape name =
    refused_else (is_known e.name) (made e shape) e.name name (never e shape name)
