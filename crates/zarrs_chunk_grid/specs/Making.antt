-- What comes of making a chunk grid from its metadata.
use Rattle.std.specs.Prelude.{◌≡◌, ℕ, Bool, true, false, if◌then◌else◌, List, Option, Some, None, Result, Err, ◌↔◌}
use Rattle.serde_json.specs.Data.{Members}
use Rattle.zarr_model.specs.Grid.{Grid}
use Rattle.zarrs_metadata_parts.specs.Configuration.{is_empty}
use Rattle.zarrs_metadata_parts.specs.MetadataV3.{Extension}
use Rattle.zarrs_plugin.specs.Making.{Unmade, unsupported, Makes}
use Rattle.zarrs_plugin.specs.declared.error.PluginCreateError.{PluginCreateError}
use Rattle.zarrs_plugin.specs.declared.error.PluginKind.TheVariants as kinds

-- a grid, with the members of its configuration, all defaults set
pub record ConfiguredGrid : Type 0 where
  pub members : Members
  pub grid : Grid

-- a grid was made as is expected, or refused so
abbrev pub MakesGrid : {X Y : Type 0} → (X → Y) → Result X PluginCreateError → Result Y Unmade
    → Type 0
MakesGrid seen result expected = Makes kinds.ChunkGrid seen result expected

-- metadata is refused for a name exactly where this is its name, and is not known
abbrev pub RefusesNames : (List ℕ → Bool)
    → (Extension → List ℕ → Result ConfiguredGrid Unmade) → Type 0
RefusesNames is_known created = (e : Extension) (shape name : List ℕ) →
    (created e shape ≡ Err (unsupported name)) ↔ ((name ≡ e.name) × (is_known e.name ≡ false))

-- a kind that goes by the name gave this, by what its maker may give; no kind is refused
abbrev pub MakesGridByKind : {K G : Type 0} → (K → Result G PluginCreateError → Type 0) → List ℕ
    → Option K → Result G PluginCreateError → Type 0
MakesGridByKind gives name (Some kind) result = gives kind result
MakesGridByKind {G = G} gives name None result =
    MakesGrid (λ (grid : G). grid) result (Err (unsupported name))

-- the metadata of a name and members, where an empty configuration is left out
abbrev pub named_extension : List ℕ → Members → Extension
named_extension name ms = record {
  name = name;
  configuration = if is_empty ms then None else Some ms;
  must_understand = true;
}
