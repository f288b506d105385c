-- Grids over a shape.
use Rattle.std.proofs.Common.{◌≡◌, ℕ, List, Result, Ok, Err, IfOk, sym, ap, ◌∙◌}
use Rattle.zarrs_plugin.specs.Making.{Unmade, unsupported, config, other, IsUnmade, Makes}
use Rattle.zarrs_plugin.specs.declared.error.PluginCreateError.{PluginCreateError}
use Rattle.zarrs_plugin.specs.declared.error.PluginCreateError.TheVariants.{Unsupported, Config, Other, OutOfMemory}
use Rattle.zarrs_plugin.specs.declared.error.PluginKind.{PluginKind}
use Rattle.zarr_basics.specs.GridForms.{ChunkGrid}
use Rattle.zarr_basics.specs.BoundaryMaking.{configured_grid, over_shape}

-- what was made over a shape is the grid over it
refused_over : (kind : PluginKind) (error : PluginCreateError) (shape : List ℕ) (expected : Result ChunkGrid Unmade) →
    IsUnmade kind error expected → IsUnmade kind error (over_shape shape expected)
refused_over kind (Unsupported error) shape (Ok form) e = absurd e
refused_over kind (Unsupported error) shape (Err (unsupported name)) e = e
refused_over kind (Unsupported error) shape (Err config) e = absurd e
refused_over kind (Unsupported error) shape (Err other) e = absurd e
refused_over kind Config shape (Ok form) e = absurd e
refused_over kind Config shape (Err (unsupported name)) e = absurd e
refused_over kind Config shape (Err config) e = tt
refused_over kind Config shape (Err other) e = absurd e
refused_over kind Other shape (Ok form) e = absurd e
refused_over kind Other shape (Err (unsupported name)) e = absurd e
refused_over kind Other shape (Err config) e = absurd e
refused_over kind Other shape (Err other) e = tt
refused_over kind OutOfMemory shape expected e = tt

pub made_over : {X : Type 0} (kind : PluginKind) (form_of : X → ChunkGrid) (shape_of : X → List ℕ)
    (result : Result X PluginCreateError) (shape : List ℕ) (expected : Result ChunkGrid Unmade) →
    Makes kind form_of result expected → IfOk result (λ x. shape_of x ≡ shape) →
    Makes kind (λ x. configured_grid (shape_of x) (form_of x)) result (over_shape shape expected)
made_over kind form_of shape_of (Ok x) shape expected made over =
    ap (over_shape shape) made ∙ ap (λ s. Ok (configured_grid s (form_of x))) (sym over)
made_over kind form_of shape_of (Err error) shape expected refused over = refused_over kind error shape expected refused
