-- The element that a fill value denotes.
use Rattle.std.proofs.Common.{◌≡◌, ◌⊎◌, ℕ, zero, suc, ◌<◌, Bool, true, false, ◌==◌, if◌then◌else◌, List, [], ◌∷◌}
use Rattle.std.proofs.Common.{length, take, Option, Some, None, IsSome, option_map, slice_index, refl, subst}
use Rattle.std.specs.List.{AllByRecursion}
use Rattle.zarr_model.specs.Element.{Element, of_bytes, null, some, Kind, fixed, variable, optional, fill_element}
use Rattle.zarr_model.specs.Element.{optional_fill}
use Rattle.zarr_model.proofs.ListLaws.{bytes-take}
use Rattle.zarrs_codec_traits.specs.Prelude.{has_size, fill_answer, told_by, AreBytes}
use Rattle.zarrs_codec_slices.proofs.FilledLaws.{element_fits}
use Rattle.zarrs_codec_error.specs.declared.error.CodecError.{CodecError}
use Rattle.zarrs_codec_error.specs.declared.error.CodecError.TheVariants as codec
use Rattle.zarrs_codec_array_bytes.proofs.ToldLaws.{fill_memory}

-- the element that bytes denote has bytes in it
fixed_bytes : (same : Bool) (fill : List ℕ) (x : Element) → AllByRecursion (λ b. b < 256) fill →
    (if same then Some (of_bytes fill) else None) ≡ Some x → AreBytes x
fixed_bytes true fill x small is = let e : of_bytes fill ≡ x = cc in subst AreBytes e small
fixed_bytes false fill x small is = cc

some_bytes : (inner : Option Element) (x : Element) → ((y : Element) → inner ≡ Some y → AreBytes y) →
    option_map some inner ≡ Some x → AreBytes x
some_bytes None x below is = cc
some_bytes (Some y) x below is = let e : some y ≡ x = cc in subst AreBytes e (below y refl)

optional_bytes : (last : ℕ) (inner : Option Element) (x : Element) → ((y : Element) → inner ≡ Some y → AreBytes y) →
    optional_fill last inner ≡ Some x → AreBytes x
optional_bytes zero inner x below is = let e : null ≡ x = cc in subst AreBytes e tt
optional_bytes (suc last) inner x below is = some_bytes inner x below is

pub element_bytes : (kind : Kind) (fill : List ℕ) (x : Element) → AllByRecursion (λ b. b < 256) fill →
    fill_element kind fill ≡ Some x → AreBytes x
element_bytes (fixed n) fill x small is = fixed_bytes (length fill == n) fill x small is
element_bytes variable fill x small is = let e : of_bytes fill ≡ x = cc in subst AreBytes e small
element_bytes (optional kind) [] x small is = cc
element_bytes (optional kind) (b ∷ value) x small is =
    optional_bytes (slice_index (b ∷ value) (length value)) (fill_element kind (take (length value) (b ∷ value))) x
    (λ y inner.
    element_bytes kind (take (length value) (b ∷ value)) y (bytes-take (length value) (b ∷ value) small) inner) is

-- a fill value that denotes an element is refused for want of memory alone
pub denoted_err : (kind : Kind) (fill : List ℕ) (e : CodecError) → (e ≡ codec.OutOfMemory) ⊎
    (told_by e ≡ fill_answer (has_size kind fill)) → IsSome (fill_element kind fill) → e ≡ codec.OutOfMemory
denoted_err kind fill e answers there = go (fill_element kind fill) refl there
  where
    go : (o : Option Element) → fill_element kind fill ≡ o → IsSome o → e ≡ codec.OutOfMemory
    go (Some x) is there = fill_memory (has_size kind fill) e (element_fits kind fill x is) answers
    go None is there = cc
