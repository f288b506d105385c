-- Where decoded elements are put.
use Rattle.std.specs.Prelude.{◌≡◌, ◌⊎◌, ◌*◌, ◌==◌, ℕ, zero, suc, if◌then◌else◌, List, ◌∷◌, length}
use Rattle.std.proofs.Common.{inl, inr}
use Rattle.zarr_model.specs.Region.{count, whole, sizes}
use Rattle.zarr_model.specs.ArrayBytes.{ArrayBytes, fixed_bytes, variable_bytes, optional_bytes}
use Rattle.zarrs_array_subset.specs.ArraySubset.{region}
use Rattle.zarr_model.specs.Command as model
use Rattle.zarrs_codec_array_bytes.specs.Refusals.{BytesAnswer, fine, refused, wrong_length, then_answer}
use Rattle.zarrs_codec_slices.specs.Elements.{fixed_elements}
use Rattle.zarrs_codec_slices.specs.Overlap.{Copied}
use Rattle.zarrs_codec_array_bytes_parts.specs.declared.array_bytes_fixed_disjoint_view.ArrayBytesFixedDisjointView.{
  ArrayBytesFixedDisjointView,
}

-- array bytes have so many masks and then elements of one size, tested from the outermost level on
abbrev pub kinds_answer : ℕ → ArrayBytes → BytesAnswer
kinds_answer num_masks (variable_bytes value offsets) = refused model.expected_fixed_length_bytes
kinds_answer zero (fixed_bytes value) = fine
kinds_answer zero (optional_bytes under mask) = refused model.expected_fixed_length_bytes
kinds_answer (suc num_masks) (fixed_bytes value) = refused model.expected_optional_bytes
kinds_answer (suc num_masks) (optional_bytes under mask) = kinds_answer num_masks under

-- so many bytes are the elements of a view's box; the view has all its array's bytes
abbrev pub view_answer : ℕ → ArrayBytesFixedDisjointView → BytesAnswer
view_answer len view =
    if length view.bytes.now == view.part.array_len
    then (if len == count (region view.part.subset) * view.part.size then fine
    else wrong_length len (count (region view.part.subset) * view.part.size))
    else wrong_length (length view.bytes.now) view.part.array_len

-- the masks from the outermost one on, and then the data
abbrev pub sizes_answer : ArrayBytes → List ArrayBytesFixedDisjointView
    → ArrayBytesFixedDisjointView → BytesAnswer
sizes_answer (optional_bytes under mask) (view ∷ views) inner =
    then_answer (view_answer (length mask) view) (sizes_answer under views inner)
sizes_answer (fixed_bytes value) views inner = view_answer (length value) inner
sizes_answer _ views inner = fine

-- the kinds of all levels, and then their lengths
abbrev pub target_answer : ArrayBytes → List ArrayBytesFixedDisjointView
    → ArrayBytesFixedDisjointView → BytesAnswer
target_answer bytes views inner =
    then_answer (kinds_answer (length views) bytes) (sizes_answer bytes views inner)

-- bytes were written into a view's box, and nothing else changed
pub record IsViewWritten (bytes : List ℕ) (old new : ArrayBytesFixedDisjointView) : Type 0 where
  pub part : new.part ≡ old.part
  pub same_reference : new.bytes.ghost_name ≡ old.bytes.ghost_name
  pub long : length new.bytes.now ≡ length old.bytes.now
  pub written : Copied (whole (sizes (region old.part.array))) (region old.part.subset)
      (fixed_elements old.part.size bytes) (fixed_elements old.part.size old.bytes.now)
      (fixed_elements old.part.size new.bytes.now)

-- each mask into its view, the outermost first, and the data
abbrev pub ArePut : ArrayBytes → List ArrayBytesFixedDisjointView
    → List ArrayBytesFixedDisjointView → ArrayBytesFixedDisjointView
    → ArrayBytesFixedDisjointView → Type 0
ArePut (optional_bytes under mask) (old ∷ olds) (new ∷ news) from to =
    IsViewWritten mask old new × ArePut under olds news from to
ArePut (fixed_bytes value) olds news from to = (news ≡ olds) × IsViewWritten value from to
ArePut _ olds news from to = ⊥

-- what is left behind the references of a target's two variants
abbrev pub LeftBehind : {A B C : Type 0} → (A → Type 0) → (B → Type 0) → A ⊎ (B ⊎ C) → Type 0
LeftBehind fixed optional (inl left) = fixed left
LeftBehind fixed optional (inr (inl left)) = optional left
LeftBehind fixed optional (inr (inr none)) = ⊥
