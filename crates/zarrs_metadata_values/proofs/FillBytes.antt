-- Fill values that list bytes.
use Rattle.std.proofs.Common.{◌≡◌, ℕ, ◌+◌, ◌<◌, List, [], ◌∷◌, ◌++◌, length, take, get_or, Some, None, sym, add-one}
use Rattle.zarrs_metadata_values.specs.Reading.{each}
use Rattle.zarrs_metadata_values.specs.FillValueMetadata.{fill_view, fills_view, byte}
use Rattle.zarrs_metadata_values.specs.declared.fill_value.FillValueMetadataV3.{FillValueMetadataV3}
use Rattle.zarrs_metadata_values.proofs.EachLemmas.{each_none, each_more}

-- one more byte
pub byte_push : (fs : List FillValueMetadataV3) (i : ℕ) (f : FillValueMetadataV3) (ys : List ℕ) (y : ℕ) →
    i < length fs → f ≡ get_or fs i f
    → each byte (fills_view (take i fs)) ≡ Some ys → Some y ≡ byte (fill_view f) →
    each byte (fills_view (take (i + 1) fs)) ≡ Some (ys ++ y ∷ [])
byte_push fs i f ys y lt is front here = rw add-one (each_more fill_view byte fs i f ys y lt is front (sym here))

-- an item that is no byte
pub byte_fails : (fs : List FillValueMetadataV3) (i : ℕ) (f : FillValueMetadataV3) → i < length fs → f ≡ get_or fs i f →
    None ≡ byte (fill_view f) → None ≡ each byte (fills_view fs)
byte_fails fs i f lt is here = sym (each_none fill_view byte fs i f lt is (sym here))
