-- Values that decode to the numbers from 1 on, in row-major order, once the dimensions are put back.
use Rattle.std.proofs.Common.{◌≡◌, ℕ, List, [], ◌∷◌, map, Some, refl}
use Rattle.zarrs_codec_traits.specs.Prelude.{Element, of_bytes, uint_type, kind_of}
use Rattle.zarr_model.specs.Codec.{Level, little, decode_levels, decode_fixed, transpose_codec}
use Rattle.zarr_codecs_elements.specs.Order.{is_order, inverse}
use Rattle.zarr_codecs_elements.specs.Moved.{moved_places, moved_steps, strided}
use Rattle.std.proofs.Common.{true, false}

abbrev level : List ℕ → Level
level shape = record { shape = shape; data_type = uint_type 1; fill = of_bytes (0 ∷ []) }

abbrev single : List ℕ → List Element
single values = map (λ b. of_bytes (b ∷ [])) values

two_by_three : decode_levels (transpose_codec (1 ∷ 0 ∷ []) ∷ []) (λ below value.
    decode_fixed little below (kind_of below.data_type) value) (level (2 ∷ 3 ∷ [])) (1 ∷ 4 ∷ 2 ∷ 5 ∷ 3 ∷ 6 ∷ [])
    ≡ Some (single (1 ∷ 2 ∷ 3 ∷ 4 ∷ 5 ∷ 6 ∷ []))
two_by_three = refl

cube : decode_levels (transpose_codec (2 ∷ 0 ∷ 1 ∷ []) ∷ []) (λ below value. decode_fixed little below
    (kind_of below.data_type) value) (level (2 ∷ 2 ∷ 2 ∷ [])) (1 ∷ 3 ∷ 5 ∷ 7 ∷ 2 ∷ 4 ∷ 6 ∷ 8 ∷ [])
    ≡ Some (single (1 ∷ 2 ∷ 3 ∷ 4 ∷ 5 ∷ 6 ∷ 7 ∷ 8 ∷ []))
cube = refl

places_are : moved_places (2 ∷ 0 ∷ 1 ∷ []) (2 ∷ 2 ∷ 2 ∷ []) ≡ 0 ∷ 4 ∷ 1 ∷ 5 ∷ 2 ∷ 6 ∷ 3 ∷ 7 ∷ []
places_are = refl

by_steps : strided (2 ∷ 2 ∷ 2 ∷ []) (moved_steps (2 ∷ 0 ∷ 1 ∷ []) (2 ∷ 2 ∷ 2 ∷ [])) 0 ≡
    0 ∷ 4 ∷ 1 ∷ 5 ∷ 2 ∷ 6 ∷ 3 ∷ 7 ∷ []
by_steps = refl

back_again : inverse (2 ∷ 0 ∷ 1 ∷ []) ≡ 1 ∷ 2 ∷ 0 ∷ []
back_again = refl

an_order : is_order (2 ∷ 0 ∷ 1 ∷ []) ≡ true
an_order = refl

twice : is_order (0 ∷ 0 ∷ []) ≡ false
twice = refl

past : is_order (0 ∷ 2 ∷ []) ≡ false
past = refl
