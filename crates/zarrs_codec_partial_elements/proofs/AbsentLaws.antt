-- The list of the fill below, through an array-to-array codec.
use Rattle.std.proofs.Common.{◌≡◌, ℕ, suc, ◌<◌, nat_lt, true, List, [], ◌∷◌, replicate, Option, Some, option_map}
use Rattle.std.proofs.Common.{option_and_then, refl, ap, ap₂, ◌∙◌, arith}
use Rattle.std.specs.List.{AllByRecursion, list_all}
use Rattle.std.proofs.lemmas.Bool.{and_parts, ltb-true}
use Rattle.zarrs_codec_traits.specs.Prelude.{count_of, Element, Kind, fixed, variable, optional, fill_element, kind_of}
use Rattle.zarrs_codec_traits.specs.Prelude.{Level, ArrayCodec}
use Rattle.zarrs_codec_partial_elements.specs.Kinds.{kind_code}

-- a kind is known by its numbers
pub kind_back : (a b : Kind) → kind_code a ≡ kind_code b → a ≡ b
kind_back (fixed n) (fixed m) e = let same : n ≡ m = cc in ap fixed same
kind_back (fixed n) variable e = cc
kind_back (fixed n) (optional b) e = let zero_suc : suc n ≡ 0 = cc in
    absurd (let no : ⊥ = omega (arith, zero_suc) in no)
kind_back variable (fixed m) e = cc
kind_back variable variable e = refl
kind_back variable (optional b) e = cc
kind_back (optional a) (fixed m) e = let zero_suc : 0 ≡ suc m = cc in
    absurd (let no : ⊥ = omega (arith, zero_suc) in no)
kind_back (optional a) variable e = cc
kind_back (optional a) (optional b) e = let same : kind_code a ≡ kind_code b = cc in ap optional (kind_back a b same)

-- numbers that are bytes by a test are so
pub tested_bytes : (xs : List ℕ) → list_all (λ b. nat_lt b 256) xs ≡ true → AllByRecursion (λ b. b < 256) xs
tested_bytes [] is = tt
tested_bytes (x ∷ xs) is =
    let parts = and_parts (nat_lt x 256) (list_all (λ b. nat_lt b 256) xs) is in
    (ltb-true x 256 parts.0, tested_bytes xs parts.1)

-- the fill's list below decodes to that of the fill
pub fills_raised : (codec : ArrayCodec) (level : Level) (fill shape : List ℕ) (kind : Kind) →
    shape ≡ (codec.level_below level).shape → kind_code kind ≡ kind_code (kind_of (codec.level_below level).data_type)
    → fill_element (kind_of (codec.level_below level).data_type) fill ≡ Some (codec.level_below level).fill
    → codec.decode_list level (replicate (count_of (codec.level_below level).shape) (codec.level_below level).fill) ≡
    Some (replicate (count_of level.shape) level.fill)
    → option_and_then (codec.decode_list level) (option_map (replicate (count_of shape)) (fill_element kind fill)) ≡
    Some (replicate (count_of level.shape) level.fill)
fills_raised codec level fill shape kind shapes kinds denotes decodes =
    let below : option_map (replicate (count_of shape)) (fill_element kind fill) ≡
    Some (replicate (count_of (codec.level_below level).shape) (codec.level_below level).fill) =
    ap₂ (λ (s : List ℕ) (element : Option Element). option_map (replicate (count_of s)) element) shapes
    (ap (λ (k : Kind). fill_element k fill) (kind_back kind (kind_of (codec.level_below level).data_type) kinds)
    ∙ denotes) in
    ap (λ (l : Option (List Element)). option_and_then (codec.decode_list level) l) below ∙ decodes
