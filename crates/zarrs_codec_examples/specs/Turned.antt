-- A list of elements that is turned round.
use Rattle.std.specs.Prelude.{◌≡◌, ℕ, zero, suc, ◌-◌, List, [], ◌∷◌, ◌++◌, length, map, replicate, reverse, Option}
use Rattle.std.specs.Prelude.{Some, option_map, unwrap_or, refl}
use Rattle.std.proofs.Common.{ap, sym, ◌∙◌}
use Rattle.std.proofs.lemmas.Grind.{reverse_onto}
use Rattle.std.proofs.lemmas.List.{length-reverse}
use Rattle.zarrs_codec_traits.specs.Prelude.{Region, whole, Element, ArrayCodec, select}

-- the level below is the level itself, its list decodes to its reverse, and of a part all of it is
-- needed
abbrev pub reversed_codec : ArrayCodec
reversed_codec = record {
  level_below = λ level. level;
  decode_list = λ level list. Some (reverse list);
  box_below = λ shape box. whole shape;
}

-- places, counted from the other end of so many
abbrev pub mirrored : ℕ → List ℕ → List ℕ
mirrored number places = map (λ place. number - 1 - place) places

-- the elements of a region of a shape's list turned round, if there is a list
abbrev pub turned_part : List ℕ → Region → Option (List Element) → Option (List Element)
turned_part shape region list = option_map (λ xs. select shape region (reverse xs)) list

-- a list that is turned round has as many elements
pub reversed_counted : (number : ℕ) (below xs : List Element) → length below ≡ number
    → Some (reverse below) ≡ Some xs → length xs ≡ number
reversed_counted number below xs long is =
    ap (λ (o : Option (List Element)). length (unwrap_or o [])) (sym is)
    ∙ (length-reverse below ∙ long)

-- one element over and over is the same turned round
same_behind : (n : ℕ) (x : Element) → replicate n x ++ x ∷ [] ≡ x ∷ replicate n x
same_behind zero x = refl
same_behind (suc n) x = ap (λ (rest : List Element). x ∷ rest) (same_behind n x)

reversed_same : (n : ℕ) (x : Element) → reverse (replicate n x) ≡ replicate n x
reversed_same zero x = refl
reversed_same (suc n) x = reverse_onto (replicate n x) x []
    ∙ (ap (λ (front : List Element). front ++ x ∷ []) (reversed_same n x) ∙ same_behind n x)

pub reversed_fills : (n : ℕ) (x : Element)
    → Some (reverse (replicate n x)) ≡ Some (replicate n x)
reversed_fills n x = ap Some (reversed_same n x)

-- the shape above is the one below
pub same_above : (shape above : List ℕ) → Some shape ≡ Some above → above ≡ shape
same_above shape above is = ap (λ (o : Option (List ℕ)). unwrap_or o []) (sym is)
