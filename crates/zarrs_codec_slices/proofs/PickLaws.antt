-- Places that are picked.
use Rattle.std.proofs.Common.{◌≡◌, ℕ, zero, suc, ◌+◌, ◌-◌, ◌<◌, List, [], ◌∷◌, ◌++◌, length, drop, get_or, set, ap}
use Rattle.std.proofs.Common.{refl, arith, ◌∙◌}
use Rattle.std.proofs.lemmas.List.{drop_more, append_assoc}
use Rattle.zarrs_codec_slices.specs.Picking.{replaced}
use Rattle.std.specs.List.{range_with_len}

pub length_of_places : (from n : ℕ) → length (range_with_len from n) ≡ n
length_of_places from zero = refl
length_of_places from (suc n) = ap suc (length_of_places (from + 1) n)

-- one more is put
pub put_step : (indices picks : List ℕ) (i next : ℕ) → i < length indices →
    replaced (drop i indices) (range_with_len next (length indices - i)) picks
    ≡ replaced (drop (i + 1) indices)
    (range_with_len (next + 1) (length indices - (i + 1))) (set picks (get_or indices i 0) next)
put_step indices picks i next h =
    ap (λ rest. replaced rest (range_with_len next (length indices - i)) picks) (drop_more indices i 0 h)
    ∙ ap (λ n. replaced (get_or indices i 0 ∷ drop (i + 1) indices) (range_with_len next n) picks)
    (let e : length indices - i ≡ suc (length indices - (i + 1)) = omega (arith, h) in e)

pub place_step : (places all : List ℕ) (place number : ℕ) → place < number →
    places ++ range_with_len place (number - place) ≡ all →
    (places ++ place ∷ []) ++ range_with_len (place + 1) (number - (place + 1)) ≡ all
place_step places all place number h e =
    append_assoc places (place ∷ []) (range_with_len (place + 1) (number - (place + 1)))
    ∙ (ap (λ n. places ++ range_with_len place n)
    (let f : suc (number - (place + 1)) ≡ number - place = omega (arith, h) in f) ∙ e)
