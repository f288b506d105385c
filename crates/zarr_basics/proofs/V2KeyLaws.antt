-- The text of a chunk's key `v2`, which is a store key.
use Rattle.std.proofs.Common.{◌≡◌, ℕ, suc, ◌-◌, ◌<◌, ◌≤◌, not, ◌==◌, ◌&&◌, true, List, [], ◌∷◌, ◌++◌, length, flat_map}
use Rattle.std.proofs.Common.{take, drop, get_or, decimal, refl, sym, ap, ap₂, ◌∙◌, arith}
use Rattle.std.specs.List.{AllByRecursion}
use Rattle.std.proofs.lemmas.Bool.{ne_eqb}
use Rattle.std.proofs.lemmas.Fmt.{decimal_nonempty}
use Rattle.std.proofs.lemmas.List.{append-nil}
use Rattle.zarr_model.specs.Key.{is_store_key, v2_key}
use Rattle.zarr_model.proofs.KeyLaws.{IsDigit, AreIndices, decimal_digits}
use Rattle.zarr_basics.proofs.ChunkKeyLaws.{EndsWell, after_digits, ends_well}

pub joined_is : (separator first : ℕ) (rest : List ℕ) →
    v2_key separator (first ∷ rest) ≡ decimal first ++ flat_map (λ index. separator ∷ decimal index) rest
joined_is separator first [] = sym (append-nil (decimal first))
joined_is separator first (index ∷ rest) = ap (λ l. decimal first ++ (separator ∷ l)) (joined_is separator index rest)

-- the same of a slice by its first index and the others
pub v2_key_is : (separator d : ℕ) (chunk : List ℕ) → 1 ≤ length chunk → v2_key separator chunk ≡
    decimal (get_or chunk 0 d) ++ flat_map (λ index. separator ∷ decimal index) (take (length chunk - 1) (drop 1 chunk))
v2_key_is separator d [] h = absurd (omega arith)
v2_key_is separator d (first ∷ rest) h =
    joined_is separator first rest ∙ ap (λ l. decimal first ++ flat_map (λ index. separator ∷ decimal index) l)
    (sym (ap (λ n. take n rest) (let e : suc (length rest) - 1 ≡ length rest = omega arith in e) ∙ whole rest))
  where
    whole : (l : List ℕ) → take (length l) l ≡ l
    whole [] = refl
    whole (x ∷ l) = ap (λ r. x ∷ r) (whole l)

ne_so : (a b : ℕ) → (a ≡ 47 → ⊥) → (b ≡ 47 → ⊥) → (not (a == 47) && not (b == 47)) ≡ true
ne_so a b first last = ap₂ (λ x y. not x && not y) (ne_eqb a 47 first) (ne_eqb b 47 last)

begins_and_ends : (ds rest : List ℕ) → AllByRecursion IsDigit ds → 0 < length ds →
    ((d : ℕ) → IsDigit d → EndsWell d rest) → is_store_key (ds ++ rest) ≡ true
begins_and_ends [] rest is some ends = absurd (omega arith)
begins_and_ends (d ∷ ds) rest is some ends =
    ne_so d (get_or (d ∷ (ds ++ rest)) (length (ds ++ rest)) 0) (λ e. absurd (omega (arith, is.0.0)))
    (after_digits d ds rest is.0 is.1 ends)

pub v2_key_text : (separator : ℕ) (chunk : List ℕ) → AreIndices chunk → is_store_key (v2_key separator chunk) ≡ true
v2_key_text separator [] all = refl
v2_key_text separator (first ∷ rest) all = ap is_store_key (joined_is separator first rest)
    ∙ begins_and_ends (decimal first) (flat_map (λ index. separator ∷ decimal index) rest) (decimal_digits first all.0)
    (decimal_nonempty first all.0)
    (λ d its. ends_well separator d rest (λ same. absurd (omega (arith, its.0))) all.1)
