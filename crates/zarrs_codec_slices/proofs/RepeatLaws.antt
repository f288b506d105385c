-- Elements with the same bytes.
use Rattle.std.proofs.Common.{◌≡◌, ℕ, zero, suc, ◌+◌, ◌-◌, ◌<◌, ◌≤◌, true, List, [], ◌∷◌, ◌++◌, length, map, replicate}
use Rattle.std.proofs.Common.{arith, ap, sym, refl, ◌∙◌, subst, subst₂}
use Rattle.std.specs.List.{flat_map}
use Rattle.std.proofs.lemmas.List.{append_assoc, append-nil, length-append}
use Rattle.zarr_model.specs.ArrayBytes.{ends_from}
use Rattle.zarrs_data_type_bytes.specs.Pieces.{repeated}
use Rattle.zarrs_codec_slices.specs.Picking.{are_within, value_of}
use Rattle.zarrs_codec_slices.proofs.ValueLaws.{gathered_within}

joined-replicate : (k : ℕ) (value : List ℕ) → flat_map (λ v. v) (replicate k value) ≡ repeated k value
joined-replicate zero value = refl
joined-replicate (suc k) value = ap (λ rest. value ++ rest) (joined-replicate k value)

map_same : (xs : List (List ℕ)) → map (λ v. v) xs ≡ xs
map_same [] = refl
map_same (x ∷ xs) = ap (λ rest. x ∷ rest) (map_same xs)

-- a value more is appended to both
pub more_bytes : (k n : ℕ) (value bytes all : List ℕ) → k < n → bytes ++ repeated (n - k) value ≡ all →
    (bytes ++ value) ++ repeated (n - (k + 1)) value ≡ all
more_bytes k n value bytes all h e =
    append_assoc bytes value (repeated (n - (k + 1)) value)
    ∙ (ap (λ m. bytes ++ repeated m value) (let left : suc (n - (k + 1)) ≡ n - k = omega (arith, h) in left) ∙ e)

pub more_offsets : (k n : ℕ) (value bytes offsets all : List ℕ) → k < n →
    offsets ++ ends_from (length bytes) (replicate (n - k) value) ≡ all →
    (offsets ++ length (bytes ++ value) ∷ []) ++ ends_from (length (bytes ++ value)) (replicate (n - (k + 1)) value) ≡
    all
more_offsets k n value bytes offsets all h e =
    append_assoc offsets
    (length (bytes ++ value) ∷ []) (ends_from (length (bytes ++ value)) (replicate (n - (k + 1)) value))
    ∙ (ap (λ m. offsets ++ (m ∷ ends_from m (replicate (n - (k + 1)) value))) (length-append bytes value)
    ∙ (ap (λ m. offsets ++ ends_from (length bytes) (replicate m value))
    (let left : suc (n - (k + 1)) ≡ n - k = omega (arith, h) in left) ∙ e))

pub repeated_within : (n : ℕ) (value : List ℕ) →
    are_within (repeated n value) (0 ∷ ends_from 0 (replicate n value)) ≡ true
repeated_within n value =
    subst (λ bytes. are_within bytes (0 ∷ ends_from 0 (replicate n value)) ≡ true) (joined-replicate n value)
    (subst (λ values. are_within (flat_map (λ v. v) (replicate n value)) (0 ∷ ends_from 0 values) ≡
    true) (map_same (replicate n value)) (gathered_within (λ v. v) (replicate n value)))

-- what is within where none is left
pub within_at_end : (k n : ℕ) (value bytes offsets : List ℕ) → n ≤ k →
    bytes ++ repeated (n - k) value ≡ repeated n value →
    offsets ++ ends_from (length bytes) (replicate (n - k) value) ≡ 0 ∷ ends_from 0 (replicate n value) →
    are_within bytes offsets ≡ true
within_at_end k n value bytes offsets h e f =
    let none : n - k ≡ 0 = omega (arith, h) in
    subst₂ (λ a b. are_within a b ≡ true)
    (sym (sym (append-nil bytes) ∙ (ap (λ m. bytes ++ repeated m value) (sym none) ∙ e)))
    (sym (sym (append-nil offsets)
    ∙ (ap (λ m. offsets ++ ends_from (length bytes) (replicate m value)) (sym none) ∙ f)))
    (repeated_within n value)

-- the values at the places below a limit
pub record AreBelow (limit : ℕ) (fill value offsets : List ℕ) : Type 0 where
  pub each : (k : ℕ) → k < limit → value_of value offsets k ≡ fill
