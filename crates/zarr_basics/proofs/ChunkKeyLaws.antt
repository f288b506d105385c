-- The text of a chunk's key is a store key.
use Rattle.std.proofs.Common.{◌≡◌, ℕ, suc, ◌^◌, ◌<◌, not, ◌==◌, ◌&&◌, true, List, [], ◌∷◌, ◌++◌, length, flat_map}
use Rattle.std.proofs.Common.{get_or, decimal, codes, Fits, w64, ap, arith}
use Rattle.std.specs.List.{AllByRecursion}
use Rattle.std.proofs.lemmas.Bool.{ne_eqb}
use Rattle.std.proofs.lemmas.Fmt.{decimal_nonempty}
use Rattle.zarr_model.specs.Prelude.{is_store_key}
use Rattle.zarr_model.proofs.KeyLaws.{IsDigit, AreIndices, decimal_digits}

-- the last byte of a text that begins with this byte is no slash
abbrev pub EndsWell : ℕ → List ℕ → Type 0
EndsWell first rest = get_or (first ∷ rest) (length rest) 0 ≡ 47 → ⊥

pub after_digits : (first : ℕ) (ds rest : List ℕ) → IsDigit first → AllByRecursion IsDigit ds →
    ((d : ℕ) → IsDigit d → EndsWell d rest) → EndsWell first (ds ++ rest)
after_digits first [] rest is all ends = ends first is
after_digits first (d ∷ ds) rest is all ends = after_digits d ds rest all.0 all.1 ends

pub ends_well : (separator first : ℕ) (chunk : List ℕ) → (first ≡ 47 → ⊥) → AreIndices chunk →
    EndsWell first (flat_map (λ index. separator ∷ decimal index) chunk)
ends_well separator first [] differ all = differ
ends_well separator first (index ∷ chunk) differ all =
    digits (decimal index) (decimal_digits index all.0) (decimal_nonempty index all.0)
    (λ e its. ends_well separator e chunk (λ same. absurd (omega (arith, its.0))) all.1)
  where
    digits : (ds : List ℕ) → AllByRecursion IsDigit ds → 0 < length ds →
        ((e : ℕ) → IsDigit e → EndsWell e (flat_map (λ i. separator ∷ decimal i) chunk)) →
        EndsWell first ((separator ∷ ds) ++ flat_map (λ i. separator ∷ decimal i) chunk)
    digits [] is some ends = absurd (omega arith)
    digits (d ∷ ds) is some ends = after_digits d ds (flat_map (λ i. separator ∷ decimal i) chunk) is.0 is.1 ends

pub chunk_key_text : (separator : ℕ) (chunk : List ℕ) → AreIndices chunk →
    is_store_key (codes "c" ++ flat_map (λ index. separator ∷ decimal index) chunk) ≡ true
chunk_key_text separator chunk all =
    ne_so (get_or (99 ∷ flat_map (λ index. separator ∷ decimal index) chunk) (length (flat_map (λ index.
    separator ∷ decimal index) chunk)) 0) (ends_well separator 99 chunk (λ e. absurd (omega arith)) all)
  where
    ne_so : (b : ℕ) → (b ≡ 47 → ⊥) → (not (99 == 47) && not (b == 47)) ≡ true
    ne_so b differ = ap not (ne_eqb b 47 differ)

-- the numbers of a slice are indices
pub are_indices : (chunk : List ℕ) → ((i : ℕ) → Fits w64 (get_or chunk i 0)) → AreIndices chunk
are_indices [] all = tt
are_indices (index ∷ chunk) all = (
  let first : index < 2 ^ 64 = (let h : Fits w64 index = all 0 in omega arith) in
      first,
  are_indices chunk (λ i. all (suc i)),
)
