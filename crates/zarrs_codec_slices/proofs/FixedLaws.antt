-- Elements of n bytes: what bytes mean, what is stored of them, and the fill.
use Rattle.std.proofs.Common.{◌≡◌, ℕ, zero, suc, ◌*◌, ◌/◌, ◌<◌, ◌==◌, Bool, true, false, List, ◌∷◌, ◌++◌}
use Rattle.std.proofs.Common.{length, map, take, drop, replicate, Some, None, refl, sym, ap, ap₂}
use Rattle.std.proofs.Common.{◌∙◌, subst, eq-eqb, eqb-true, IsSome, if◌then◌else◌}
use Rattle.std.proofs.lemmas.Bool.{cond-true}
use Rattle.std.proofs.lemmas.List.{length-map}
use Rattle.std.proofs.Math.Seq.{take-append_seam, drop-append_seam}
use Rattle.std.proofs.Math.Nat.{mul-div_cancel}
use Rattle.zarr_model.specs.Prelude.{of_bytes, fixed, fixed_bytes, pieces, meaning}
use Rattle.zarr_model.proofs.BytesLaws.{length-pieces}
use Rattle.zarrs_data_type_bytes.specs.Pieces.{repeated}
use Rattle.zarrs_data_type_bytes.proofs.PieceLaws.{length-repeated}
use Rattle.zarrs_codec_slices.specs.Elements.{fixed_elements}

module _ (n : ℕ) (some : 0 < n) where
  many : (k : ℕ) (value : List ℕ) → length value ≡ k * n → length value / n ≡ k
  many k value e = ap (λ m. m / n) e ∙ mul-div_cancel k some

  pub elements_are : (k : ℕ) (value : List ℕ) → length value ≡ k * n →
      fixed_elements n value ≡ map of_bytes (pieces k n value)
  elements_are k value e = ap (λ m. map of_bytes (pieces m n value)) (many k value e)

  pub meaning_is : (k : ℕ) (value : List ℕ) → length value ≡ k * n →
      meaning (fixed n) k (fixed_bytes value) ≡ Some (fixed_elements n value)
  meaning_is k value e = cond-true (length value == k * n) (Some (map of_bytes (pieces k n value))) None
      (eq-eqb (length value) (k * n) e) ∙ ap Some (sym (elements_are k value e))

  -- and no other bytes mean as many
  pub meaning_long : (k : ℕ) (value : List ℕ) → IsSome (meaning (fixed n) k (fixed_bytes value)) → length value ≡ k * n
  meaning_long k value h = go (length value == k * n) refl h
    where
      go : (b : Bool) → (length value == k * n) ≡ b →
          IsSome (if b then Some (map of_bytes (pieces k n value)) else None) → length value ≡ k * n
      go true is h = eqb-true (length value) (k * n) is
      go false is h = cc

  -- the fill
  repeated_pieces : (k : ℕ) (fill : List ℕ) → length fill ≡ n →
      map of_bytes (pieces k n (repeated k fill)) ≡ replicate k (of_bytes fill)
  repeated_pieces zero fill e = refl
  repeated_pieces (suc k) fill e =
      ap₂ (λ a b. of_bytes a ∷ map of_bytes (pieces k n b))
      (subst (λ m. take m (fill ++ repeated k fill) ≡ fill) e (take-append_seam fill (repeated k fill)))
      (subst (λ m. drop m (fill ++ repeated k fill) ≡ repeated k fill) e (drop-append_seam fill (repeated k fill)))
      ∙ ap (λ l. of_bytes fill ∷ l) (repeated_pieces k fill e)

  repeated_long : (k : ℕ) (fill : List ℕ) → length fill ≡ n → length (repeated k fill) ≡ k * n
  repeated_long k fill e = length-repeated k fill ∙ ap (λ m. k * m) e

  pub fills : (k : ℕ) (fill : List ℕ) → length fill ≡ n →
      fixed_elements n (repeated k fill) ≡ replicate k (of_bytes fill)
  fills k fill e = elements_are k (repeated k fill) (repeated_long k fill e) ∙ repeated_pieces k fill e

  -- there are as many elements as pieces
  pub length-elements : (k : ℕ) (value : List ℕ) → length value ≡ k * n → length (fixed_elements n value) ≡ k
  length-elements k value long =
      ap length (elements_are k value long) ∙ (length-map (pieces k n value) of_bytes ∙ length-pieces k n value)
