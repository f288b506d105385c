-- Codecs paired with the levels above them.
use Rattle.std.proofs.Common.{◌≡◌, true, subst, ℕ, zero, suc, ◌+◌, ◌-◌, ◌<◌, ◌≤◌, List, [], ◌∷◌, ◌++◌, map, length}
use Rattle.std.proofs.Common.{get_or, take, drop, refl, sym, ap, ap₂, arith}
use Rattle.zarrs_codec_traits.specs.Prelude.{Level, Region, ends_within}
use Rattle.zarr_codec_chain.proofs.ListSteps.{at-back, at-front, at-next}
use Rattle.zarr_codec_chain.specs.declared.representation.ChunkRepresentation.{ChunkRepresentation}
use Rattle.zarr_codec_chain.specs.Levels.{step, steps_of, first_of, top}

module _ {A : Type 0} where
  -- as many pairs as codecs
  pub as_many : (codecs : List A) (levels : List ChunkRepresentation) → length codecs ≡ length levels →
      length (steps_of codecs levels) ≡ length codecs
  as_many [] levels same = refl
  as_many (codec ∷ codecs) [] same = absurd (omega (arith, same))
  as_many (codec ∷ codecs) (at ∷ levels) same = ap suc (as_many codecs levels (omega (arith, same)))

  -- the pair at a place
  pub step_is : (codecs : List A) (levels : List ChunkRepresentation) (n : ℕ) (codec : A) (at : ChunkRepresentation) →
      n < length codecs → length codecs ≡ length levels →
      codec ≡ get_or codecs n codec → at ≡ get_or levels n at →
      step codec at ≡ get_or (steps_of codecs levels) n (step codec at)
  step_is [] levels n codec at within same here there = absurd (omega arith)
  step_is (c ∷ codecs) [] n codec at within same here there = absurd (omega (arith, same))
  step_is (c ∷ codecs) (l ∷ levels) zero codec at within same here there = ap₂ (λ x y. step x y) here there
  step_is (c ∷ codecs) (l ∷ levels) (suc n) codec at within same here there =
      step_is codecs levels n codec at (omega arith) (omega (arith, same)) here there

  -- the first level
  pub top_is : (codecs : List A) (levels : List ChunkRepresentation) (bottom : Level) → length codecs ≡ length levels →
      top (steps_of codecs levels) bottom ≡ first_of levels bottom
  top_is [] [] bottom same = refl
  top_is [] (at ∷ levels) bottom same = absurd (omega (arith, same))
  top_is (codec ∷ codecs) [] bottom same = absurd (omega (arith, same))
  top_is (codec ∷ codecs) (at ∷ levels) bottom same = refl

  -- the codecs again
  pub codecs_are : {X : Type 0} (f : A → X) (codecs : List A) (levels : List ChunkRepresentation) →
      length codecs ≡ length levels → map (λ s. f s.codec) (steps_of codecs levels) ≡ map f codecs
  codecs_are f [] levels same = refl
  codecs_are f (codec ∷ codecs) [] same = absurd (omega (arith, same))
  codecs_are f (codec ∷ codecs) (at ∷ levels) same =
      ap (λ l. f codec ∷ l) (codecs_are f codecs levels (omega (arith, same)))

  -- one pair more at the end
  pub steps_more : (codecs : List A) (levels : List ChunkRepresentation) (codec : A) (at : ChunkRepresentation) →
      length codecs ≡ length levels →
      steps_of (codecs ++ (codec ∷ [])) (levels ++ (at ∷ [])) ≡ steps_of codecs levels ++ (step codec at ∷ [])
  steps_more [] [] codec at same = refl
  steps_more [] (l ∷ levels) codec at same = absurd (omega (arith, same))
  steps_more (c ∷ codecs) [] codec at same = absurd (omega (arith, same))
  steps_more (c ∷ codecs) (l ∷ levels) codec at same =
      ap (λ s. step c l ∷ s) (steps_more codecs levels codec at (omega (arith, same)))

  -- no codec, no pair
  pub no_steps : (codecs : List A) (levels : List ChunkRepresentation) → codecs ≡ [] → steps_of codecs levels ≡ []
  no_steps [] levels none = refl
  no_steps (codec ∷ codecs) levels none = cc

  pub no_codecs : (codecs : List A) (levels : List ChunkRepresentation) → length codecs ≡ length levels →
      steps_of codecs levels ≡ [] → codecs ≡ []
  no_codecs [] levels same none = refl
  no_codecs (codec ∷ codecs) [] same none = absurd (omega (arith, same))
  no_codecs (codec ∷ codecs) (at ∷ levels) same none = cc

module _ {A : Type 0} (codecs : List A) (levels : List ChunkRepresentation)
    (n : ℕ) (codec : A) (at : ChunkRepresentation) (same : length codecs ≡ length levels) where
  -- a walk from the back
  pub back : 0 < n → n ≤ length codecs → codec ≡ get_or codecs (n - 1) codec → at ≡ get_or levels (n - 1) at →
      drop (n - 1) (steps_of codecs levels) ≡ step codec at ∷ drop n (steps_of codecs levels)
  back some within here there =
      at-back (steps_of codecs levels) n (step codec at) some (omega (arith, within, as_many codecs levels same))
      (step_is codecs levels (n - 1) codec at (omega (arith, some, within)) same here there)

  -- and one from the front
  pub front : n < length codecs → codec ≡ get_or codecs n codec → at ≡ get_or levels n at →
      drop n (steps_of codecs levels) ≡ step codec at ∷ drop (n + 1) (steps_of codecs levels)
  front within here there = at-front (steps_of codecs levels) n (step codec at)
      (omega (arith, within, as_many codecs levels same)) (step_is codecs levels n codec at within same here there)

  pub next : n < length codecs → codec ≡ get_or codecs n codec → at ≡ get_or levels n at →
      take (n + 1) (steps_of codecs levels) ≡ take n (steps_of codecs levels) ++ (step codec at ∷ [])
  next within here there = at-next (steps_of codecs levels) n (step codec at)
      (omega (arith, within, as_many codecs levels same)) (step_is codecs levels n codec at within same here there)

-- one more of each
pub long_more : {A B : Type 0} (xs : List A) (ys : List B) (x : A) (y : B) → length xs ≡ length ys →
    length (xs ++ (x ∷ [])) ≡ length (ys ++ (y ∷ []))
long_more [] [] x y same = refl
long_more [] (b ∷ ys) x y same = absurd (omega (arith, same))
long_more (a ∷ xs) [] x y same = absurd (omega (arith, same))
long_more (a ∷ xs) (b ∷ ys) x y same = ap suc (long_more xs ys x y (omega (arith, same)))

-- a region inside the first level
pub inside_top : {A : Type 0} (codecs : List A) (levels : List ChunkRepresentation) (bottom : Level) (region : Region) →
    length codecs ≡ length levels →
    ends_within region (first_of levels bottom).shape ≡ true →
    ends_within region (top (steps_of codecs levels) bottom).shape ≡ true
inside_top codecs levels bottom region same inside =
    subst (λ (level : Level). ends_within region level.shape ≡ true) (sym (top_is codecs levels bottom same)) inside
