-- What an iterator gives to its end, from what it has left.
use Rattle.std.proofs.Common.{◌≡◌, ℕ, List, [], ◌∷◌, map, Bool}
use Rattle.std.proofs.Common.{true, false, cond, nat_eq, refl, ap, sym, subst, ◌∙◌}
use Rattle.std.specs.Iterator.{YieldsFirstBy, AlwaysYields}
use Rattle.zarr_model.specs.Region.{Region, count, tuples, linear_index}
use Rattle.zarrs_chunk_grid_iterators.specs.Places.{YieldsOne}
use Rattle.zarrs_chunk_grid_iterators.specs.Yields.{AlwaysGives}
use Rattle.zarrs_chunk_grid_iterators.specs.Runs.{runs, tuple_runs, run_box, run_length, run_span_at}

pub always_yields : {S A B : Type 0} (view : A → B) (rest : S → List B) (xs : List B) (s : S) → rest s ≡ xs →
    AlwaysYields (YieldsFirstBy view rest) view s xs
always_yields view rest [] s e = λ x j h. cc (sym h ∙ e)
always_yields view rest (y ∷ ys) s e = (
  λ j h. cc (sym h.0 ∙ e),
  λ x j h. let both : view x ∷ rest j ≡ y ∷ ys = sym h ∙ e in
      let head : view x ≡ y = cc in let tail : rest j ≡ ys = cc in (head, always_yields view rest ys j tail),
)

pub always_gives : {S A B : Type 0} (R : B → A → Type 0) (left : S → List B) (first : S → B) (xs : List B) (s : S) →
    left s ≡ xs → AlwaysGives (YieldsOne R left first) R s xs
always_gives R left first [] s e = λ x j h. cc (sym h.0 ∙ e)
always_gives R left first (y ∷ ys) s e = (
  λ j h. cc (sym h.0 ∙ e),
  λ x j h. let both : first s ∷ left j ≡ y ∷ ys = sym h.0 ∙ e in
      let head : first s ≡ y = cc in let tail : left j ≡ ys = cc in
      (subst (λ b. R b x) head h.1, always_gives R left first ys j tail),
)

-- the tuples of runs are those at which the runs begin
pub tuple_runs_are : (shape : List ℕ) (region : Region) →
    map (run_span_at shape) (tuple_runs shape region) ≡ runs shape region
tuple_runs_are shape region = go (nat_eq (count region) 0)
  where
    go : (b : Bool) → map (run_span_at shape)
        (cond b [] (map (λ tuple. (tuple, run_length shape region)) (tuples (run_box shape region))))
        ≡ cond b [] (map (λ index. record { start = index; size = run_length shape region })
        (map (linear_index shape) (tuples (run_box shape region))))
    go true = refl
    go false = each (tuples (run_box shape region))
      where
        each : (xs : List (List ℕ)) → map (run_span_at shape) (map (λ tuple. (tuple, run_length shape region)) xs) ≡
            map (λ index. record { start = index; size = run_length shape region }) (map (linear_index shape) xs)
        each [] = refl
        each (x ∷ xs) =
            ap (λ rest. record { start = linear_index shape x; size = run_length shape region } ∷ rest) (each xs)
