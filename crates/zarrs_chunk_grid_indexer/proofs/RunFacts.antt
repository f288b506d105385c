-- The numbers of a run, one after another.
use Rattle.std.proofs.Common.{◌≡◌, ℕ, suc, ◌+◌, ◌-◌, ◌<◌, List, [], ◌∷◌, ◌++◌, ap, arith, ◌∙◌}
use Rattle.std.proofs.lemmas.List.{append_assoc}
use Rattle.std.specs.List.{range_with_len}

-- one more number of a run
pub run_step : (items all : List ℕ) (index end : ℕ) → index < end → items ++ range_with_len index (end - index) ≡ all →
    (items ++ index ∷ []) ++ range_with_len (index + 1) (end - (index + 1)) ≡ all
run_step items all index end h e =
    append_assoc items (index ∷ []) (range_with_len (index + 1) (end - (index + 1)))
    ∙ (ap (λ n. items ++ range_with_len index n) (let f : suc (end - (index + 1)) ≡ end - index = omega (arith, h) in f)
    ∙ e)
