-- What loops over runs keep, and runs of a mask.
use Rattle.std.proofs.Common.{◌≡◌, ℕ, suc, ◌+◌, ◌-◌, ◌<◌, ◌≤◌, List, [], ◌∷◌, ◌++◌, length, get_or, drop, arith, ap}
use Rattle.std.proofs.Common.{ap₂, ◌∙◌}
use Rattle.std.specs.List.{range_with_len}
use Rattle.std.proofs.lemmas.List.{append_assoc, drop_more}

-- one more number of a run
pub run_more : (out all : List ℕ) (from run i : ℕ) → i < run → out ++ range_with_len (from + i) (run - i) ≡ all →
    (out ++ (from + i) ∷ []) ++ range_with_len (from + (i + 1)) (run - (i + 1)) ≡ all
run_more out all from run i h e =
    append_assoc out ((from + i) ∷ []) (range_with_len (from + (i + 1)) (run - (i + 1)))
    ∙ (ap (λ n. out ++ (from + i) ∷ range_with_len n (run - (i + 1))) (let same : from + (i + 1) ≡ from + i + 1 =
    omega arith in same)
    ∙ (ap (λ n. out ++ range_with_len (from + i) n)
    (let same : suc (run - (i + 1)) ≡ run - i = omega (arith, h) in same) ∙ e))

-- one more dimension that stays in place
pub lead_more : (order : List ℕ) (lead : ℕ) → 0 < lead → lead ≤ length order → get_or order (lead - 1) 0 ≡ lead - 1 →
    drop lead order ≡ range_with_len lead (length order - lead) →
    drop (lead - 1) order ≡ range_with_len (lead - 1) (length order - (lead - 1))
lead_more order lead some few here rest =
    drop_more order (lead - 1) 0 (omega arith)
    ∙ (ap₂ (λ d l. d ∷ l) here (ap (λ n. drop n order) (let same : lead - 1 + 1 ≡ lead = omega arith in same) ∙ rest)
    ∙ (ap (λ a. (lead - 1) ∷ range_with_len a (length order - lead)) (let same : lead ≡ lead - 1 + 1 = omega arith in
    same)
    ∙ ap (range_with_len (lead - 1)) (let same : suc (length order - lead) ≡ length order - (lead - 1) = omega arith in
    same)))
