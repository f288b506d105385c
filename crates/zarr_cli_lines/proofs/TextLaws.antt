-- Lines are all good exactly where their commands are there.
use Rattle.std.proofs.Common.{◌≡◌, ℕ, suc, ◌+◌, ◌≤◌, true, List, [], ◌∷◌, length, map, Option, Some, None, is_some, ◌↔◌}
use Rattle.std.proofs.Common.{refl, sym, ◌∙◌, arith, cond, ◌-◌, length-drop}
use Rattle.std.specs.List.{prefix_len}
use Rattle.zarr_model.specs.Prelude.{Command}
use Rattle.zarr_model.proofs.Choices.{is_some-option_map}
use Rattle.zarr_cli_lines.specs.Text.{all_some, first_entries, lines_after_entries, commands_of, good_lines}
use Rattle.zarr_cli_lines.proofs.LineLemmas.{few_entries}

-- values that are all there
all_some_is : {A B : Type 0} (f : A → Option B) (xs : List A) →
    (is_some (all_some (map f xs)) ≡ true) ↔ (prefix_len (λ x. is_some (f x)) xs ≡ length xs)
all_some_is f [] = ((λ e. refl), (λ e. refl))
all_some_is {A} {B} f (x ∷ xs) = go (f x) (all_some_is f xs)
  where
    go : (o : Option B) → (is_some (all_some (map f xs)) ≡ true) ↔ (prefix_len (λ y. is_some (f y)) xs ≡ length xs) →
        (is_some (all_some (o ∷ map f xs)) ≡ true) ↔
        (cond (is_some o) (1 + prefix_len (λ y. is_some (f y)) xs) 0 ≡ suc (length xs))
    go None both = ((λ e. cc), (λ e. absurd (omega arith)))
    go (Some y) both = (
      (λ e. let rest : prefix_len (λ y. is_some (f y)) xs ≡ length xs =
          both.0 (sym (is_some-option_map (λ ys. y ∷ ys) (all_some (map f xs))) ∙ e) in omega arith),
      (λ e. let rest : prefix_len (λ y. is_some (f y)) xs ≡ length xs = omega arith in
          is_some-option_map (λ ys. y ∷ ys) (all_some (map f xs)) ∙ both.1 rest),
    )

-- each line is of its form exactly where the lines are key lines and then commands
pub good_lines_all : (grammar : List ℕ → Option Command) (lines : List (List ℕ)) →
    (is_some (commands_of grammar lines) ≡ true) ↔ (good_lines grammar lines ≡ length lines)
good_lines_all grammar lines =
    let rest : List (List ℕ) = lines_after_entries lines in
    let both = all_some_is grammar rest in
    let few : length (first_entries lines) ≤ length lines = few_entries lines in
    let long : length rest ≡ length lines - length (first_entries lines) =
    length-drop (length (first_entries lines)) lines in (
      (λ e. let all : prefix_len (λ line. is_some (grammar line)) rest ≡ length rest = both.0 e in omega arith),
      (λ e. both.1 (omega arith)),
    )
