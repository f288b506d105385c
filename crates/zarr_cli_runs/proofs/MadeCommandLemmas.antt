-- Commands one after another.
use Rattle.std.proofs.Common.{◌≡◌, ℕ, suc, ◌+◌, ◌-◌, ◌<◌, List, [], ◌∷◌, ◌++◌, map, refl, sym, ap, ap₂, ◌∙◌}
use Rattle.std.proofs.Common.{append_assoc, arith}
use Rattle.std.proofs.lemmas.List.{map-append}
use Rattle.zarr_model.specs.Prelude.{Command}
use Rattle.zarr_cli_runs.specs.Generator.{first_state}
use Rattle.zarr_cli_runs.specs.MadeCommands.{command_from, state_behind, commands_from, made_commands}

-- the commands that are left begin with the next one
next_command : (count k first state : ℕ) → k < count →
    commands_from (count - k) first state ≡
    command_from first state ∷ commands_from (count - (k + 1)) (first + 1) (state_behind state)
next_command count k first state below =
    ap (λ n. commands_from n first state) (let e : count - k ≡ suc (count - (k + 1)) = omega arith in e)

-- one more command is made
pub one_more_made : {X : Type 0} (f : X → Command) (count k state next : ℕ) (made now : List X)
    (x : X) (all : List Command) → k < count →
    map f made ++ commands_from (count - k) (k + 1) state ≡ all → now ≡ made ++ x ∷ [] →
    f x ≡ command_from (k + 1) state → next ≡ state_behind state →
    map f now ++ commands_from (count - (k + 1)) (k + 1 + 1) next ≡ all
one_more_made f count k state next made now x all below so_far put is after =
    ap₂ (λ l s. l ++ commands_from (count - (k + 1)) (k + 1 + 1) s)
    (ap (map f) put ∙ (map-append f made (x ∷ []) ∙ ap (λ c. map f made ++ c ∷ []) is)) after
    ∙ (append_assoc (map f made)
    (command_from (k + 1) state ∷ []) (commands_from (count - (k + 1)) (k + 1 + 1) (state_behind state))
    ∙ (ap (λ l. map f made ++ l) (sym (next_command count k (k + 1) state below)) ∙ so_far))

pub all_made : (number : ℕ) → commands_from 300 1 (first_state number) ≡ made_commands number
unfolding made_commands
all_made number = refl
