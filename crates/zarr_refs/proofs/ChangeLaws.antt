-- The first command that does not read.
use Rattle.std.proofs.Common.{◌≡◌, ◌∙◌, ap, sym, refl, cond, ℕ, suc, ◌+◌, ◌<◌, ◌≤◌, true, false, Bool, List, [], ◌∷◌}
use Rattle.std.proofs.Common.{map, drop, length, get_or, Option, Some, None, option_map, arith}
use Rattle.std.proofs.lemmas.List.{drop_more, drop_all}
use Rattle.std.specs.List.{list_all}
use Rattle.zarr_model.specs.Command as Model
use Rattle.zarr_array.specs.boxes.declared.command.Command.{Command}
use Rattle.zarr_array.specs.boxes.Command.{command_of, is_read}
use Rattle.zarr_refs.specs.Session.{first_change}

-- a number of a list behind so many others
abbrev pub counted_from : ℕ → Option ℕ → Option ℕ
counted_from i found = option_map (λ n. i + n) found

-- none of the first i changes, so the first change is one of those behind
abbrev pub StandsBehind : List Command → ℕ → Type 0
StandsBehind commands i =
    first_change (map command_of commands) ≡ counted_from i (first_change (map command_of (drop i commands)))

pub none_before : (commands : List Command) → StandsBehind commands 0
none_before commands = sym (same (first_change (map command_of commands)))
  where
    same : (o : Option ℕ) → counted_from 0 o ≡ o
    same None = refl
    same (Some n) = ap Some (let e : 0 + n ≡ n = omega arith in e)

next : (i : ℕ) (o : Option ℕ) → counted_from i (option_map suc o) ≡ counted_from (i + 1) o
next i None = refl
next i (Some n) = ap Some (let e : i + suc n ≡ i + 1 + n = omega arith in e)

module _ (commands : List Command) (i : ℕ) (c : Command) (h : i < length commands)
    (item : get_or commands i c ≡ c) where
  back : drop i commands ≡ c ∷ drop (i + 1) commands
  back = drop_more commands i c h ∙ ap (λ (x : Command). x ∷ drop (i + 1) commands) item

  pub one_more : is_read (command_of c) ≡ true → StandsBehind commands i → StandsBehind commands (i + 1)
  one_more reads behind =
      let here : first_change (map command_of (drop i commands)) ≡
      option_map suc (first_change (map command_of (drop (i + 1) commands))) =
      ap (λ (cs : List Command). first_change (map command_of cs)) back ∙ (rw reads refl) in
      behind ∙ (ap (counted_from i) here ∙ next i (first_change (map command_of (drop (i + 1) commands))))

  pub is_first : is_read (command_of c) ≡ false → StandsBehind commands i →
      first_change (map command_of commands) ≡ Some i
  is_first changes behind =
      let here : first_change (map command_of (drop i commands)) ≡ Some 0 =
      ap (λ (cs : List Command). first_change (map command_of cs)) back ∙ (rw changes refl) in
      behind ∙ (ap (counted_from i) here ∙ ap Some (let e : i + 0 ≡ i = omega arith in e))

pub none_at_all : (commands : List Command) (i : ℕ) → length commands ≤ i → StandsBehind commands i →
    first_change (map command_of commands) ≡ None
none_at_all commands i h behind =
    behind ∙ ap (λ (cs : List Command). counted_from i (first_change (map command_of cs))) (drop_all i commands h)

nothing : (o : Option ℕ) → option_map suc o ≡ None → o ≡ None
nothing None e = refl
nothing (Some n) e = cc

-- commands that change nothing are reads
pub all_read : (commands : List Model.Command) → first_change commands ≡ None → list_all is_read commands ≡ true
all_read [] none = refl
all_read (c ∷ cs) none = go (is_read c) refl (λ (h : first_change cs ≡ None). all_read cs h) none
  where
    go : (b : Bool) → is_read c ≡ b → (first_change cs ≡ None → list_all is_read cs ≡ true) →
        cond b (option_map suc (first_change cs)) (Some 0) ≡ None → list_all is_read (c ∷ cs) ≡ true
    go true reads rest behind = let others = rest (nothing (first_change cs) behind) in rw (reads, others) refl
    go false changes rest some = cc
