-- The numbers of a summary over any store.
use Rattle.std.proofs.Common.{◌≡◌, ℕ, ◌+◌, List, [], ◌∷◌, length, map, refl, sym, ap, ap₂, ◌∙◌, arith}
use Rattle.std.specs.List.{sum_by}
use Rattle.std.proofs.lemmas.List.{length-map}
use Rattle.std.proofs.lemmas.List.Sums.{sum_by-cons}
use Rattle.zarr_model.specs.Prelude.{Command, Description, refusal, refusal_in, RefusesRight, Content}
use Rattle.zarrs_storage.specs.Store.{ListsKeys}
use Rattle.zarr_array.specs.boxes.Command.{answer_of}
use Rattle.zarr_array.specs.boxes.declared.command.Reply.{Reply}
use Rattle.zarr_array.specs.boxes.declared.command.Reply.TheVariants.{Elements, Done, Refused}
use Rattle.zarr_cli_runs.specs.Tally.{ok_held, done_held, refused_held, elements_held, summary_held}
use Rattle.zarr_cli_runs.specs.Summary.{summary_lines}
use Rattle.zarr_cli_runs.specs.Made.{refusal_count, refused_among, CountsAnswers}

-- replies refuse as many commands as have a refusal
refused_one : (held : Reply) → refused_held held ≡ refusal_count (refusal_in (answer_of held))
refused_one (Elements bytes) = refl
refused_one Done = refl
refused_one (Refused why) = refl

same_head : {X : Type 0} (x y : X) (xs ys : List X) → x ∷ xs ≡ y ∷ ys → x ≡ y
same_head x y xs ys e = cc

same_tail : {X : Type 0} (x y : X) (xs ys : List X) → x ∷ xs ≡ y ∷ ys → xs ≡ ys
same_tail x y xs ys e = cc

as_many_refused : (description : Description) (commands : List Command) (held : List Reply) → RefusesRight description
    commands (map answer_of held) → sum_by refused_held held ≡ refused_among description commands
as_many_refused description [] [] right = refl
as_many_refused description [] (one ∷ held) right = absurd (cc)
as_many_refused description (command ∷ commands) [] right = absurd (cc)
as_many_refused description (command ∷ commands) (one ∷ held) right =
    let first : refusal_in (answer_of one) ≡ refusal description command =
    same_head _ _ (map refusal_in (map answer_of held)) (map (refusal description) commands) right in
    let rest = as_many_refused description commands held
    (same_tail (refusal_in (answer_of one)) (refusal description command) _ _ right) in
    sum_by-cons refused_held one held ∙ (ap₂ (λ a b. a + b) (refused_one one ∙ ap refusal_count first) rest
    ∙ sym (sum_by-cons (λ c. refusal_count (refusal description c)) command commands))

-- each reply is of one kind
each_one : (held : Reply) → ok_held held + done_held held + refused_held held ≡ 1
each_one (Elements bytes) = refl
each_one Done = refl
each_one (Refused why) = refl

each_counted : (held : List Reply) →
    sum_by ok_held held + sum_by done_held held + sum_by refused_held held ≡ length held
each_counted [] = refl
each_counted (one ∷ held) = omega (
  arith,
  each_counted held,
  each_one one,
  sum_by-cons ok_held one held,
  sum_by-cons done_held one held,
  sum_by-cons refused_held one held,
)

as_many : (description : Description) (commands : List Command) (held : List Reply) →
    RefusesRight description commands (map answer_of held) → length held ≡ length commands
as_many description commands held right =
    sym (length-map held answer_of)
    ∙ (sym (length-map (map answer_of held) refusal_in) ∙ (ap length right ∙ length-map commands (refusal description)))

-- so these are the numbers of their summary
pub counts : (n count : ℕ) (description : Description) (commands : List Command) (held : List Reply)
    (store : Content) (text lines : List ℕ) → RefusesRight description commands (map answer_of held) →
    (keys : List (List ℕ)) × ListsKeys store keys × (count ≡ length keys) → text ≡ summary_held n held count lines →
    CountsAnswers description commands store text
counts n count description commands held store text lines right keys is =
    let refused = as_many_refused description commands held right in record {
      ok = sum_by ok_held held;
      done = sum_by done_held held;
      elements = sum_by (elements_held n) held;
      keys = keys.0;
      text = lines;
      each = ap (λ k. sum_by ok_held held + sum_by done_held held + k) (sym refused)
          ∙ (each_counted held ∙ as_many description commands held right);
      listed = keys.1;
      lines = is ∙ ap₂ (λ k m. summary_lines (sum_by ok_held held) (sum_by done_held held) k
          (sum_by (elements_held n) held) m lines) refused keys.2;
    }
