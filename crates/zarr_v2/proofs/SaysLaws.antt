-- What an input says, by what its lines and its first line say.
use Rattle.std.proofs.Common.{◌≡◌, ◌∙◌, sym, refl, ℕ, ◌+◌, Bool, true, false, cond, nat_lt, List, length, drop}
use Rattle.std.specs.Str.Lossy.{utf8_valid_len}
use Rattle.zarr_array_open.specs.Document.{ArrayDocument}
use Rattle.zarr_array_open.specs.Opening.{OpenRefusal, chunk_too_large}
use Rattle.zarr_cli_runs.specs.lines.Text.{input_lines, line_at}
use Rattle.zarr_cli_runs.specs.Ending.{Ending, bad_input, refused_document, too_long}
use Rattle.zarr_cli.specs.Input.{input_limit}
use Rattle.zarr_cli.specs.Lines.{first_line}
use Rattle.zarr_v2.specs.Opening.{AnswerV2, opened_v2, refused_v2, not_opened_v2, open_builtin_v2}
use Rattle.zarr_v2.specs.Ending.{EndingV2, cli}
use Rattle.zarr_v2.specs.Says.{SaysV2, stops, runs, stops_cli, good_behind_v2, lines_say_v2, answer_says_v2, says_v2}
use Rattle.zarr_v2.proofs.BuiltinLaws.{large_alone}

same_stop : (a b : EndingV2) → stops a ≡ stops b → a ≡ b
same_stop a b e = cc

pub one_stop : (input : List ℕ) (a b : EndingV2) → says_v2 input ≡ stops a → says_v2 input ≡ stops b → a ≡ b
one_stop input a b first second = same_stop a b (sym first ∙ second)

pub no_run : (input : List ℕ) (ending : EndingV2) (document : ArrayDocument) → says_v2 input ≡ stops ending →
    says_v2 input ≡ runs document → ⊥
no_run input ending document first second = let both : stops ending ≡ runs document = sym first ∙ second in cc

-- a document that is not opened is told for chunks that are too large alone
abbrev OnlyLarge : SaysV2 → Type 0
OnlyLarge says = (why : OpenRefusal) → says ≡ stops (cli (refused_document why)) → why ≡ chunk_too_large

either : (b : Bool) (x y : SaysV2) → OnlyLarge x → OnlyLarge y → OnlyLarge (cond b x y)
either true x y first second = first
either false x y first second = second

other_stop : (ending : Ending) → ((why : OpenRefusal) → ending ≡ refused_document why → ⊥) →
    OnlyLarge (stops_cli ending)
other_stop ending other why is = absurd (other why (same_ending ending (refused_document why) is))
  where
    same_ending : (a b : Ending) → stops_cli a ≡ stops_cli b → a ≡ b
    same_ending a b e = cc

large_answer : (lines : List (List ℕ)) (answer : AnswerV2) → open_builtin_v2 (first_line lines) ≡ answer →
    OnlyLarge (answer_says_v2 lines answer)
large_answer lines (opened_v2 document) answers =
    either (nat_lt (good_behind_v2 document lines) (length (drop 1 lines)))
    (stops_cli (bad_input (good_behind_v2 document lines + 2))) (runs document)
    (other_stop (bad_input (good_behind_v2 document lines + 2)) (λ why e. cc)) (λ why e. absurd cc)
large_answer lines (refused_v2 why) answers = λ other e. absurd cc
large_answer lines (not_opened_v2 why) answers =
    λ other e. (let same : why ≡ other = cc in sym same ∙ large_alone (first_line lines) why answers)

pub large_said : (input : List ℕ) → OnlyLarge (says_v2 input)
large_said input =
    either (nat_lt input_limit (length input)) _ _ (other_stop too_long (λ why e. cc))
    (either (nat_lt (utf8_valid_len input) (length input)) _ _
    (other_stop (bad_input (line_at input (utf8_valid_len input))) (λ why e. cc))
    (large_answer (input_lines input) (open_builtin_v2 (first_line (input_lines input))) refl))

-- what lines say behind a document that was opened
module _ (document : ArrayDocument) (lines : List (List ℕ)) where
  abbrev pub number : ℕ
  number = good_behind_v2 document lines + 2

  pub by_form : (P : SaysV2 → Type 0) →
      ((b : Bool) → nat_lt (good_behind_v2 document lines) (length (drop 1 lines)) ≡ b →
      P (cond b (stops_cli (bad_input number)) (runs document))) →
      P (lines_say_v2 document lines)
  by_form P each = each (nat_lt (good_behind_v2 document lines) (length (drop 1 lines))) refl

  -- a document that is run by is this one
  pub one_document : (other : ArrayDocument) → lines_say_v2 document lines ≡ runs other → other ≡ document
  one_document other is = by_form (λ s. s ≡ runs other → other ≡ document) each is
    where
      each : (b : Bool) → nat_lt (good_behind_v2 document lines) (length (drop 1 lines)) ≡ b →
          cond b (stops_cli (bad_input number)) (runs document) ≡ runs other → other ≡ document
      each true test e = absurd cc
      each false test e = cc
