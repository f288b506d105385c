-- What an input says, by what its lines and its first line say.
use Rattle.std.proofs.Common.{◌≡◌, ◌∙◌, sym, refl, ℕ, ◌+◌, Bool, true, false, cond, nat_lt, List, length, drop}
use Rattle.zarr_cli_runs.specs.Ending.{Ending, bad_input}
use Rattle.zarr_array_open.specs.ShardDocument.{ShardDocument}
use Rattle.zarr_shard.specs.Says.{ShardSays, stops, runs, good_behind, lines_say, input_says}

same_stop : (a b : Ending) → stops a ≡ stops b → a ≡ b
same_stop a b e = cc

pub one_stop : (input : List ℕ) (a b : Ending) → input_says input ≡ stops a → input_says input ≡ stops b → a ≡ b
one_stop input a b first second = same_stop a b (sym first ∙ second)

pub no_run : (input : List ℕ) (ending : Ending) (document : ShardDocument) → input_says input ≡ stops ending →
    input_says input ≡ runs document → ⊥
no_run input ending document first second = let both : stops ending ≡ runs document = sym first ∙ second in cc

-- what lines say behind a document that was opened
module _ (document : ShardDocument) (lines : List (List ℕ)) where
  abbrev pub number : ℕ
  number = good_behind document lines + 2

  pub by_form : (P : ShardSays → Type 0) →
      ((b : Bool) → nat_lt (good_behind document lines) (length (drop 1 lines)) ≡ b →
      P (cond b (stops (bad_input number)) (runs document))) →
      P (lines_say document lines)
  by_form P each = each (nat_lt (good_behind document lines) (length (drop 1 lines))) refl

  -- a document that is run by is this one
  pub one_document : (other : ShardDocument) → lines_say document lines ≡ runs other → other ≡ document
  one_document other is = by_form (λ s. s ≡ runs other → other ≡ document) each is
    where
      each : (b : Bool) → nat_lt (good_behind document lines) (length (drop 1 lines)) ≡ b →
          cond b (stops (bad_input number)) (runs document) ≡ runs other → other ≡ document
      each true test e = absurd cc
      each false test e = cc
