-- A run of lines that memory was wanting for at once.
use Rattle.std.proofs.Common.{◌≡◌, inl, inr, refl, ap, ℕ, List}
use Rattle.zarr_model.specs.Prelude.{Given, Shown, Description, IsUntouched}
use Rattle.zarr_cli_runs.specs.Ending.{IsGivenLine, IsWritten, ending_line}
use Rattle.zarr_cli_runs.specs.Ending as end
use Rattle.zarr_cli_runs.proofs.BetweenLaws.{between_untouched}
use Rattle.zarr_cli.specs.Words.{Settings}
use Rattle.zarr_cli.specs.Lines.{line_entries}
use Rattle.zarr_cli.specs.Run.{RunCosts}
use Rattle.zarr_cli.specs.Answers.{AnswersLines, outside}

-- the store is as before
module _ (old new : Shown) (still : new ≡ old) where
  pub same : (key : List ℕ) → new.content key ≡ old.content key
  same key = ap (λ (store : Shown). store.content key) still

  untouched : IsUntouched old new
  untouched = record {
    content = same;
    asks = ap (λ (store : Shown). store.asks) still;
    puts = ap (λ (store : Shown). store.puts) still;
    taken = ap (λ (store : Shown). store.taken) still;
  }

  unwritten : IsWritten end.out_of_memory → ⊥
  unwritten (inl is) = cc
  unwritten (inr is) = cc

  -- a run of lines that memory was wanting for at once
  pub lines_starved : (costs : RunCosts) (description : Description) (settings : Settings) (lines : List (List ℕ))
      (before now : Given) →
      IsGivenLine (ending_line end.out_of_memory) before now →
      AnswersLines costs description settings lines (outside before old) (outside now new) end.out_of_memory
  lines_starved costs description settings lines before now line = record {
    done = λ is. absurd cc;
    front = λ is. absurd cc;
    cost = λ run written. absurd (unwritten written);
    bad_input = λ number is. absurd cc;
    exactly_input = λ number out. inr refl;
    chunk = λ key is. absurd cc;
    complete = λ run sees sink store. inr refl;
    unchanged = λ key free. same key;
    between = λ run. between_untouched costs.once description settings.options (line_entries lines) run.commands old new
        end.out_of_memory same;
    refused = λ run written all none. absurd (unwritten written);
    unasked = λ run all none. (ap (λ (store : Shown). store.asks) still, ap (λ (store : Shown). store.taken) still);
    store = λ is. absurd cc;
    write = λ is. absurd cc;
    line = line;
    untouched = λ early. absurd early;
    own = tt;
  }
