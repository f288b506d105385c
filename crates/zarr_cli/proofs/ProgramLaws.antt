-- Words and input in form have one meaning, and a store has one listing.
use Rattle.std.proofs.Common.{◌≡◌, ℕ, List, Some, sym, ◌∙◌, subst, T, nat_cmp}
use Rattle.std.specs.FinMap.Entries.{same_entries}
use Rattle.std.specs.Cmp.Lexicographic.{slice_cmp, nat_list_cmp_total}
use Rattle.std.specs.FinMap.{slice_cmp-IsAntisymmetric, nat_cmp-IsAntisymmetric}
use Rattle.std.proofs.lemmas.Option.{same_Some}
use Rattle.zarr_model.specs.Prelude.{Content, Command}
use Rattle.zarr_cli_runs.specs.array.parts.Document.{ArrayDocument, describe}
use Rattle.zarr_cli_runs.specs.array.parts.Opening.{opened, open_builtin}
use Rattle.zarr_cli_runs.specs.lines.Text.{commands_of}
use Rattle.zarr_cli.specs.Words.{Settings, settings_of}
use Rattle.zarr_cli.specs.Run.{Prints}
use Rattle.zarr_cli.specs.Program.{Run, WentThrough}
use Rattle.zarr_cli_runs.specs.Keys.{ListsStore}
use Rattle.zarr_cli_runs.proofs.DocumentLawsBelow.{same_opened}
use Rattle.zarr_cli.specs.ProgramInput.{store_after_keys, command_grammar, document_line, lines_after_document}

-- a run has the settings, the document and the commands that its words and its input say
pub one_run : (words : List (List ℕ)) (input : List ℕ)
    (settings : Settings) (document : ArrayDocument) (commands : List Command) →
    settings_of words ≡ Some settings → open_builtin (document_line input) ≡ opened document →
    commands_of (command_grammar document) (lines_after_document input) ≡ Some commands →
    (run : Run words input) → (run.settings ≡ settings) × (run.document ≡ document) × (run.commands ≡ commands)
one_run words input settings document commands set opens told run =
    let which : run.document ≡ document = same_opened run.document document (sym run.is_opened ∙ opens) in (
      same_Some run.settings settings (sym run.are_words.0 ∙ set),
      which,
      same_Some run.commands commands (sym (subst (λ d. commands_of (command_grammar d) (lines_after_document input) ≡
          Some run.commands) which run.are_commands) ∙ told),
    )

-- so what went through is that run
pub went_through : (words : List (List ℕ)) (input : List ℕ) (old new : Content) (wrote : List ℕ → Type 0)
    (settings : Settings) (document : ArrayDocument) (commands : List Command) →
    settings_of words ≡ Some settings → open_builtin (document_line input) ≡ opened document →
    commands_of (command_grammar document) (lines_after_document input) ≡ Some commands →
    WentThrough words input old new wrote →
    (output : List ℕ) × Prints (describe document) settings commands (store_after_keys input old) new output ×
    wrote output
went_through words input old new wrote settings document commands set opens told (run, output, prints, given) =
    let same = one_run words input settings document commands set opens told run in (
      output,
      subst (λ c. Prints (describe document) settings c (store_after_keys input old) new output) same.2
          (subst (λ d. Prints (describe d) settings run.commands (store_after_keys input old) new output) same.1
          (subst (λ s. Prints (describe run.document) s run.commands (store_after_keys input old) new output) same.0
          prints)),
      given,
    )

-- two listings of one store are equal
pub one_listing : (store : Content) (entries others : List (List ℕ × List ℕ)) → ListsStore store entries →
    ListsStore store others → entries ≡ others
one_listing store entries others first second =
    same_entries (slice_cmp nat_cmp) nat_list_cmp_total (slice_cmp-IsAntisymmetric nat_cmp-IsAntisymmetric) entries
    others
    (subst T (sym first.in_order) tt) (subst T (sym second.in_order) tt) (λ key. first.held key ∙ sym (second.held key))
