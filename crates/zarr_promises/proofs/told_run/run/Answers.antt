use Rattle.std.proofs.Common.{ℕ, ⊎_elim, sym, subst}
use Rattle.zarr_model.specs.Prelude.{Options}
use Rattle.zarr_cli.specs.Words.{MakesFrom, MakesNothing}
use Rattle.zarr_cli_runs.specs.Ending.{IsBeforeStore}
use Rattle.zarr_cli.specs.Status.{words_of}
use Rattle.zarr_promises.proofs.WordLemmas.{either_way}
use Rattle.zarr_promises.proofs.told_run.run.Goals as goal

pub returns-clause-bad_input : goal.returns-clause-bad_input
returns-clause-bad_input g c = λ input told line is_so. ⊎_elim
    (λ (nothing : MakesNothing (words_of c.args.words.now)).
    (c.run_program.ensures.told nothing input told).bad_input line is_so)
    (λ (made : (number : ℕ) × (options : Options) × MakesFrom (words_of c.args.words.now) number options).
    absurd ((c.run_program.ensures.made made.0 made.1 made.2).begun (subst IsBeforeStore (sym is_so) tt)))
    (either_way (words_of c.args.words.now))

pub returns-clause-document : goal.returns-clause-document
returns-clause-document g c = λ input told why is_so. ⊎_elim
    (λ (nothing : MakesNothing (words_of c.args.words.now)).
    (c.run_program.ensures.told nothing input told).document why is_so)
    (λ (made : (number : ℕ) × (options : Options) × MakesFrom (words_of c.args.words.now) number options).
    absurd ((c.run_program.ensures.made made.0 made.1 made.2).begun (subst IsBeforeStore (sym is_so) tt)))
    (either_way (words_of c.args.words.now))

pub returns-clause-too_long : goal.returns-clause-too_long
returns-clause-too_long g c = λ input told is_so. ⊎_elim
    (λ (nothing : MakesNothing (words_of c.args.words.now)).
    (c.run_program.ensures.told nothing input told).too_long is_so)
    (λ (made : (number : ℕ) × (options : Options) × MakesFrom (words_of c.args.words.now) number options).
    absurd ((c.run_program.ensures.made made.0 made.1 made.2).begun (subst IsBeforeStore (sym is_so) tt)))
    (either_way (words_of c.args.words.now))
