use Rattle.std.proofs.Common.{map, subst, IfErr}
use Rattle.zarr_array_open.specs.Document.{describe}
use Rattle.zarr_array.specs.Told.{TellsWhy}
use Rattle.zarr_array_boxes.specs.Command.{command_of, region_at}
use Rattle.zarr_array.specs.OpenArray.{documented}
use Rattle.zarrs_codec_traits.specs.Views.{options_of}
use Rattle.zarr_array.specs.Ended.{ended}
use Rattle.zarr_array.specs.Runs.{Runs}
use Rattle.zarr_array.specs.Taken.{TakesAlone}
use Rattle.zarr_array.proofs.OpenedLaws.{one_document}
use Rattle.zarr_array.proofs.session.run_session.Goals as goal

pub returns-in-Ok-clause-runs : goal.returns-in-Ok-clause-runs
returns-in-Ok-clause-runs g c =
    λ document opens. subst (λ d. Runs (describe d) (options_of c.args.options.now) (map command_of c.args.commands.now)
    (g.S.Store.shown c.args.store.now) (g.S.Store.shown c.run_commands.new.store) (ended c.run_commands.result))
    (one_document (documented c.in-Ok.array) document _ c.in-Ok.ensures opens) c.run_commands.ensures.runs

pub returns-in-Ok-clause-taken : goal.returns-in-Ok-clause-taken
returns-in-Ok-clause-taken g c =
    λ document opens. subst (λ d. TakesAlone d (options_of c.args.options.now) (map command_of c.args.commands.now)
    (g.S.Store.shown c.args.store.now) (g.S.Store.shown c.run_commands.new.store) (ended c.run_commands.result))
    (one_document (documented c.in-Ok.array) document _ c.in-Ok.ensures opens) c.run_commands.ensures.taken

pub returns-in-Ok-clause-told : goal.returns-in-Ok-clause-told
returns-in-Ok-clause-told g c = λ document opens.
    subst (λ d. IfErr c.run_commands.result (λ error. TellsWhy (region_at (map command_of c.args.commands.now) error.at)
    d (options_of c.args.options.now) (g.S.Store.shown c.run_commands.new.store) error.kind))
    (one_document (documented c.in-Ok.array) document _ c.in-Ok.ensures opens) c.run_commands.ensures.told
