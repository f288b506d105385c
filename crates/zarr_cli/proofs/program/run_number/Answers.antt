use Rattle.std.proofs.Common.{refl}
use Rattle.zarrs_codec_traits.specs.Views.{options_of}
use Rattle.zarr_cli.specs.Seen.{seen}
use Rattle.zarr_cli.specs.Status.{settings_view}
use Rattle.zarr_cli.proofs.MadeLemmas.{made_answers, of_made, made_named, made_ends}
use Rattle.zarr_cli.proofs.program.run_number.Goals as goal

pub returns-clause-made : goal.returns-clause-made
returns-clause-made g c = λ source.
    made_answers c.args.number (options_of c.args.words.now.options)
    (seen source (g.W.Sink.shown c.args.sink.now) (g.S.Store.shown c.args.store.now))
    (seen source (g.W.Sink.shown c.write_output.new.sink) (g.S.Store.shown c.run_made-output.new.store))
    c.run_made-output.result c.write_output.result (g.met.S.Store.counts_fit c.args.store.now).3
    c.run_made-output.ensures refl
    c.write_output.ensures

pub returns-clause-ends : goal.returns-clause-ends
returns-clause-ends g c = λ known is source.
    let own = of_made c.args.number (options_of c.args.words.now.options) (g.S.Store.shown c.args.store.now)
    (g.S.Store.shown c.run_made-output.new.store) (g.W.Sink.shown c.args.sink.now)
    (g.W.Sink.shown c.write_output.new.sink)
    c.run_made-output.result c.write_output.result (g.met.S.Store.counts_fit c.args.store.now).3
    c.run_made-output.ensures c.write_output.ensures in
    made_ends known (settings_view c.args.words.now)
    (seen source (g.W.Sink.shown c.args.sink.now) (g.S.Store.shown c.args.store.now))
    (seen source (g.W.Sink.shown c.write_output.new.sink) (g.S.Store.shown c.run_made-output.new.store))
    c.write_output.result is own.0 own.1

pub returns-clause-named : goal.returns-clause-named
returns-clause-named g c =
    let own = of_made c.args.number (options_of c.args.words.now.options) (g.S.Store.shown c.args.store.now)
    (g.S.Store.shown c.run_made-output.new.store) (g.W.Sink.shown c.args.sink.now)
    (g.W.Sink.shown c.write_output.new.sink)
    c.run_made-output.result c.write_output.result (g.met.S.Store.counts_fit c.args.store.now).3
    c.run_made-output.ensures c.write_output.ensures in
    made_named _ _ c.write_output.result own.0
