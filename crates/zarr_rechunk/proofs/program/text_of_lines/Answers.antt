use Rattle.zarr_array.specs.OpenArray.{documented}
use Rattle.zarr_rechunk.specs.Input.{key_lines}
use Rattle.zarr_rechunk.specs.Said.{both}
use Rattle.zarr_rechunk.proofs.SaidLaws.{keys_stop}
use Rattle.zarr_rechunk.proofs.program.text_of_lines.Goals as goal

pub returns-in-Err-clause-ran : goal.returns-in-Err-clause-ran
returns-in-Err-clause-ran g c =
    keys_stop (documented c.args.source.now) (documented c.args.target.now) (key_lines c.args.lines.items)
    (both (g.S.Store.shown c.args.from.now) (g.T.Store.shown c.args.to.now))
    c.in-Err.status c.in-Err.ensures.fault
