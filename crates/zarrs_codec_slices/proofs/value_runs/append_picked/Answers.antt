use Rattle.std.proofs.Common.{◌++◌, length, ap, sym, ◌∙◌}
use Rattle.std.proofs.lemmas.Result.{on_ok_weaker}
use Rattle.zarr_model.specs.ArrayBytes.{ends_from}
use Rattle.zarrs_codec_slices.specs.Picking.{value_of}
use Rattle.zarrs_codec_slices.proofs.PieceRunLaws.{run_of_first, run_of_second, joined_of_first, joined_of_second}
use Rattle.zarrs_codec_slices.proofs.value_runs.append_picked.Goals as goal

pub returns-then-start-count-clause-values : goal.returns-then-start-count-clause-values
returns-then-start-count-clause-values c =
    on_ok_weaker c.append_run.result
    (λ e. e ∙ ap (λ l. c.args.bytes.now.items ++ l)
    (sym (joined_of_first c.args.count (value_of c.args.old.now c.args.old_offsets.now) (value_of c.args.new.now
    c.args.new_offsets.now) c.args.run.0 c.args.run.1 (c.requires.first c.if-start-count.true))))
    c.append_run.ensures.values

pub returns-then-start-count-clause-offsets : goal.returns-then-start-count-clause-offsets
returns-then-start-count-clause-offsets c =
    on_ok_weaker c.append_run.result
    (λ e. e ∙ ap (λ l. c.args.offsets.now.items ++ ends_from (length c.args.bytes.now.items) l)
    (sym (run_of_first c.args.count (value_of c.args.old.now c.args.old_offsets.now) (value_of c.args.new.now
    c.args.new_offsets.now) c.args.run.0 c.args.run.1 (c.requires.first c.if-start-count.true))))
    c.append_run.ensures.offsets

pub returns-else-start-count-clause-values : goal.returns-else-start-count-clause-values
returns-else-start-count-clause-values c =
    on_ok_weaker c.append_run-else-start-count.result
    (λ e. e ∙ ap (λ l. c.args.bytes.now.items ++ l)
    (sym (joined_of_second c.args.count (value_of c.args.old.now c.args.old_offsets.now)
    (value_of c.args.new.now c.args.new_offsets.now) c.args.run.0 c.args.run.1 c.if-start-count.false)))
    c.append_run-else-start-count.ensures.values

pub returns-else-start-count-clause-offsets : goal.returns-else-start-count-clause-offsets
returns-else-start-count-clause-offsets c =
    on_ok_weaker c.append_run-else-start-count.result
    (λ e. e ∙ ap (λ l. c.args.offsets.now.items ++ ends_from (length c.args.bytes.now.items) l)
    (sym (run_of_second c.args.count (value_of c.args.old.now c.args.old_offsets.now)
    (value_of c.args.new.now c.args.new_offsets.now) c.args.run.0 c.args.run.1 c.if-start-count.false)))
    c.append_run-else-start-count.ensures.offsets
