use Rattle.std.proofs.Common.{rules, ◌≡◌, ◌++◌, length, map, ap, sym, ◌∙◌}
use Rattle.std.specs.List.{range_with_len}
use Rattle.std.proofs.lemmas.Result.{on_ok_weaker}
use Rattle.zarr_model.specs.ArrayBytes.{ends_from}
use Rattle.zarr_model.proofs.Choices.{always_ok}
use Rattle.zarrs_codec_slices.specs.Picking.{value_of}
use Rattle.zarrs_codec_slices.proofs.PieceRunLaws.{values_run, ends_run}
use Rattle.zarrs_codec_slices.proofs.value_runs.append_run.Goals as goal

pub returns-clause-values : goal.returns-clause-values
returns-clause-values c =
    always_ok c.append_ends.result
    (c.in_ok-extend_from_slice.ensures.items
    ∙ ap (λ l. c.args.bytes.now.items ++ l) (sym (values_run c.args.from.now c.args.from_offsets.now
    c.requires.offsets_within c.args.start c.args.len c.requires.within)))

pub returns-clause-offsets : goal.returns-clause-offsets
returns-clause-offsets c =
    on_ok_weaker c.append_ends.result
    (λ e. e ∙ ap (λ l. c.args.offsets.now.items ++ l)
    (ends_run c.args.from.now c.args.from_offsets.now c.requires.offsets_within c.len-place.result c.args.start
    c.args.len c.requires.within
    ∙ ap (λ place. ends_from place (map (value_of c.args.from.now c.args.from_offsets.now) (range_with_len c.args.start
    c.args.len))) (let same : c.len-place.result ≡ length c.args.bytes.now.items = search rules in same)))
    c.append_ends.ensures
