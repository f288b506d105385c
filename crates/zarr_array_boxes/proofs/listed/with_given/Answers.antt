use Rattle.std.proofs.Common.{rules, [], length, replicate, ap, ◌+◌, ◌∙◌}
use Rattle.std.specs.List.{range_with_len}
use Rattle.zarrs_codec_slices.specs.Picking.{replaced}
use Rattle.zarrs_codec_slices.specs.PickedRuns.{run_numbers}
use Rattle.zarrs_codec_slices.proofs.PickRunLaws.{numbers_below}
use Rattle.zarrs_codec_array_bytes.specs.Raw.{raw_of}
use Rattle.zarrs_codec_array_bytes.specs.Steps.{kind_seen}
use Rattle.zarrs_codec_array_bytes_parts.specs.OwnedArrayBytes.{owned_raw}
use Rattle.zarrs_codec_array_bytes_parts.proofs.MeansLaws.{sound_means}
use Rattle.zarr_array_boxes.proofs.GatherLemmas.{blank_alike, both_means, elements_long, gathered_given, gathered_short}
use Rattle.zarr_array_boxes.proofs.listed.with_given.Goals as goal

pub append-requires : goal.append-requires
append-requires c =
    blank_alike (kind_seen c.args.data_type.now) c.args.count 0 0 (run_numbers c.args.given.runs.items) [] (raw_of
    c.args.blank.now) (owned_raw c.args.given.grown) (owned_raw c.args.given.grown) (owned_raw c.args.given.grown)
    c.requires.blank c.requires.given

pub into_array_bytes-requires : goal.into_array_bytes-requires
into_array_bytes-requires c =
    sound_means (kind_seen c.args.data_type.now)
    (length (run_numbers c.args.given.runs.items) + 1) (owned_raw c.append.new.self) _
    (both_means (kind_seen c.args.data_type.now) c.args.count 0 0 (run_numbers c.args.given.runs.items) [] (raw_of
    c.args.blank.now) (owned_raw c.args.given.grown) (owned_raw c.append.new.self) (owned_raw c.append.new.self)
    c.requires.blank c.requires.given c.in_ok-append.ensures)

pub select_runs-requires-clause-long : goal.select_runs-requires-clause-long
select_runs-requires-clause-long c =
    elements_long (kind_seen c.args.data_type.now) c.args.count c.element_size-size.result c.in_ok-picks.picks.total
    (run_numbers c.args.given.runs.items) (run_numbers c.in_ok-picks.picks.runs.items)
    (raw_of c.args.blank.now) (owned_raw c.args.given.grown) (owned_raw c.append.new.self)
    (raw_of c.in_ok-elements.elements) c.requires.blank c.requires.given
    c.in_ok-append.ensures c.in_ok-elements.ensures c.element_size-size.ensures
    (c.in_ok-picks.ensures.total ∙ ap (λ l. length (run_numbers l)) c.deref.ensures.value)

pub returns-in-Ok-clause-means : goal.returns-in-Ok-clause-means
returns-in-Ok-clause-means c =
    gathered_given (kind_seen c.args.data_type.now) c.args.count c.element_size-size.result c.in_ok-picks.picks.total
    (run_numbers c.args.given.runs.items) (run_numbers c.in_ok-picks.picks.runs.items)
    (raw_of c.args.blank.now) (owned_raw c.args.given.grown) (owned_raw c.append.new.self)
    (raw_of c.in_ok-elements.elements) c.requires.blank c.requires.given
    c.in_ok-append.ensures c.in_ok-elements.ensures c.element_size-size.ensures
    (c.in_ok-picks.ensures.total ∙ ap (λ l. length (run_numbers l)) c.deref.ensures.value)
    (numbers_below (c.in_ok-picks.picks.total + 1) c.in_ok-picks.picks.runs.items c.in_ok-picks.ensures.within)
    (c.in_ok-picks.ensures.numbers ∙ ap (λ l. replaced (run_numbers l) (range_with_len 0 (length (run_numbers l)))
    (replicate c.args.count (length (run_numbers l)))) c.deref.ensures.value) (raw_of c.in-Ok.bytes) (search rules)

pub returns-in-Ok-clause-short : goal.returns-in-Ok-clause-short
returns-in-Ok-clause-short c =
    gathered_short (kind_seen c.args.data_type.now) c.args.count c.element_size-size.result c.in_ok-picks.picks.total
    (run_numbers c.args.given.runs.items) (run_numbers c.in_ok-picks.picks.runs.items)
    (raw_of c.args.blank.now) (owned_raw c.args.given.grown) (owned_raw c.append.new.self)
    (raw_of c.in_ok-elements.elements) c.requires.blank c.requires.given
    c.in_ok-append.ensures c.in_ok-elements.ensures c.element_size-size.ensures
    (c.in_ok-picks.ensures.total ∙ ap (λ l. length (run_numbers l)) c.deref.ensures.value)
    (numbers_below (c.in_ok-picks.picks.total + 1) c.in_ok-picks.picks.runs.items c.in_ok-picks.ensures.within)
    (c.in_ok-picks.ensures.numbers ∙ ap (λ l. replaced (run_numbers l) (range_with_len 0 (length (run_numbers l)))
    (replicate c.args.count (length (run_numbers l)))) c.deref.ensures.value) (raw_of c.in-Ok.bytes) (search rules)
