use Rattle.std.proofs.Common.{rules, [], ◌∙◌}
use Rattle.zarr_array_boxes.proofs.PlaceRunLaws.{put_within, shown_below, shown_over}
use Rattle.zarr_array_boxes.proofs.place_runs.picks_of_any.Goals as goal

pub put_in-requires : goal.put_in-requires
put_in-requires c =
    put_within c.args.count c.in_ok-given.given.total c.args.runs.now c.in_ok-given.given.runs.items c.deref.result.now
    c.in_ok-picks.picks.items [] [] c.requires c.in_ok-given.ensures.total (search rules)
    c.in_ok-given.ensures.runs c.deref.ensures.value (search rules)

pub runs_of-requires : goal.runs_of-requires
runs_of-requires c =
    shown_below c.args.count c.in_ok-given.given.total c.args.runs.now c.in_ok-given.given.runs.items c.deref.result.now
    c.in_ok-picks.picks.items c.put_in.new.picks.items c.deref-2.result.now c.requires c.in_ok-given.ensures.total
    (search rules)
    c.in_ok-given.ensures.runs c.deref.ensures.value (search rules) c.put_in.ensures.long c.put_in.ensures.each
    c.deref-2.ensures.value

pub returns : goal.returns
returns c = record {
  numbers = c.in_ok-runs.ensures.picks
      ∙ shown_over c.args.count c.in_ok-given.given.total c.args.runs.now c.in_ok-given.given.runs.items
      c.deref.result.now c.in_ok-picks.picks.items c.put_in.new.picks.items c.deref-2.result.now c.requires
      c.in_ok-given.ensures.total (search rules)
      c.in_ok-given.ensures.runs c.deref.ensures.value (search rules) c.put_in.ensures.long c.put_in.ensures.each
      c.deref-2.ensures.value;
  within = search rules;
  total = search rules;
  fits = search rules;
}
