use Rattle.std.proofs.Common.{rules}
use Rattle.zarr_array_boxes.proofs.PlaceRunLaws.{sorted_within, rising_over}
use Rattle.zarr_array_boxes.proofs.place_runs.picks_of_disjoint.Goals as goal

pub rising_picks-requires : goal.rising_picks-requires
rising_picks-requires c = record {
  within = sorted_within c.args.count c.in_ok-sorted.sorted.total c.args.runs.now c.in_ok-sorted.sorted.runs.items
      c.requires c.in_ok-sorted.ensures.total c.in_ok-sorted.ensures.runs;
}

pub returns : goal.returns
returns c = record {
  numbers = rising_over c.args.count c.in_ok-sorted.sorted.total c.args.runs.now c.in_ok-sorted.sorted.runs.items
      c.in-Some.picks.items c.requires c.in_ok-sorted.ensures.total c.in_ok-sorted.ensures.runs
      (search rules) (search rules);
  within = search rules;
  total = search rules;
  fits = search rules;
}
