use Rattle.zarrs_codec_slices.proofs.PickRunLaws.{HasReplaced}
use Rattle.zarrs_codec_slices.proofs.pick_runs.rising_picks.Given as goal

abbrev pub invariant-loop-run : goal.invariant-loop-run
invariant-loop-run l = HasReplaced l.runs l.count l.run-index l.next l.given l.picks.items
