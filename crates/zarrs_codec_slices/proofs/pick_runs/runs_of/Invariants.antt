use Rattle.zarrs_codec_slices.proofs.PickRunLaws.{HasJoined}
use Rattle.zarrs_codec_slices.proofs.pick_runs.runs_of.Given as goal

abbrev pub invariant-loop-pick : goal.invariant-loop-pick
invariant-loop-pick l = HasJoined l.picks l.count l.new_count l.pick-index l.first l.len l.runs.items
