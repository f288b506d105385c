use Rattle.std.proofs.Common.{length, sym, ap, ◌∙◌}
use Rattle.zarrs_array_subset.proofs.BoxLaws.{same_rank_rising_inc}
use Rattle.zarrs_array_subset.proofs.array_subset.ArraySubset.through.Goals as goal

pub to_lengths-requires : goal.to_lengths-requires
to_lengths-requires c =
    sym (same_rank_rising_inc c.args.start.items c.args.end.items c.requires) ∙ ap length (sym c.deref.ensures.value)
