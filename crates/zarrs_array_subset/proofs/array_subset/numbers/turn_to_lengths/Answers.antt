use Rattle.std.proofs.Common.{◌≡◌, length, ap, ◌∙◌, arith}
use Rattle.zarrs_array_subset.proofs.Lengths.{partly, partly_all}
use Rattle.zarrs_array_subset.proofs.array_subset.numbers.turn_to_lengths.Goals as goal

pub returns : goal.returns
returns c =
    let all : c.loop-i.i ≡ length c.args.starts.now = omega arith in
    c.loop-i.invariant ∙ ap (λ k. partly c.args.more k c.args.ends.now c.args.starts.now) all
    ∙ partly_all c.args.more c.args.ends.now c.args.starts.now c.requires
