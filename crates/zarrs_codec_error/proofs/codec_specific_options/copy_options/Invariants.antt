use Rattle.std.proofs.Common.{◌≡◌, List, ◌++◌}
use Rattle.zarrs_codec_error.specs.CodecSpecificOptions.{entries_seen}
use Rattle.zarrs_codec_error.proofs.OptionLemmas.{Entry}
use Rattle.zarrs_codec_error.proofs.codec_specific_options.copy_options.Given as goal

abbrev pub invariant-loop-name : goal.invariant-loop-name
invariant-loop-name l =
    (goal.iterator-loop-name).can_next l.name-iterator ×
    (goal.iterator-loop-name).is_finite l.name-iterator ×
    ((done : List Entry) × (l.options.entries ≡ done ++ l.name-iterator) ×
    (entries_seen l.copies.entries ≡ entries_seen done))
