use Rattle.std.proofs.Common.{◌≡◌, drop}
use Rattle.zarr_cli.specs.Words.{is_known, with_words, settings_of}
use Rattle.zarr_cli.specs.Status.{words_of, settings_view}
use Rattle.zarr_cli.proofs.words.read_words.Given as goal

abbrev pub invariant-loop-word : goal.invariant-loop-word
invariant-loop-word l = with_words is_known l.so_far.pending (words_of (drop l.word-index l.words))
    (settings_view l.so_far.settings) ≡ settings_of (words_of l.fn.words)
