use Rattle.std.proofs.Common.{◌≡◌, drop, codes, bytes_eq}
use Rattle.std.specs.List.{list_all}
use Rattle.zarr_cli.specs.Status.{words_of}
use Rattle.zarr_refs.proofs.program.word_options.Given as goal

abbrev pub invariant-loop-word : goal.invariant-loop-word
invariant-loop-word l = list_all (λ word. bytes_eq word (codes "--no-checksums")) (words_of (drop l.word-index
    l.words)) ≡ list_all (λ word. bytes_eq word (codes "--no-checksums")) (words_of l.fn.words)
