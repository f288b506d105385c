use Rattle.std.proofs.Common.{◌≡◌, ◌+◌, ◌∷◌, drop, None, option_map, ap, ◌∙◌, subst, rules}
use Rattle.zarr_cli.specs.Words.{is_known, with_words}
use Rattle.zarr_cli.specs.Status.{words_of, settings_view}
use Rattle.zarr_cli.proofs.WordLemmas.{word_refused}
use Rattle.zarr_cli.proofs.words.read_words.Goals as goal

pub returns-in_err-so_far : goal.returns-in_err-so_far
returns-in_err-so_far c =
    let is : c.from_residual.result ≡ None = search rules in
    let left = words_of (drop (c.loop-word.word-index + 1) c.args.words.now) in
    ap (option_map settings_view) is ∙
    word_refused c.args.words.now c.loop-word.word-index c.word-item.result c.loop-word.so_far.pending
    (settings_view c.loop-word.so_far.settings) c.loop-word-test.true c.word-item.is
    (subst (λ text. with_words is_known c.loop-word.so_far.pending (text
    ∷ left) (settings_view c.loop-word.so_far.settings) ≡ None) c.as_str.ensures.value (c.in_err-so_far.ensures left))
    c.loop-word.invariant
