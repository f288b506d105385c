use Rattle.std.proofs.Common.{rules}
use Rattle.zarr_refs.proofs.LineLaws.{other_word, known_word}
use Rattle.zarr_refs.proofs.program.word_options.Goals as goal

pub returns-then-ne : goal.returns-then-ne
returns-then-ne c = other_word c.args.words.now c.loop-word.word-index c.word-item.result c.loop-word-test.true
    c.word-item.is c.loop-word.invariant (search rules)

pub loop-word-preserved : goal.loop-word-preserved
loop-word-preserved c = known_word c.args.words.now c.loop-word.word-index c.word-item.result c.loop-word-test.true
    c.word-item.is c.loop-word.invariant (search rules)
