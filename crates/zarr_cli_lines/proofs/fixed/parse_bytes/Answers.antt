use Rattle.std.proofs.Common.{rules, [], ◌∷◌, refl}
use Rattle.zarr_cli_lines.specs.ElementText.{words_left}
use Rattle.zarr_cli_lines.specs.Fixed.{written_bytes}
use Rattle.zarr_cli_lines.proofs.FixedLemmas.{word_step, word_none}
use Rattle.zarr_cli_lines.proofs.fixed.parse_bytes.Goals as goal

pub returns-then-not-branch : goal.returns-then-not-branch
returns-then-not-branch c =
    let digits = c.in-Some-first_pair in
    let now = c.push_byte.new.value.items in
    word_none 1 c.in-Some.text.now (digits.high ∷ digits.low ∷ []) digits.rest c.elements.value.items now
    (written_bytes 1 (words_left c.args.text))
    refl digits.ensures.text (search rules) (search rules)

pub elements-preserved : goal.elements-preserved
elements-preserved c =
    let digits = c.in-Some-first_pair in
    let now = c.push_byte.new.value.items in
    word_step 1 c.in-Some.text.now (digits.high ∷ digits.low ∷ []) digits.rest c.elements.value.items now
    (written_bytes 1 (words_left c.args.text))
    digits.ensures.text (search rules) (search rules)
