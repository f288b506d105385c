use Rattle.std.proofs.Common.{rules, ◌+◌, length, take, arith}
use Rattle.zarr_cli_lines.specs.ElementText.{words_left}
use Rattle.zarr_cli_lines.specs.Fixed.{written_bytes}
use Rattle.zarr_cli_lines.proofs.FixedLemmas.{word_step, word_none, room_step}
use Rattle.zarr_cli_lines.proofs.fixed.decode_words.Goals as goal

pub returns-then-not-put_bytes : goal.returns-then-not-put_bytes
returns-then-not-put_bytes c =
    let digits = c.in_ok-digits in
    let before = take c.elements.at c.elements.places in
    let now = take (c.elements.at + c.args.size) c.put_bytes.new.places in
    word_none c.args.size c.in-Some.text.now digits.digits.now digits.rest before now
    (written_bytes c.args.size (words_left c.args.text))
    digits.ensures.digits digits.ensures.text (search rules) (search rules)

pub elements-preserved : goal.elements-preserved
elements-preserved c =
    let digits = c.in_ok-digits in
    let before = take c.elements.at c.elements.places in
    let now = take (c.elements.at + c.args.size) c.put_bytes.new.places in
    let within = room_step c.args.size c.in-Some.text.now digits.digits.now digits.rest c.elements.at
    (length c.elements.places) digits.ensures.text digits.ensures.digits (search rules) in (
      word_step c.args.size c.in-Some.text.now digits.digits.now digits.rest before now
          (written_bytes c.args.size (words_left c.args.text))
          digits.ensures.text (search rules) (search rules),
      omega (arith, within, c.put_bytes.ensures.length),
    )
