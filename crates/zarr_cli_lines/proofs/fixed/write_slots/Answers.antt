use Rattle.std.proofs.Common.{length, sym, ap, ◌∙◌}
use Rattle.zarr_cli_lines.specs.Fixed.{bytes_text}
use Rattle.zarr_cli_lines.proofs.TextLemmas.{one_byte_room}
use Rattle.zarr_cli_lines.proofs.fixed.write_slots.Goals as goal

pub write_bytes-requires : goal.write_bytes-requires
write_bytes-requires c = one_byte_room (length c.args.elements.now) (length c.args.slots.now) c.args.size c.args.width
    c.if-size-eq1.true c.requires.wide c.requires.room

pub returns-then-size-eq1 : goal.returns-then-size-eq1
returns-then-size-eq1 c = c.write_bytes.ensures ∙ ap (λ n. bytes_text n c.args.elements.now) (sym c.if-size-eq1.true)
