use Rattle.std.proofs.Common.{rules, ◌∙◌}
use Rattle.zarr_array_tests.proofs.handles.put_again.Goals as goal

pub partial_decode-requires : goal.partial_decode-requires
partial_decode-requires c = record {
  serves = rw (c.from_parts-handle.ensures.parts.chain, c.from_parts-handle.ensures.parts.levels)
      c.in_ok-levels.ensures.serves;
  inside = search rules;
}

pub partial_encode-requires : goal.partial_encode-requires
partial_encode-requires c = record {
  serves = rw (
    c.erase.ensures.keeps.chain
        ∙ (c.partial_decode.ensures.keeps.handle.chain ∙ c.from_parts-handle.ensures.parts.chain),
    c.erase.ensures.keeps.levels
        ∙ (c.partial_decode.ensures.keeps.handle.levels ∙ c.from_parts-handle.ensures.parts.levels),
  ) c.in_ok-levels.ensures.serves;
  takes = rw (
    c.erase.ensures.keeps.chain
        ∙ (c.partial_decode.ensures.keeps.handle.chain ∙ c.from_parts-handle.ensures.parts.chain),
    c.erase.ensures.keeps.levels
        ∙ (c.partial_decode.ensures.keeps.handle.levels ∙ c.from_parts-handle.ensures.parts.levels),
  ) c.in_ok-levels.ensures.takes;
  inside = search rules;
  means = rw (c.erase.ensures.keeps.levels ∙ c.partial_decode.ensures.keeps.handle.levels) c.in-Ok.ensures.reads.valid;
  short = c.in-Ok.ensures.reads.short;
}
