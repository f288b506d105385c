use Rattle.std.proofs.Common.{◌≡◌, ◌+◌, get_or, drop, arith, sym, ap, ap₂, ◌∙◌, subst}
use Rattle.std.specs.Cow.{cow_slice_items}
use Rattle.zarr_model.specs.ArrayBytes.{optional_bytes}
use Rattle.zarrs_codec_array_bytes.specs.Raw.{raw_of}
use Rattle.zarrs_codec_array_bytes.specs.Refusals.{fine}
use Rattle.zarrs_codec_array_bytes_parts.specs.Targets.{target_answer, IsViewWritten, ArePut}
use Rattle.zarrs_codec_array_bytes_parts.proofs.TargetLaws.{optional_opened, optional_put, drop_same}
use Rattle.zarrs_codec_array_bytes_parts.proofs.decode_into_target.+write_levels.Goals as goal

pub write_levels-requires : goal.write_levels-requires
write_levels-requires t c =
    let level : raw_of c.args.bytes.now ≡
    optional_bytes (raw_of c.data.result.now) (cow_slice_items c.mask.result.now) =
    ap raw_of c.in-Optional.is ∙ ap₂ optional_bytes (sym c.data.ensures.value) (sym c.mask.ensures) in
    let opened = optional_opened (raw_of c.data.result.now) (cow_slice_items c.mask.result.now) c.args.masks.now
    c.args.level c.args.data.now c.args.data.now
    (subst (λ b. target_answer b (drop c.args.level c.args.masks.now) c.args.data.now ≡ fine) level c.requires.fits) in
    let same : drop (c.args.level + 1) c.args.masks.now ≡ drop (c.args.level + 1) c.write_at.new.masks =
    sym (drop_same c.write_at.new.masks c.args.masks.now (c.args.level + 1) c.write_at.ensures.long
    (λ k d h. c.write_at.ensures.after k d (omega (arith, h)))) in (
      omega (arith, opened.0, c.write_at.ensures.long),
      (
        omega (arith, opened.0, c.write_at.ensures.long),
        subst (λ l. target_answer (raw_of c.data.result.now) l c.args.data.now ≡ fine) same opened.2,
      ),
    )

pub returns-in-Optional-clause-put : goal.returns-in-Optional-clause-put
returns-in-Optional-clause-put t c =
    let level : raw_of c.args.bytes.now ≡
    optional_bytes (raw_of c.data.result.now) (cow_slice_items c.mask.result.now) =
    ap raw_of c.in-Optional.is ∙ ap₂ optional_bytes (sym c.data.ensures.value) (sym c.mask.ensures) in
    let opened = optional_opened (raw_of c.data.result.now) (cow_slice_items c.mask.result.now) c.args.masks.now
    c.args.level c.args.data.now c.args.data.now
    (subst (λ b. target_answer b (drop c.args.level c.args.masks.now) c.args.data.now ≡ fine) level c.requires.fits) in
    let same : drop (c.args.level + 1) c.write_at.new.masks ≡ drop (c.args.level + 1) c.args.masks.now =
    drop_same c.write_at.new.masks c.args.masks.now (c.args.level + 1) c.write_at.ensures.long
    (λ k d h. c.write_at.ensures.after k d (omega (arith, h))) in
    let written : IsViewWritten (cow_slice_items c.mask.result.now) (get_or c.args.masks.now c.args.level
    c.args.data.now) (get_or c.write_levels.new.masks c.args.level c.args.data.now) =
    subst (λ v. IsViewWritten (cow_slice_items c.mask.result.now) (get_or c.args.masks.now c.args.level c.args.data.now)
    v) (sym (c.write_levels.ensures.before c.args.level c.args.data.now (omega arith)))
    (subst (λ m. IsViewWritten m (get_or c.args.masks.now c.args.level c.args.data.now) (get_or c.write_at.new.masks
    c.args.level c.args.data.now)) c.bytes_in-in-Optional.ensures (c.write_at.ensures.written c.args.data.now)) in
    subst (λ b. ArePut b (drop c.args.level c.args.masks.now) (drop c.args.level c.write_levels.new.masks)
    c.args.data.now c.write_levels.new.data) (sym level)
    (optional_put (raw_of c.data.result.now) (cow_slice_items c.mask.result.now) c.args.masks.now
    c.write_levels.new.masks c.args.level c.args.data.now c.write_levels.new.data c.args.data.now
    opened.0 (c.write_levels.ensures.long ∙ c.write_at.ensures.long) written
    (subst (λ l. ArePut (raw_of c.data.result.now) l (drop (c.args.level + 1) c.write_levels.new.masks) c.args.data.now
    c.write_levels.new.data) same c.write_levels.ensures.put))
