use Rattle.std.proofs.Common.{◌≡◌, None, length, arith, ap, ap₂, sym, subst, ◌∙◌}
use Rattle.zarrs_codec_traits.specs.Prelude.{optional_bytes, raw_of, lengths_refusal}
use Rattle.zarr_rechunk.specs.Cleared.{levels}
use Rattle.zarr_rechunk.proofs.MaskLaws.{inner_fits}
use Rattle.zarr_rechunk.proofs.clear.+clear_under.Goals as goal

pub clear_under-requires : goal.clear_under-requires
clear_under-requires t c =
    let level : raw_of c.args.bytes.now ≡ optional_bytes (raw_of c.data.result.now) c.flags.result.now =
    ap raw_of c.in-Optional.is ∙ ap₂ optional_bytes (sym c.data.ensures.value) (sym c.flags.ensures) in
    let fewer = ap levels level in (
      omega (arith, fewer),
      inner_fits c.args.size c.args.mask.now c.flags.result.now c.deref.result.now (raw_of c.data.result.now)
          (subst (λ b. lengths_refusal c.args.size (length c.args.mask.now) b ≡ None) level c.requires)
          (c.deref.ensures.value ∙ c.in_ok-under-in-Optional.ensures),
    )
