use Rattle.std.proofs.Common.{◌∙◌, sym, ap, inl, inr, ⊎_elim}
use Rattle.std.proofs.lemmas.Result.{err_from_is_err_and}
use Rattle.zarrs_codec_traits.specs.Prelude.{value_bytes, options_of}
use Rattle.zarr_chunks.proofs.PartLaws.{value_parts_fail}
use Rattle.zarr_chunks.proofs.parts.fetch_parts.Goals as goal

pub returns-in_err-parts-in-Some-clause-failed : goal.returns-in_err-parts-in-Some-clause-failed
returns-in_err-parts-in-Some-clause-failed g c =
    let p =
    err_from_is_err_and c.from_residual-in_err-parts-in-Some.result c.from_residual-in_err-parts-in-Some.ensures.1 in
    let cause = value_parts_fail g.A.ArrayToArrayCodecTraits.meaning g.A.ArrayCodecTraits.unserved
    g.B.ArrayToBytesCodecTraits.meaning g.B.ArrayToBytesCodecTraits.says
    g.C.BytesToBytesCodecTraits.meaning g.C.BytesToBytesCodecTraits.says c.args.chain.now c.args.levels.now
    (options_of c.args.options.now) c.args.ranges.now _ c.in-Some.value.items c.in_err-parts-in-Some.field-0.0
    (sym (ap value_bytes c.in-Some.is)
    ∙ c.in_ok-value.ensures.reads.value) (rw c.deref.ensures.value at c.in_err-parts-in-Some.ensures.failed) in
    rw (p.1, p.2) (⊎_elim (λ memory. inl (inl memory)) (λ told. inr told) cause)
