-- Elements of the level below that are all the fill value.
use Rattle.std.proofs.Common.{◌≡◌, ℕ, ◌+◌, ◌*◌, ◌^◌, ◌<◌, List, length, replicate, Some, Result}
use Rattle.std.proofs.Common.{Ok, Err, IfOk, IfErr, sym, ap, ap₂, ◌∙◌, subst, arith}
use Rattle.zarrs_codec_traits.specs.Prelude.{Region, count, count_of, whole, DataType, fill_element, fixed_size}
use Rattle.zarrs_codec_traits.specs.Prelude.{kind_of, meaning, Level, has_size, innermost_fill, size_in, raw_of}
use Rattle.zarrs_codec_traits.specs.Prelude.{Answers, fill_answer, list_at, IsFit}
use Rattle.zarr_model.proofs.RegionLaws.{sizes_whole}
use Rattle.zarrs_codec_slices.proofs.FilledLaws.{element_fits}
use Rattle.zarrs_codec_error.specs.declared.error.CodecError.{CodecError}
use Rattle.zarrs_codec_error.specs.declared.error.CodecError.TheVariants as codec
use Rattle.zarrs_codec_array_bytes.specs.declared.array_bytes.ArrayBytes as code
use Rattle.zarrs_codec_array_bytes.proofs.ToldLaws.{fill_memory}

module _ (below : Level) (box : Region) (all : box ≡ whole below.shape) where
  pub all_counted : count box ≡ count_of below.shape
  all_counted = ap (λ (b : Region). count b) all ∙ ap count_of (sizes_whole below.shape)

  pub all_few : IsFit below.shape below.data_type → count box + 1 < 2 ^ 64
  all_few fits = subst (λ (n : ℕ). n + 1 < 2 ^ 64) (sym all_counted) fits.count

  pub all_within : IsFit below.shape below.data_type → count box < 2 ^ 64
  all_within fits = let few : count box + 1 < 2 ^ 64 = all_few fits in omega (arith, few)

  module _ (data_type : DataType) (same : data_type ≡ below.data_type) where
    pub all_addressed : IsFit below.shape below.data_type →
        count box * size_in (fixed_size (kind_of data_type)) < 2 ^ 64
    all_addressed fits =
        subst (λ (n : ℕ). n * size_in (fixed_size (kind_of data_type)) < 2 ^ 64) (sym all_counted)
        (subst (λ (t : DataType). count_of below.shape * size_in (fixed_size (kind_of t)) < 2 ^ 64) (sym same)
        fits.bytes)

    module _ (fill other : List ℕ) (is : other ≡ fill) where
      pub denoted : fill_element (kind_of below.data_type) fill ≡ Some below.fill →
          fill_element (kind_of data_type) other ≡ Some below.fill
      denoted denotes = ap₂ (λ (t : DataType) (f : List ℕ). fill_element (kind_of t) f) same is ∙ denotes

      pub all_filled : (r : Result code.ArrayBytes CodecError) →
          fill_element (kind_of below.data_type) fill ≡ Some below.fill
          → (fill_element (kind_of data_type) other ≡ Some below.fill →
          IfOk r (λ v. meaning (kind_of data_type) (count box) (raw_of v) ≡ Some (replicate (count box) below.fill)))
          → IfOk r (λ v. list_at below (raw_of v) ≡ Some (replicate (count_of below.shape) below.fill))
      all_filled (Ok v) denotes filled =
          ap₂ (λ (t : DataType) (n : ℕ). meaning (kind_of t) n (raw_of v)) (sym same) (sym all_counted)
          ∙ (filled (denoted denotes) ∙ ap (λ (n : ℕ). Some (replicate n below.fill)) all_counted)
      all_filled (Err e) denotes filled = tt

      pub all_short : length (innermost_fill (kind_of below.data_type) fill) < 2 ^ 32 →
          length (innermost_fill (kind_of data_type) other) < 2 ^ 32
      all_short few = subst (λ (f : List ℕ). length (innermost_fill (kind_of data_type) f) < 2 ^ 32) (sym is)
          (subst (λ (t : DataType). length (innermost_fill (kind_of t) fill) < 2 ^ 32) (sym same) few)

      pub all_failed : {T : Type 0} (r : Result T CodecError) →
          fill_element (kind_of below.data_type) fill ≡ Some below.fill →
          Answers (fill_answer (has_size (kind_of data_type) other)) r → IfErr r (λ e. e ≡ codec.OutOfMemory)
      all_failed (Ok v) denotes answers = tt
      all_failed (Err e) denotes answers = fill_memory (has_size (kind_of data_type) other) e
          (element_fits (kind_of data_type) other below.fill (denoted denotes)) answers
