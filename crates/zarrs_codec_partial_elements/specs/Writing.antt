-- What writing elements owes.
use Rattle.std.specs.Prelude.{◌≡◌, ℕ, Bool, true, List, length, Some, Vec, Result, IfOk, IfErr}
use Rattle.zarrs_codec.specs.Prelude.{Element, DataType, kind_of, ArrayBytes, Level, BytesAnswer, fine, told_by}
use Rattle.zarrs_codec.specs.Prelude.{validity, Answers, IfUnfit, list_at, given_answer}
use Rattle.zarrs_array_subset.specs.declared.error.IndexerError.{IndexerError}
use Rattle.zarrs_codec_error.specs.declared.error.CodecError.{CodecError}

-- array bytes of these elements are refused by what is beyond the codec
pub record IsBeyond (beyond : ArrayBytes → BytesAnswer) (level : Level) (list : List Element)
    (e : CodecError) : Type 0 where
  pub bytes : ArrayBytes
  pub means : list_at level bytes ≡ Some list
  pub told : told_by e ≡ beyond bytes

-- array bytes of these elements are not, so that they are encoded
pub record IsTaken (beyond : ArrayBytes → BytesAnswer) (level : Level) (list : List Element)
    : Type 0 where
  pub bytes : ArrayBytes
  pub means : list_at level bytes ≡ Some list
  pub fits : beyond bytes ≡ fine

-- elements that are given were tested, and then the indexer that they are for
pub record TestsGiven {I Z : Type 0} (fits : I → List ℕ → Bool)
    (Refuses : I → List ℕ → IndexerError → Type 0) (places : I → List (List ℕ))
    (shape : List ℕ) (data_type : DataType) (indexer : I) (bytes : ArrayBytes)
    (result : Result (Vec ℕ Z) CodecError) : Type 0 where
  pub value : IfOk result (λ v. v.items ≡ shape)
  pub fit : IfOk result (λ v. fits indexer shape ≡ true)
  pub answer : Answers (given_answer (kind_of data_type) (fits indexer shape)
      (length (places indexer)) bytes) result
  pub refusal : validity (kind_of data_type) (length (places indexer)) bytes ≡ fine
      → IfErr result (IfUnfit (Refuses indexer shape))
