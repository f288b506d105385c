-- The inner chunks of a chunk as those of an array.
use Rattle.std.proofs.Common.{◌≡◌, ℕ, true, List, Result, Ok, sym, ap, subst}
use Rattle.zarr_model.specs.Prelude.{DataType, KeyEncoding}
use Rattle.zarr_basics.specs.GridForms.{ChunkGrid, regular, grid_of}
use Rattle.zarr_array_open.specs.Document.{ChainForm, ArrayDocument, document_with, fill_in}
use Rattle.zarr_array_open.specs.Chain.{leading, behind, chain_in, all_ranked}
use Rattle.zarr_array_open.specs.Opening.{OpenRefusal, chain_order, ◌>>=◌, or_refused, expect_chain}
use Rattle.zarr_array_open.specs.Opening.{expect_small_chunks, served_document}
use Rattle.zarr_array_open.proofs.OpeningLaws.{bind_ok}
use Rattle.zarr_array_open.proofs.RankLaws.{arrays_behind}
use Rattle.zarr_codecs.specs.CodecForm.{CodecForm}
use Rattle.zarr_array_open.specs.ShardOpening.{ShardCodecs, inner_with}

-- what is served has the parts that were given
abbrev document_is : ArrayDocument → Result ArrayDocument OpenRefusal
document_is d = Ok d

same_document : (a b : ArrayDocument) → document_is a ≡ document_is b → a ≡ b
same_document a b e = cc

served_is : (keys : KeyEncoding) (chain : ChainForm) (type : DataType) (dims filler : List ℕ)
    (grid : ChunkGrid) (d : ArrayDocument) → served_document keys chain type dims grid filler ≡ Ok d →
    document_with keys chain type dims grid filler ≡ d
served_is keys chain type dims filler grid d e =
    let a = bind_ok (expect_chain chain type)
    (λ _. expect_small_chunks chain.to_bytes type filler (grid_of dims grid) >>= λ _.
    document_is (document_with keys chain type dims grid filler)) d e in
    let b = bind_ok (expect_small_chunks chain.to_bytes type filler (grid_of dims grid))
    (λ _. document_is (document_with keys chain type dims grid filler)) d a.2 in
    same_document (document_with keys chain type dims grid filler) d b.2

-- the array of inner chunks has the chunk's shape, data type and fill, and they are its chunks
pub record IsInner (type : DataType) (filler : List ℕ) (shard : ShardCodecs) (inner : ArrayDocument) : Type 0 where
  pub shape : inner.shape ≡ shard.chunk_shape
  pub data_type : inner.data_type ≡ type
  pub fill : inner.fill ≡ fill_in type filler
  pub grid : inner.grid ≡ regular shard.inner_shape

pub inner_is : (keys : KeyEncoding) (type : DataType) (filler : List ℕ) (shard : ShardCodecs) (inner : ArrayDocument) →
    inner_with keys type filler shard ≡ Ok inner → IsInner type filler shard inner
inner_is keys type filler shard inner e =
    let a = bind_ok (or_refused chain_order (chain_in shard.codecs))
    (λ chain. served_document keys chain type shard.chunk_shape (regular shard.inner_shape) filler) inner e in
    let same = served_is keys a.0 type shard.chunk_shape filler (regular shard.inner_shape) inner a.2 in
    record {
      shape = sym (ap (λ (d : ArrayDocument). d.shape) same);
      data_type = sym (ap (λ (d : ArrayDocument). d.data_type) same);
      fill = sym (ap (λ (d : ArrayDocument). d.fill) same);
      grid = sym (ap (λ (d : ArrayDocument). d.grid) same);
    }

-- each array-to-array codec of the chain serves the rank of chunks
pub chain_ranked : (rank : ℕ) (codecs : List CodecForm) (chain : ChainForm) → all_ranked rank (leading codecs) ≡ true →
    or_refused chain_order (chain_in codecs) ≡ Ok chain → all_ranked rank chain.array_codecs ≡ true
chain_ranked rank codecs chain ranked is =
    subst (λ l. all_ranked rank l ≡ true) (arrays_behind (leading codecs) (behind codecs) chain is) ranked
