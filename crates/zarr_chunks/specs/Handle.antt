-- What a handle is made of, and what its calls leave of it.
use Rattle.std.specs.Prelude.{◌≡◌, ◌≤◌, ℕ, List, None, Result, OnOk, OnErr, IfErr}
use Rattle.zarrs_codec_traits.specs.Prelude.{counted, PutsKey, MayPutKey, Shown, IsFailedRead}
use Rattle.zarrs_codec_error.specs.declared.error.CodecError.{CodecError}
use Rattle.zarr_codec_chain.specs.declared.chain.CodecChain.{CodecChain}
use Rattle.zarr_codec_chain.specs.declared.levels.ChunkLevels.{ChunkLevels}
use Rattle.zarr_chunks.specs.declared.handle.ChainHandle.{ChainHandle}

-- a handle has this chain, these levels and this key
pub record HasParts {S A B C : Type 0} (handle : ChainHandle S A B C) (codecs : CodecChain A B C)
    (chunk : ChunkLevels) (place : List ℕ) : Type 0 where
  pub chain : handle.chain ≡ codecs
  pub levels : handle.levels ≡ chunk
  pub key : handle.key ≡ place

-- it keeps them, and the store that it borrowed
pub record KeepsHandle {S A B C : Type 0} (old new : ChainHandle S A B C) : Type 0 where
  pub chain : new.chain ≡ old.chain
  pub levels : new.levels ≡ old.levels
  pub key : new.key ≡ old.key
  pub same_reference : new.storage.ghost_name ≡ old.storage.ghost_name

-- and so does a call that reads, after which the store keeps what reading calls keep of it
pub record ReadsHandle {S A B C : Type 0} (keeps : S → S → Type 0) (old new : ChainHandle S A B C)
    : Type 0 where
  pub handle : KeepsHandle old new
  pub kept : keeps old.storage.now new.storage.now

-- a key was left absent by one writing call and no reading call, or the store failed
pub record ErasesKey {T : Type 0} (key : List ℕ) (before now : Shown)
    (result : Result T CodecError) : Type 0 where
  pub done : OnOk result (PutsKey before.content now.content key None)
  pub cut : OnErr result (MayPutKey before.content now.content key None)
  pub why : IfErr result (IsFailedRead before.faults now.faults)
  pub later : before.faults ≤ now.faults
  pub puts : now.puts ≡ counted before.puts 1
  pub asks : now.asks ≡ before.asks
  pub taken : now.taken ≡ before.taken
