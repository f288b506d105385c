-- Why a chunk was not fetched, by the error of the call.
use Rattle.std.proofs.Common.{◌≡◌, ◌⊎◌, inl, inr, ℕ, false, List, Option, None, refl, sym, subst}
use Rattle.zarrs_codec_traits.specs.Prelude.{Region, Options, Shown, chunk_content, layout, IsHandleError}
use Rattle.zarrs_storage.specs.declared.store.StorageError.{StorageError}
use Rattle.zarrs_codec_error.specs.declared.error.CodecError.{CodecError}
use Rattle.zarrs_codec_error.specs.declared.error.CodecError.TheVariants as codec
use Rattle.zarr_array.specs.Access.{Access, described, stored_by}
use Rattle.zarr_array.specs.Asked.{finds_asked}
use Rattle.zarr_array.specs.Chunk.{chunk_kind, FailsToFetch}
use Rattle.zarr_array.specs.Fetch.{HasRead, NotFetched}
use Rattle.zarr_array.specs.Pays.{PaysAtMost}
use Rattle.zarr_array.specs.Tells.{TellsOf}
use Rattle.zarr_array.specs.declared.command_error.SessionErrorKind.{SessionErrorKind}
use Rattle.zarr_array.proofs.ChunkLaws.{by_kind}
use Rattle.zarr_array.proofs.TellsLaws.{told_of_storage}

module _ (array : Access) (options : Options) (chunk : List ℕ) (asked : Option Region)
    (before now : Shown) (error : CodecError) where
  abbrev its_key : List ℕ
  its_key = (described array).key chunk

  -- what stands under its key does not decode and does not hold what was asked for, which the error
  -- tells, and it is no error of the store's
  pub record Undecoded : Type 0 where
    pub content : chunk_content (layout (described array) options) before.content chunk ≡ None
    pub unfound : finds_asked (described array) options chunk asked (before.content its_key) ≡ false
    pub said : stored_by array.says options chunk asked (before.content its_key) error
    pub unlike : (fault : StorageError) → error ≡ codec.StorageError fault → ⊥

  abbrev pub Unfetched : Type 0
  Unfetched = IsHandleError before.faults now.faults error ⊎ Undecoded

  abbrev Fails : List ℕ → SessionErrorKind → Type 0
  Fails key kind = FailsToFetch (chunk_content (layout (described array) options) before.content chunk)
      (finds_asked (described array) options chunk asked (before.content its_key)) key before now kind

  abbrev Tells : SessionErrorKind → Type 0
  Tells kind = TellsOf (described array) array.says options chunk asked now kind

  module _ (read : HasRead before now) where
    failed : Unfetched → Fails its_key (chunk_kind its_key error)
    failed (inl (inl memory)) = subst (λ e. Fails its_key (chunk_kind its_key e)) (sym memory) tt
    failed (inl (inr fault)) = subst (λ e. Fails its_key (chunk_kind its_key e)) (sym fault.0) fault.1
    failed (inr why) =
        by_kind Fails its_key error (λ fault is. absurd (why.unlike fault is)) tt (refl, why.content, why.unfound)

    told : Unfetched → Tells (chunk_kind its_key error)
    told (inl (inl memory)) = subst (λ e. Tells (chunk_kind its_key e)) (sym memory) tt
    told (inl (inr fault)) = subst (λ e. Tells (chunk_kind its_key e)) (sym fault.0) tt
    told (inr why) = by_kind (λ key kind. Tells kind) its_key error
        (λ fault is. told_of_storage (described array) array.says options chunk asked now fault) tt
        (refl, subst (λ v. stored_by array.says options chunk asked v error) (sym (read.same its_key)) why.said)

    pub not_fetched : PaysAtMost array.costs before now → Unfetched →
        NotFetched asked array options chunk before now (chunk_kind its_key error)
    not_fetched paid why = record {
      same = read.same;
      paid = paid;
      puts = read.puts;
      later = read.later;
      failed = failed why;
      told = told why;
    }
