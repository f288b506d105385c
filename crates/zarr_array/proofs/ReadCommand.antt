-- A read as a command of a session.
use Rattle.std.proofs.Common.{◌≡◌, ◌-◌, ◌^◌, ◌≤◌, true, false, [], ◌∷◌, length, slice_get, Some, None, refl, sym, ap}
use Rattle.std.proofs.Common.{◌∙◌, subst, arith, inl}
use Rattle.zarr_model.specs.Prelude.{Region, chunks_meeting, Options, Shown, read, Description, region_refusal}
use Rattle.zarr_model.specs.Prelude.{chunks_under, command_chunks, finds_shared, array_of}
use Rattle.zarr_model.proofs.StepLaws.{LeavesKeys-same, read-left}
use Rattle.zarr_model.proofs.RanLaws.{unchanged-left}
use Rattle.zarr_array.specs.Access.{Access, IsServed, described}
use Rattle.zarr_array.specs.declared.command_error.CommandError.{CommandError}
use Rattle.zarr_array.specs.declared.command_error.SessionErrorKind.{SessionErrorKind}
use Rattle.zarr_array.specs.declared.command_error.SessionErrorKind.TheVariants.{NotOpened, ChunkDecode, Store}
use Rattle.zarr_array.specs.declared.command_error.SessionErrorKind.TheVariants.{OutOfMemory}
use Rattle.zarr_array.specs.Read.{HasReadCause, NotReadRegion}
use Rattle.zarr_array.specs.Session.{HasSessionCause, FailsAt, is_store}
use Rattle.zarr_array.proofs.DecodedLaws.{decoded-one}

-- the chunks of an accepted read
pub chunks-read : (description : Description) (region : Region) → region_refusal description region ≡ None →
    command_chunks description (read region) ≡ chunks_meeting description.grid region
chunks-read description region accepted = ap (λ why. chunks_under description why (read region)) accepted

-- a read that failed
pub read-fails : (array : Access) (served : IsServed (described array)) (options : Options) (region : Region) (old new :
    Shown) (error : CommandError) → region_refusal (described array) region ≡ None →
    NotReadRegion array options region old new error → new.puts ≡ old.puts → old.puts ≤ 2 ^ 64 - 1 →
    FailsAt (described array) options (read region ∷ []) old new (Some (0, error.chunks_done)) error.kind
read-fails array served options region old new error accepted fails unput few_puts = record {
  place = (read region, refl, few);
  puts = (read region, refl, inl (omega (arith, unput, few_puts)));
  keys = LeavesKeys-same (described array) options (read region ∷ []) old.content new.content fails.same;
  stored = λ chunk is_chunk. inl (fails.same ((described array).key chunk));
  damage = λ chunk is_chunk damaged none. fails.same ((described array).key chunk);
  left = unchanged-left (described array) options served.covers (served.sound options) (read region) error.chunks_done
      (is_store error.kind) old.content new.content few
      (λ a. ap (λ w. array_of (described array) w (read region) a) accepted) fails.same;
  decoded = decoded-one (described array) options (read region) old.content error.chunks_done
      (λ number chunk below here. fails.readable number chunk below (ap (λ l. slice_get l number) (sym listed) ∙ here));
  cause = by_kind error.kind fails.failed.cause;
}
  where
    listed : command_chunks (described array) (read region) ≡ chunks_meeting (described array).grid region
    listed = chunks-read (described array) region accepted

    few : error.chunks_done ≤ length (command_chunks (described array) (read region))
    few = subst (λ l. error.chunks_done ≤ length l) (sym listed) fails.failed.few

    by_kind : (kind : SessionErrorKind) → HasReadCause (described array) options region error.chunks_done old new kind →
        HasSessionCause (described array) options (read region ∷ []) old new (Some (0, error.chunks_done)) kind
    by_kind (NotOpened why) cause = cause
    by_kind (ChunkDecode key why) (chunk, here, its_key, damaged, unfound) =
        let there : slice_get (command_chunks (described array) (read region)) error.chunks_done ≡ Some chunk =
        ap (λ l. slice_get l error.chunks_done) listed ∙ here in (
          (read region, refl, refl, chunk, there, its_key, fails.same key, refl, damaged),
          (
            read region,
            refl,
            chunk,
            there,
            ap (λ k. finds_shared (described array) options region chunk (old.content k)) its_key ∙ unfound,
          ),
        )
    by_kind Store cause = (
      cause,
      refl,
      λ honest. read-left (described array) options region error.chunks_done true
          old.content new.content served.covers fails.same few,
    )
    by_kind OutOfMemory cause = λ honest. read-left (described array) options region error.chunks_done false old.content
        new.content served.covers fails.same few
