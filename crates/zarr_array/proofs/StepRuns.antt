-- Commands that ran: a refused one, and a read; and one that wanted memory at once.
use Rattle.std.proofs.Common.{◌≡◌, ℕ, ◌+◌, ◌-◌, ◌^◌, ◌≤◌, ◌&&◌, Bool, true, false, if◌then◌else◌, List}
use Rattle.std.proofs.Common.{[], ◌∷◌, slice_get, Some, None, IsSome, is_some, refl, sym, ap, ◌∙◌}
use Rattle.std.proofs.Common.{subst, arith, ◌⊎◌, inl}
use Rattle.std.proofs.lemmas.Bool.{true≢false}
use Rattle.zarr_model.specs.Prelude.{Region, Element, ArrayBytes, Array, elements_in, chunks_meeting, CoversShape}
use Rattle.zarr_model.specs.Prelude.{Options, HasMet, chunk_content, passes_over, Shown, Command, read}
use Rattle.zarr_model.specs.Prelude.{Description, kind, layout, refusal, elements, answered}
use Rattle.zarr_model.specs.Prelude.{Matches, after, present_in, present_under, chunks_under}
use Rattle.zarr_model.specs.Prelude.{command_chunks, puts_chunks, counted}
use Rattle.zarr_model.specs.Prelude.{IsSound, reply_of, array_of}
use Rattle.zarr_model.proofs.FailureLaws.{cut_short-start}
use Rattle.zarr_model.proofs.StepLaws.{LeavesKeys-same, read-serves, KeepsDamage-read}
use Rattle.zarr_model.proofs.FailureLaws.{meeting_is}
use Rattle.zarr_model.proofs.SeenLaws.{SeesNoDamage-read}
use Rattle.zarr_model.proofs.RanLaws.{RanOver-unchanged, changes-stay}
use Rattle.zarr_model.proofs.MetLaws.{met-has}
use Rattle.zarr_array.specs.declared.command_error.SessionErrorKind.TheVariants.{OutOfMemory}
use Rattle.zarr_array.proofs.HasRun.{HasRun}
use Rattle.zarr_array.proofs.StoredLaws.{stores-none}
use Rattle.zarr_array.specs.Session.{FailsAt}
use Rattle.zarr_array.proofs.DecodedLaws.{decoded-start}

-- a refused command has no chunks: it asks for none, erases none and sees no damage

-- an accepted read ran, if it left the content, its chunks decoded or were passed over, and its bytes are the region of
-- each array that has the chunks met
pub read-ran : (description : Description) (options : Options) → IsSound (layout description options) →
    (region : Region) (old new : Shown) (value : ArrayBytes) →
    refusal description (read region) ≡ None → ((key : List ℕ) → new.content key ≡ old.content key) →
    ((place : ℕ) (chunk : List ℕ) → slice_get (chunks_meeting description.grid region) place ≡ Some chunk →
    IsSome (chunk_content (layout description options) old.content chunk) ⊎
    (passes_over description options old.content (read region) chunk ≡ true)) →
    ((array : Array Element) → HasMet description options region old.content array →
    Matches (kind description) (answered value) (elements (elements_in region array))) →
    new.puts ≡ old.puts → old.puts ≤ 2 ^ 64 - 1 → old.faults ≤ new.faults →
    HasRun description options (read region ∷ []) old new (answered value ∷ [])
read-ran description options sound region old new value accepted same decode right unput few later = record {
  serves = read-serves description options region old.content new.content (answered value) accepted same
      (λ array meant.
      right array (λ place chunk e. meant.each_chunk chunk (meeting_is description.grid region place chunk e).0));
  refusals = ap (λ w. w ∷ []) (sym accepted);
  refused = λ all. absurd (true≢false (sym all ∙ ap (λ w. is_some w && true) accepted));
  puts = omega (arith, unput, few);
  damage = KeepsDamage-read description options region old.content new.content same;
  erased = λ none array chunk is_chunk. ap is_some (same (description.key chunk))
      ∙ sym (ap (λ w. present_under description options w (read region) (after description (read region) array)
      (present_in description old.content) chunk) accepted);
  undamaged = SeesNoDamage-read description options region old.content
      (λ place chunk e. decode place chunk (ap (λ chunks. slice_get chunks place) (sym listed) ∙ e));
  stored = stores-none description options (read region ∷ []) old.content new.content (λ chunk. refl);
  over = RanOver-unchanged description options (read region) old.content new.content (answered value)
      (λ array. ap (λ w. array_of description w (read region) array) accepted) same
      (KeepsDamage-read description options region old.content new.content same)
      (λ unmet array meant.
      subst (λ w. Matches (kind description) (answered value) (reply_of w (read region) array)) (sym accepted)
      (right array (met-has description options sound region old.content array accepted unmet meant)));
  later = later;
}
  where
    listed : command_chunks description (read region) ≡ chunks_meeting description.grid region
    listed = ap (λ w. chunks_under description w (read region)) accepted

-- memory ran out before the first chunk of a command
pub command-starved : (description : Description) → CoversShape description.shape description.grid → (options :
    Options) → IsSound (layout description options) → (command : Command) (store : Shown) → store.puts ≤ 2 ^ 64 - 1 →
    FailsAt description options (command ∷ []) store store (Some (0, 0)) OutOfMemory
command-starved description covers options sound command store few = record {
  place = (command, refl, omega arith);
  puts = (command, refl, inl (none store.puts (puts_chunks command) few));
  keys = LeavesKeys-same description options (command ∷ []) store.content store.content (λ key. refl);
  stored = λ chunk is_chunk. inl refl;
  damage = λ chunk is_chunk damaged none. refl;
  left =
      changes-stay description options covers sound command 0 false store.content store.content (omega arith) (record {
        decoded = λ place chunk h e. absurd (omega (arith, h));
        holds = λ array place chunk is_fill h e had. absurd (omega (arith, h));
        others = λ key apart. refl;
      });
  decoded = decoded-start description options command store.content;
  cause = λ honest array meant.
      (command, refl, cut_short-start description covers options command false array store.content meant);
}
  where
    none : (n : ℕ) (b : Bool) → n ≤ 2 ^ 64 - 1 → n ≡ counted n (0 + (if b then 0 else 0))
    none n true within = omega (arith, within)
    none n false within = omega (arith, within)
