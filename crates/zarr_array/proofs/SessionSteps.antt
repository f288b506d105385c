-- Why commands end early, and the refusals among them.
use Rattle.std.proofs.Common.{false, ◌≡◌, ℕ, zero, suc, ◌&&◌, List, [], ◌∷◌, take, slice_get, Option, Some, None}
use Rattle.std.proofs.Common.{IsSome, is_some, option_and_then, refl, sym, ap, ap₂, ◌∙◌, subst, ⊎_elim}
use Rattle.std.specs.List.{list_all, list_any}
use Rattle.std.proofs.lemmas.Bool.{and_parts, true≢false}
use Rattle.zarr_model.specs.Prelude.{IsChunk, CoversShape, Options, Content, IsHonest, Shown, Command, Description}
use Rattle.zarr_model.specs.Prelude.{layout, chunk_content, command_chunks, erases_chunk, passes_over, refusal}
use Rattle.zarr_model.specs.Prelude.{IsUndecoded, KeepsDamage, Rose, AreRefused, MeetsNoDamage}
use Rattle.std.proofs.lemmas.Option.{same_Some}
use Rattle.zarr_model.proofs.FailureLaws.{listed_is_chunk}
use Rattle.zarr_model.proofs.RanLaws.{undecoded-unmet}
use Rattle.zarr_array.specs.declared.command_error.SessionErrorKind.{SessionErrorKind}
use Rattle.zarr_array.specs.declared.command_error.SessionErrorKind.TheVariants.{NotOpened, ChunkDecode, Store}
use Rattle.zarr_array.specs.declared.command_error.SessionErrorKind.TheVariants.{OutOfMemory}
use Rattle.zarr_array.specs.Access.{Says}
use Rattle.zarr_array.specs.Tells.{TellsOfSome}
use Rattle.zarr_array_boxes.specs.Command.{region_read, region_at}
use Rattle.zarr_array.specs.Session.{HasSessionCause, IsNoticed}
use Rattle.zarr_array.proofs.DecodedLaws.{passes_over-same}

-- over an honest store, with no rise of the count, memory alone is wanting
pub only_memory : (description : Description) (options : Options) → CoversShape description.shape description.grid →
    (commands : List Command) (before now : Shown) (at : Option (ℕ × ℕ)) (kind : SessionErrorKind) →
    HasSessionCause description options commands before now at kind →
    IsHonest (layout description options) before.content → (Rose before.faults now.faults → ⊥) → kind ≡ OutOfMemory
only_memory description options covers commands before now at (NotOpened error) cause honest calm = absurd cause
only_memory description options covers commands before now None (ChunkDecode key error) cause honest calm =
    absurd cause.0
only_memory description options covers commands before now (Some place) (ChunkDecode key error)
    ((command, which, asks, chunk, listed, its_key, kept, none, damaged), noticed) honest calm =
    absurd (true≢false (sym (subst IsSome damaged (honest chunk
    (listed_is_chunk description covers (refusal description command) command refl place.1 chunk listed)))))
only_memory description options covers commands before now at Store cause honest calm = absurd (calm cause.0)
only_memory description options covers commands before now at OutOfMemory cause honest calm = refl

-- over any store where no damage is met, too
pub only_memory_unmet : (description : Description) (options : Options) (commands : List Command)
    (before now : Shown) (at : Option (ℕ × ℕ)) (kind : SessionErrorKind) →
    HasSessionCause description options commands before now at kind →
    MeetsNoDamage description options commands before.content → (Rose before.faults now.faults → ⊥) → kind ≡ OutOfMemory
only_memory_unmet description options commands before now at (NotOpened error) cause unmet calm = absurd cause
only_memory_unmet description options commands before now at (ChunkDecode key error) cause unmet calm =
    absurd (undecoded-unmet description options commands before.content now.content key at unmet cause.0)
only_memory_unmet description options commands before now at Store cause unmet calm = absurd (calm cause.0)
only_memory_unmet description options commands before now at OutOfMemory cause unmet calm = refl

-- what one command may not pass over, behind others, the list may not
pub noticed-lifts : (description : Description) (options : Options) (commands : List Command)
    (m : ℕ) (command : Command) → slice_get commands m ≡ Some command → CoversShape description.shape description.grid →
    (old mid new : Content) (key : List ℕ) (k : ℕ) → KeepsDamage description options (take m commands) old mid →
    IsUndecoded description options (command ∷ []) mid new key (Some (0, k)) →
    IsNoticed description options (command ∷ []) mid (Some (0, k)) →
    IsNoticed description options commands old (Some (m, k))
noticed-lifts description options commands m command here covers old mid new key k keeps
    (first, is, asks, damaged, listed, its_key, kept, none, undecoded) (other, too, chunk, met, noticed) =
    let same : other ≡ command = same_Some other command (sym too) in
    let own : first ≡ other = same_Some first other (sym is ∙ too) in
    let its : damaged ≡ chunk =
    same_Some damaged chunk (sym listed ∙ (ap (λ c. slice_get (command_chunks description c) k) own ∙ met)) in
    let is_chunk : IsChunk description.grid damaged =
    listed_is_chunk description covers (refusal description first) first refl k damaged listed in
    ⊎_elim
    (λ (good : IsSome (chunk_content (layout description options) mid damaged)).
    absurd (true≢false (sym (subst IsSome undecoded good))))
    (λ (before : (mid (description.key damaged) ≡ old (description.key damaged)) ×
    (list_any (erases_chunk description damaged) (take m commands) ≡ false)). (
      command,
      here,
      chunk,
      subst (λ c. slice_get (command_chunks description c) k ≡ Some chunk) same met,
      passes_over-same description options old mid command chunk
          (sym (subst (λ c. mid (description.key c) ≡ old (description.key c)) its before.0))
          ∙ (ap (λ (c : Command). passes_over description options mid c chunk) (sym same) ∙ noticed),
    ))
    (keeps.each damaged is_chunk)

-- each command of refused ones is refused
pub refused_at : (description : Description) (commands : List Command) (i : ℕ) (command : Command) →
    slice_get commands i ≡ Some command → AreRefused description commands → AreRefused description (command ∷ [])
refused_at description [] i command e all = cc
refused_at description (first ∷ commands) zero command e all =
    let same : first ≡ command = cc in
    ap₂ (λ a b. a && b) (ap (λ c. is_some (refusal description c)) (sym same) ∙ (and_parts
    (is_some (refusal description first)) (list_all (λ c. is_some (refusal description c)) commands) all).0) refl
refused_at description (first ∷ commands) (suc i) command e all =
    refused_at description commands i command e
    (and_parts (is_some (refusal description first)) (list_all (λ c. is_some (refusal description c)) commands) all).1

-- what an error of one command tells is told of the list
pub told_at : (description : Description) (says : Says) (options : Options) (now : Shown) (kind :
    SessionErrorKind) (commands : List Command) (i k : ℕ) (command : Command) → slice_get commands i ≡ Some command →
    TellsOfSome (region_read command) description says options now kind →
    TellsOfSome (region_at commands (Some (i, k))) description says options now kind
told_at description says options now kind commands i k command here told =
    subst (λ (o : Option Command). TellsOfSome (option_and_then region_read o) description says options now kind)
    (sym here) told
