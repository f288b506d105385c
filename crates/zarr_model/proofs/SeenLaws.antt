-- Damaged values: commands that went through saw none.
use Rattle.std.proofs.Common.{◌≡◌, ℕ, true, zero, suc, ◌+◌, ◌-◌, ◌<◌, ◌≤◌, ◌⊎◌, false, List, [], ◌∷◌, ◌++◌, length}
use Rattle.std.proofs.Common.{take, slice_get, Contains, Some, IsSome, refl, sym, ap, ◌∙◌, subst, arith, ⊎_elim}
use Rattle.std.specs.List.{list_any}
use Rattle.std.proofs.lemmas.Bool.{true≢false}
use Rattle.std.proofs.lemmas.List.{take-append-le}
use Rattle.std.proofs.Math.Seq.{take-append-add}
use Rattle.zarr_model.specs.Prelude.{Region, IsChunk, CoversShape, Options, Content, box_content, chunk_content}
use Rattle.zarr_model.specs.Prelude.{Command, read, write, erase, Description, layout, refusal, command_chunks}
use Rattle.zarr_model.specs.Prelude.{erases_chunk, KeepsDamage, finds_shared, passes_over, IsDamageSeen, SeesNoDamage}
use Rattle.zarr_model.proofs.FailureLaws.{listed_is_chunk}
use Rattle.zarr_model.proofs.StepLaws.{both_none}
use Rattle.zarr_model.proofs.DamageLaws.{listed_at, slice_get-left, slice_get-right, below_or_past}

pub SeesNoDamage-none : (description : Description) (options : Options) (store : Content) →
    SeesNoDamage description options [] store
SeesNoDamage-none description options store = record { no_key = unmet }
  where
    unmet : (key : List ℕ) → IsDamageSeen description options [] store key → ⊥
    unmet key (zero, command, is, _, _, _, _, _, _, _) = cc
    unmet key (suc m, command, is, _, _, _, _, _, _, _) = cc

-- a read all of whose chunks decode
pub SeesNoDamage-read : (description : Description) (options : Options) (region : Region) (store : Content) →
    ((k : ℕ) (chunk : List ℕ) → slice_get (command_chunks description (read region)) k ≡ Some chunk →
    IsSome (chunk_content (layout description options) store chunk)
    ⊎ (passes_over description options store (read region) chunk ≡ true)) →
    SeesNoDamage description options (read region ∷ []) store
SeesNoDamage-read description options region store decode = record { no_key = unmet }
  where
    unmet : (key : List ℕ) → IsDamageSeen description options (read region ∷ []) store key → ⊥
    unmet key (zero, command, is, asks, chunk, met, its_key, none, damaged, noticed) =
        let same : read region ≡ command = cc in
        let (k, here) = listed_at (command_chunks description (read region)) chunk
        (subst (λ c. Contains (command_chunks description c) chunk) (sym same) met) in
        ⊎_elim (λ (some : IsSome (chunk_content (layout description options) store chunk)). true≢false
        (sym (subst IsSome damaged some)))
        (λ (passed : passes_over description options store (read region) chunk ≡ true). true≢false
        (sym passed ∙ (ap (λ (c : Command). passes_over description options store c chunk) same ∙ noticed)))
        (decode k chunk here)
    unmet key (suc m, command, is, _, _, _, _, _, _, _) = cc

-- what a command passes over is told by what stands under the key
passes_over-same : (description : Description) (options : Options) (mid old : Content) (command : Command)
    (chunk : List ℕ) → mid (description.key chunk) ≡ old (description.key chunk) →
    passes_over description options mid command chunk ≡ passes_over description options old command chunk
passes_over-same description options mid old (read region) chunk e =
    ap (finds_shared description options region chunk) e
passes_over-same description options mid old (write region value) chunk e = refl
passes_over-same description options mid old (erase other) chunk e = refl

-- some commands, and then more
pub SeesNoDamage-append : (description : Description) (options : Options) →
    CoversShape description.shape description.grid → (commands more : List Command) (old mid : Content) →
    KeepsDamage description options commands old mid → SeesNoDamage description options commands old →
    SeesNoDamage description options more mid →
    SeesNoDamage description options (commands ++ more) old
SeesNoDamage-append description options covers commands more old mid keeps first second = record { no_key = unmet }
  where
    unmet : (key : List ℕ) → IsDamageSeen description options (commands ++ more) old key → ⊥
    unmet key (m, command, is, asks, chunk, met, its_key, none, damaged, noticed) = ⊎_elim
        (λ (below : m < length commands). first.no_key key (
          m,
          command,
          sym (slice_get-left commands more m below) ∙ is,
          asks,
          chunk,
          met,
          its_key,
          subst (λ l. list_any (erases_chunk description chunk) l ≡ false)
              (take-append-le m commands more (omega (arith, below))) none,
          damaged,
          noticed,
        ))
        (λ (past : length commands ≤ m).
        let at : m ≡ length commands + (m - length commands) = omega (arith, past) in
        let (k, here) = listed_at (command_chunks description command) chunk met in
        let is_chunk : IsChunk description.grid chunk =
        listed_is_chunk description covers (refusal description command) command refl k chunk here in
        let parts = both_none description commands (take (m - length commands) more) chunk
        (subst (λ l. list_any (erases_chunk description chunk) l ≡ false) (ap (λ i. take i (commands ++ more)) at
        ∙ take-append-add commands more (m - length commands)) none) in
        second.no_key key (
          m - length commands,
          command,
          sym (slice_get-right commands more (m - length commands))
              ∙ (ap (slice_get (commands ++ more)) (sym at) ∙ is),
          asks,
          chunk,
          met,
          its_key,
          parts.1,
          ap (box_content (layout description options) (description.grid.chunk_box chunk))
              (keeps.stands chunk is_chunk damaged parts.0) ∙ damaged,
          passes_over-same description options mid old command chunk (keeps.stands chunk is_chunk damaged parts.0)
              ∙ noticed,
        ))
        (below_or_past m (length commands))
