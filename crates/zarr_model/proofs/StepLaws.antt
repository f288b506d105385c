-- One command of a session: refused, or a read; and how a command's failure is one of the whole list.
use Rattle.std.proofs.Common.{◌≡◌, ℕ, zero, suc, ◌+◌, ◌<◌, ◌≤◌, Bool, true, false, List, [], ◌∷◌, ◌++◌, length, take}
use Rattle.std.proofs.Common.{sum_by, slice_get, Option, Some, None, IsSome, is_some, if◌then◌else◌, refl, sym, ap, ◌∙◌}
use Rattle.std.proofs.Common.{subst, arith, inl, inr, ⊎_elim}
use Rattle.std.specs.List.{list_any}
use Rattle.std.proofs.lemmas.List.Folds.{list_any-append}
use Rattle.std.proofs.lemmas.Bool.{or_parts, or_from, true≢false}
use Rattle.zarr_model.specs.Region.{Region}
use Rattle.zarr_model.specs.Element.{Element}
use Rattle.zarr_model.specs.Array.{Array, elements_in}
use Rattle.zarr_model.specs.Grid.{IsChunk, CoversShape}
use Rattle.zarr_model.specs.Codec.{Options}
use Rattle.zarr_model.specs.Store.{Content, Layout, IsHonest, WhollyMeans, box_content, chunk_content}
use Rattle.zarr_model.specs.Command.{Command, read, Refusal, Description, kind, layout, refusal, reply_of, array_of}
use Rattle.zarr_model.specs.Command.{after, Answer, Matches, elements, array_after}
use Rattle.zarr_model.specs.Cost.{command_chunks, asks_store, calls_of, counted, present_in, present_under}
use Rattle.zarr_model.specs.Failure.{ChunkHas, IsCutShort, FailedAt}
use Rattle.zarr_model.specs.Shown.{Shown}
use Rattle.zarr_model.specs.Causes.{IsPlace, CallsUpTo, IsLeftAt, erases_chunk, IsUndecoded, IsStopped, IsStarved}
use Rattle.zarr_model.specs.Causes.{KeepsDamage}
use Rattle.zarr_model.specs.Session.{LeavesKeys, ServesWhole}
use Rattle.zarr_model.proofs.RunLaws.{array_after-append}
use Rattle.zarr_model.proofs.FailureLaws.{listed_is_chunk}

-- a store with the same content means the same arrays
pub WhollyMeans-same : {E : Type 0} (place : Layout E) (old new : Content) (array : Array E) →
    ((key : List ℕ) → new key ≡ old key) → WhollyMeans place old array → WhollyMeans place new array
WhollyMeans-same place old new array same meant = record {
  shape = meant.shape;
  fill = meant.fill;
  each_chunk = λ chunk is_chunk.
      ap (box_content place (place.grid.chunk_box chunk)) (same (place.key chunk)) ∙ meant.each_chunk chunk is_chunk;
}

pub honest-whole : {E : Type 0} (place : Layout E) (store : Content) (array : Array E) → WhollyMeans place store array →
    IsHonest place store
honest-whole place store array meant = λ chunk is_chunk. subst IsSome (sym (meant.each_chunk chunk is_chunk)) refl

pub LeavesKeys-same : (description : Description) (options : Options) (commands : List Command) (old new : Content) →
    ((key : List ℕ) → new key ≡ old key) → LeavesKeys description options commands old new
LeavesKeys-same description options commands old new same =
    record { same_chunks = λ chunk is_chunk none. same (description.key chunk); other_keys = λ key other. same key }

-- a command that leaves the store and the array, and answers rightly
pub serves-unchanged : (description : Description) (options : Options) (command : Command) (old new : Content) (answer :
    Answer) → ((key : List ℕ) → new key ≡ old key) →
    ((array : Array Element) → after description command array ≡ array) →
    ((array : Array Element) (present : List ℕ → Bool) → present_under description options (refusal description command)
    command (after description command array) present ≡ present) →
    ((array : Array Element) → WhollyMeans (layout description options) old array →
    Matches (kind description) answer (reply_of (refusal description command) command array)) →
    ServesWhole description options (command ∷ []) old new (answer ∷ [])
serves-unchanged description options command old new answer same stays present right = record {
  answers_match = λ array meant. (right array meant, tt);
  whole_chunks = λ array meant. subst (WhollyMeans (layout description options) new) (sym (stays array))
      (WhollyMeans-same (layout description options) old new array same meant);
  presence = λ array chunk meant is_chunk.
      ap is_some (same (description.key chunk)) ∙ sym (ap (λ p. p chunk) (present array (present_in description old)));
  keys = LeavesKeys-same description options (command ∷ []) old new same;
}

read_after : (description : Description) (why : Option Refusal) (region : Region) (array : Array Element) →
    array_of description why (read region) array ≡ array
read_after description (Some why) region array = refl
read_after description None region array = refl

read_present : (description : Description) (options : Options) (why : Option Refusal)
    (region : Region) (array : Array Element) (present : List ℕ → Bool) →
    present_under description options why (read region) array present ≡ present
read_present description options (Some why) region array present = refl
read_present description options None region array present = refl

pub read-serves : (description : Description) (options : Options) (region : Region) (old new : Content) (answer :
    Answer) → refusal description (read region) ≡ None → ((key : List ℕ) → new key ≡ old key) →
    ((array : Array Element) → WhollyMeans (layout description options) old array →
    Matches (kind description) answer (elements (elements_in region array))) →
    ServesWhole description options (read region ∷ []) old new (answer ∷ [])
read-serves description options region old new answer accepted same right =
    serves-unchanged description options (read region) old new answer same
    (λ array. read_after description (refusal description (read region)) region array)
    (λ array present. read_present description options (refusal description (read region)) region
    (after description (read region) array) present)
    (λ array meant.
    subst (λ w. Matches (kind description) answer (reply_of w (read region) array)) (sym accepted) (right array meant))

-- damage stays where nothing is changed
pub KeepsDamage-none : (description : Description) (options : Options) (store : Content) →
    KeepsDamage description options [] store store
KeepsDamage-none description options store =
    record { each = λ chunk is_chunk. inr (refl, refl); stands = λ chunk is_chunk damaged none. refl }

pub KeepsDamage-read : (description : Description) (options : Options) (region : Region) (old new : Content) →
    ((key : List ℕ) → new key ≡ old key) → KeepsDamage description options (read region ∷ []) old new
KeepsDamage-read description options region old new same = record {
  each = λ chunk is_chunk.
      inr (same (description.key chunk), refl);
  stands = λ chunk is_chunk damaged none. same (description.key chunk);
}

none_erased : (description : Description) (commands more : List Command) (chunk : List ℕ) → list_any
    (erases_chunk description chunk) commands ≡ false → list_any (erases_chunk description chunk) more ≡ false →
    list_any (erases_chunk description chunk) (commands ++ more) ≡ false
none_erased description [] more chunk first second = second
none_erased description (command ∷ commands) more chunk first second =
    let parts =
    or_parts (erases_chunk description chunk command) (list_any (erases_chunk description chunk) commands) first in
    or_from (erases_chunk description chunk command) (list_any (erases_chunk description chunk)
    (commands ++ more)) parts.0 (none_erased description commands more chunk parts.1 second)

pub both_none : (description : Description) (commands more : List Command) (chunk : List ℕ) →
    list_any (erases_chunk description chunk) (commands ++ more) ≡ false →
    (list_any (erases_chunk description chunk) commands ≡ false) ×
    (list_any (erases_chunk description chunk) more ≡ false)
both_none description commands more chunk none =
    or_parts (list_any (erases_chunk description chunk) commands) (list_any (erases_chunk description chunk) more)
    (sym (list_any-append (erases_chunk description chunk) commands more) ∙ none)

pub KeepsDamage-append :
    (description : Description) (options : Options) (commands more : List Command) (old mid new : Content) →
    KeepsDamage description options commands old mid → KeepsDamage description options more mid new →
    KeepsDamage description options (commands ++ more) old new
KeepsDamage-append description options commands more old mid new first second = record {
  each = λ chunk is_chunk. ⊎_elim
      (λ (good : IsSome (chunk_content (layout description options) new chunk)). inl good)
      (λ (later : (new (description.key chunk) ≡ mid (description.key chunk)) ×
      (list_any (erases_chunk description chunk) more ≡ false)). ⊎_elim
      (λ (good : IsSome (chunk_content (layout description options) mid chunk)).
      inl (subst IsSome (sym (ap (box_content (layout description options) (description.grid.chunk_box chunk)) later.0))
      good))
      (λ (before : (mid (description.key chunk) ≡ old (description.key chunk)) ×
      (list_any (erases_chunk description chunk) commands ≡ false)).
      inr (later.0 ∙ before.0, none_erased description commands more chunk before.1 later.1))
      (first.each chunk is_chunk))
      (second.each chunk is_chunk);
  stands = λ chunk is_chunk damaged none.
      let parts = both_none description commands more chunk none in
      let before = first.stands chunk is_chunk damaged parts.0 in
      second.stands chunk is_chunk (ap (box_content (layout description options) (description.grid.chunk_box chunk))
      before ∙ damaged) parts.1 ∙ before;
}

-- the first places of a list, and one more
pub take_one : {X : Type 0} (xs : List X) (i : ℕ) (x : X) → slice_get xs i ≡ Some x →
    take (suc i) xs ≡ take i xs ++ x ∷ []
take_one [] i x e = cc
take_one (y ∷ xs) zero x e = let same : y ≡ x = cc in ap (λ z. z ∷ []) same
take_one (y ∷ xs) (suc i) x e = ap (λ l. y ∷ l) (take_one xs i x e)

-- the failure of command number m, of which the single command tells, is one of the whole list
module _ (description : Description) (options : Options) (commands : List Command)
    (m : ℕ) (command : Command) (here : slice_get commands m ≡ Some command) where
  pub place-lifts : (k : ℕ) → IsPlace description (command ∷ []) (Some (0, k)) →
      IsPlace description commands (Some (m, k))
  place-lifts k (other, is, few) = let same : other ≡ command = cc in
      (command, here, subst (λ c. k ≤ length (command_chunks description c)) same few)

  pub calls-lift : (makes : Command → Bool) (old mid now k : ℕ) → mid ≡ counted old (sum_by (calls_of makes description)
      (take m commands)) → CallsUpTo makes description (command ∷ []) mid now (Some (0, k)) →
      CallsUpTo makes description commands old now (Some (m, k))
  calls-lift makes old mid now k so_far (other, is, asked) =
      let same : other ≡ command = cc in (
        command,
        here,
        ⊎_elim
            (λ (done : now ≡ counted mid (0 + (if makes other then k else 0))). inl (more (if makes other then k else 0)
            (if makes command then k else 0) (ap (λ c. if makes c then k else 0) same) done))
            (λ (next : (k < length (command_chunks description other)) ×
            (now ≡ counted mid (0 + (if makes other then k + 1 else 0)))). inr (
              subst (λ c. k < length (command_chunks description c)) same next.0,
              more (if makes other then k + 1 else 0) (if makes command then k + 1 else 0)
                  (ap (λ c. if makes c then k + 1 else 0) same) next.1,
            ))
            asked,
      )
    where
      more : (a b : ℕ) → a ≡ b → now ≡ counted mid (0 + a) →
          now ≡ counted old (sum_by (calls_of makes description) (take m commands) + b)
      more a b e f = omega (arith, so_far, e, f)

  pub undecoded-lifts : CoversShape description.shape description.grid →
      (old mid new : Content) (key : List ℕ) (k : ℕ) → KeepsDamage description options (take m commands) old mid →
      IsUndecoded description options (command ∷ []) mid new key (Some (0, k)) →
      IsUndecoded description options commands old new key (Some (m, k))
  undecoded-lifts covers old mid new key k keeps (other, is, asks, chunk, listed, its_key, kept, none, damaged) =
      let same : other ≡ command = cc in
      let is_chunk : IsChunk description.grid chunk =
      listed_is_chunk description covers (refusal description other) other refl k chunk listed in
      ⊎_elim
      (λ (good : IsSome (chunk_content (layout description options) mid chunk)).
      absurd (true≢false (sym (subst IsSome damaged good))))
      (λ (before : (mid (description.key chunk) ≡ old (description.key chunk)) ×
      (list_any (erases_chunk description chunk) (take m commands) ≡ false)). (
        command,
        here,
        subst (λ c. asks_store c ≡ true) same asks,
        chunk,
        subst (λ c. slice_get (command_chunks description c) k ≡ Some chunk) same listed,
        its_key,
        kept ∙ (ap mid (sym its_key) ∙ (before.0 ∙ ap old its_key)),
        before.1,
        ap (box_content (layout description options) (description.grid.chunk_box chunk)) (sym before.0) ∙ damaged,
      ))
      (keeps.each chunk is_chunk)

  -- the arrays before and after the command, from the one at the start
  pub arrays_step : (array : Array Element) → array_after description (take (suc m) commands) array ≡
      after description command (array_after description (take m commands) array)
  arrays_step array = ap (λ cs. array_after description cs array) (take_one commands m command here)
      ∙ array_after-append description (take m commands) (command ∷ []) array

  left-lifts : (old mid new : Content) (by_store : Bool) (k : ℕ) →
      ((array : Array Element) → WhollyMeans (layout description options) old array →
      WhollyMeans (layout description options) mid (array_after description (take m commands) array)) →
      (IsHonest (layout description options) mid →
      IsLeftAt description options (command ∷ []) mid new by_store (Some (0, k))) →
      IsLeftAt description options commands old new by_store (Some (m, k))
  left-lifts old mid new by_store k so_far single array meant =
      let now : WhollyMeans (layout description options) mid (array_after description (take m commands) array) =
      so_far array meant in
      turn array (single (honest-whole (layout description options) mid
      (array_after description (take m commands) array) now) (array_after description (take m commands) array) now)
    where
      turn : (array : Array Element) → FailedAt description options (command ∷ []) 0 k by_store (array_after description
          (take m commands) array) new → FailedAt description options commands m k by_store array new
      turn array (other, is, cut) =
          let same : other ≡ command = cc in (
            command,
            here,
            subst (λ after_it. IsCutShort description options command k by_store
                (array_after description (take m commands) array) after_it new) (sym (arrays_step array))
                (subst (λ c. IsCutShort description options c k by_store (array_after description (take m commands)
                array) (after description command (array_after description (take m commands) array)) new) same cut),
          )

  pub stopped-lifts : (before mid now : Shown) (k : ℕ) → before.faults ≤ mid.faults →
      ((array : Array Element) → WhollyMeans (layout description options) before.content array →
      WhollyMeans (layout description options) mid.content (array_after description (take m commands) array)) →
      IsStopped description options (command ∷ []) mid now (Some (0, k)) →
      IsStopped description options commands before now (Some (m, k))
  stopped-lifts before mid now k later so_far (rose, some, single) =
      (omega (arith, rose), refl, λ honest. left-lifts before.content mid.content now.content true k so_far single)

  pub starved-lifts : (old mid new : Content) (k : ℕ) →
      ((array : Array Element) → WhollyMeans (layout description options) old array →
      WhollyMeans (layout description options) mid (array_after description (take m commands) array)) →
      IsStarved description options (command ∷ []) mid new (Some (0, k)) →
      IsStarved description options commands old new (Some (m, k))
  starved-lifts old mid new k so_far single = λ honest. left-lifts old mid new false k so_far single

-- a failed read leaves the store cut short, for it left it as it was
pub read-cut_short : (description : Description) (options : Options) (region : Region) (k : ℕ) (by_store :
    Bool) (array : Array Element) (old new : Content) → CoversShape description.shape description.grid →
    ((key : List ℕ) → new key ≡ old key) → k ≤ length (command_chunks description (read region)) →
    WhollyMeans (layout description options) old array →
    IsCutShort description options (read region) k by_store array (after description (read region) array) new
read-cut_short description options region k by_store array old new covers same few meant = record {
  few = few;
  finished = λ place chunk h e. has place chunk e;
  next = λ chunk e. inl (has_old k chunk e);
  others = λ chunk is_chunk apart. now.each_chunk chunk is_chunk;
}
  where
    now : WhollyMeans (layout description options) new array
    now = WhollyMeans-same (layout description options) old new array same meant

    has_old : (place : ℕ) (chunk : List ℕ) → slice_get (command_chunks description (read region)) place ≡ Some chunk →
        ChunkHas (layout description options) new array chunk
    has_old place chunk e = now.each_chunk chunk
        (listed_is_chunk description covers (refusal description (read region)) (read region) refl place chunk e)

    has : (place : ℕ) (chunk : List ℕ) → slice_get (command_chunks description (read region)) place ≡ Some chunk →
        ChunkHas (layout description options) new (after description (read region) array) chunk
    has place chunk e = subst (λ a. ChunkHas (layout description options) new a chunk)
        (sym (read_after description (refusal description (read region)) region array)) (has_old place chunk e)

pub read-left : (description : Description) (options : Options) (region : Region) (k : ℕ) (by_store : Bool) (old new :
    Content) → CoversShape description.shape description.grid →
    ((key : List ℕ) → new key ≡ old key) → k ≤ length (command_chunks description (read region)) →
    IsLeftAt description options (read region ∷ []) old new by_store (Some (0, k))
read-left description options region k by_store old new covers same few array meant =
    (read region, refl, read-cut_short description options region k by_store array old new covers same few meant)
