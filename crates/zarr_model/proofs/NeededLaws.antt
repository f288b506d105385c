-- The bytes of commands add up, each command's by the chunks that are present before it.
use Rattle.std.proofs.Common.{◌≡◌, ℕ, ◌+◌, ◌-◌, ◌*◌, ◌^◌, ◌<◌, ◌≤◌, Bool, true, false, not, ◌&&◌, ◌||◌, List, [], ◌∷◌}
use Rattle.std.proofs.Common.{◌++◌, length, filter, cond, if◌then◌else◌, Option, Some, None, bytes_eq, refl, sym, ap}
use Rattle.std.proofs.Common.{ap₂, ◌∙◌, subst, arith, inl, inr}
use Rattle.std.specs.List.{list_any, sum_by, AllByRecursion}
use Rattle.std.specs.Prelude.{unwrap_or}
use Rattle.std.proofs.lemmas.Bool.{and_parts, or_parts, or_from}
use Rattle.std.proofs.lemmas.List.Sums.{sum_by-cons}
use Rattle.zarr_model.specs.Prelude.{Region, count, contains, tuples, Element, fixed_size, Array, Options, Content}
use Rattle.zarr_model.specs.Prelude.{WhollyMeans, Command, read, write, erase, Refusal, Description, kind, layout}
use Rattle.zarr_model.specs.Prelude.{refusal, after, array_after, Answer, IsChunk, chunks_meeting, share_tuple, whole}
use Rattle.zarr_model.specs.Prelude.{present_in, present_under, present_after, is_among, is_blank, bytes_under}
use Rattle.zarr_model.specs.Prelude.{all_bytes, counted, Shown, ServesWhole, ArrayBytes, is_write, are_none}
use Rattle.zarr_model.specs.Prelude.{writes_last, TellsPresence, TakesNeeded, ErasesKeys, read_bytes, write_bytes}
use Rattle.std.proofs.lemmas.List.Elements.{recursion_from_All}
use Rattle.zarr_model.proofs.RegionLaws.{length-tuples, get_or-tuples, contains-tuple_at}
use Rattle.zarr_model.proofs.SessionLaws.{present_after-append}
use Rattle.zarr_model.proofs.Choices.{not_true}

pub none_taken : (description : Description) (options : Options) (store : Shown) → store.taken ≤ 2 ^ 64 - 1 →
    TakesNeeded description options [] store store
none_taken description options store fits array tells = omega (arith, fits)

-- one sum after another
counted_more : (a b c : ℕ) → counted (counted a b) c ≡ counted a (b + c)
counted_more a b c = omega arith

-- the bytes of one list of commands and then another
all_bytes-append : (description : Description) (options : Options) (commands more : List Command)
    (array : Array Element) (present : List ℕ → Bool) →
    all_bytes description options (commands ++ more) array present
    ≡ all_bytes description options commands array present + all_bytes description options more
    (array_after description commands array) (present_after description options commands array present)
all_bytes-append description options [] more array present = let e : all_bytes description options more array present
    ≡ 0 + all_bytes description options more array present = omega arith in e
all_bytes-append description options (command ∷ commands) more array present =
    let next : List ℕ → Bool = present_under description options (refusal description command) command
    (after description command array) present in
    let rest : all_bytes description options (commands ++ more) (after description command array) next
    ≡ all_bytes description options commands (after description command array) next + all_bytes description options
    more (array_after description commands (after description command array))
    (present_after description options commands (after description command array) next)
    = all_bytes-append description options commands more (after description command array) next in
    ap (λ (n : ℕ). bytes_under description (refusal description command) command present + n) rest
    ∙ add_assoc (bytes_under description (refusal description command) command present) _ _
  where
    add_assoc : (a b c : ℕ) → a + (b + c) ≡ a + b + c
    add_assoc a b c = omega arith

-- chunks that a filter gives of chunks of a grid are chunks of it
all_chunks : (description : Description) (test : List ℕ → Bool) (list : List (List ℕ)) →
    AllByRecursion (IsChunk description.grid) list → (p q : List ℕ → Bool) →
    ((chunk : List ℕ) → IsChunk description.grid chunk → p chunk ≡ q chunk) →
    filter p (filter test list) ≡ filter q (filter test list)
all_chunks description test [] all p q same = refl
all_chunks description test (chunk ∷ list) all p q same =
    go (test chunk) (all_chunks description test list all.1 p q same)
  where
    go : (b : Bool) → filter p (filter test list) ≡ filter q (filter test list) →
        filter p (cond b (chunk ∷ filter test list) (filter test list))
        ≡ filter q (cond b (chunk ∷ filter test list) (filter test list))
    go true rest = ap₂ (λ (c : Bool) (l : List (List ℕ)). cond c (chunk ∷ l) l) (same chunk all.0) rest
    go false rest = rest

grid_chunks : (description : Description) → AllByRecursion (IsChunk description.grid)
    (tuples (whole description.grid.grid_shape))
grid_chunks description = recursion_from_All (IsChunk description.grid) (tuples (whole description.grid.grid_shape))
    (λ k d h.
    let below : k < count (whole description.grid.grid_shape) =
    subst (λ (n : ℕ). k < n) (length-tuples (whole description.grid.grid_shape)) h in
    subst (λ (t : List ℕ). contains (whole description.grid.grid_shape) t ≡ true)
    (sym (get_or-tuples (whole description.grid.grid_shape) k d below))
    (contains-tuple_at (whole description.grid.grid_shape) k below))

present_meeting : (description : Description) (region : Region) (p q : List ℕ → Bool) →
    ((chunk : List ℕ) → IsChunk description.grid chunk → p chunk ≡ q chunk) →
    filter p (chunks_meeting description.grid region) ≡ filter q (chunks_meeting description.grid region)
present_meeting description region p q same =
    all_chunks description (λ chunk. share_tuple (description.grid.chunk_box chunk) region)
    (tuples (whole description.grid.grid_shape)) (grid_chunks description) p q same

-- the bytes of a command depend on the presence of the grid's chunks alone
bytes_under-same : (description : Description) (why : Option Refusal) (command : Command) (p q : List ℕ → Bool) →
    ((chunk : List ℕ) → IsChunk description.grid chunk → p chunk ≡ q chunk) →
    bytes_under description why command p ≡ bytes_under description why command q
bytes_under-same description (Some why) command p q same = refl
bytes_under-same description None (read region) p q same =
    ap (λ (l : List (List ℕ)). unwrap_or (fixed_size (kind description)) 0 * sum_by
    (λ chunk. length (filter (contains (description.grid.chunk_box chunk)) (tuples region))) l)
    (present_meeting description region p q same)
bytes_under-same description None (write region value) p q same =
    ap (λ (l : List (List ℕ)). unwrap_or (fixed_size (kind description)) 0 * sum_by
    (λ chunk. count (description.grid.chunk_box chunk)) l) (present_meeting description region p q same)
bytes_under-same description None (erase chunk) p q same = refl

present_under-same : (description : Description) (options : Options) (why : Option Refusal) (command : Command)
    (array : Array Element) (p q : List ℕ → Bool) (chunk : List ℕ) → p chunk ≡ q chunk →
    present_under description options why command array p chunk ≡ present_under description options why command array
    q chunk
present_under-same description options (Some why) command array p q chunk e = e
present_under-same description options None (read region) array p q chunk e = e
present_under-same description options None (write region value) array p q chunk e =
    ap (λ (b : Bool). if is_among (chunks_meeting description.grid region) chunk then options.store_empty_chunks ||
    not (is_blank description array chunk) else b) e
present_under-same description options None (erase own) array p q chunk e =
    ap (λ (b : Bool). if bytes_eq chunk own then false else b) e

-- before the last command of a list in which none follows a write there is no write
not_none : (commands : List Command) (command : Command) → are_none (commands ++ command ∷ []) ≡ false
not_none [] command = refl
not_none (first ∷ commands) command = refl

before_last : (commands : List Command) (command : Command) → writes_last (commands ++ command ∷ []) ≡ true →
    (list_any is_write commands ≡ false) × (writes_last commands ≡ true)
before_last [] command e = (refl, refl)
before_last (first ∷ commands) command e =
    let parts = and_parts (are_none (commands ++ command ∷ []) || not (is_write first))
    (writes_last (commands ++ command ∷ [])) e in
    let reads : is_write first ≡ false =
    not_true (is_write first) (ap (λ (b : Bool). b || not (is_write first)) (sym (not_none commands command))
    ∙ parts.0) in
    let rest = before_last commands command parts.1 in (
      ap₂ (λ (a b : Bool). a || b) reads rest.0,
      ap₂ (λ (a b : Bool). (are_none commands || not a) && b) reads rest.1 ∙ ends (are_none commands),
    )
  where
    ends : (b : Bool) → ((b || not false) && true) ≡ true
    ends true = refl
    ends false = refl

module _ (description : Description) (options : Options) (commands : List Command) (command : Command)
    (before mid now : Shown) where
  pub one_more_taken : ((array : Array Element) → WhollyMeans (layout description options) before.content array →
      (answers : List Answer) × ServesWhole description options commands before.content mid.content answers) →
      ErasesKeys description options commands before.content mid.content →
      TakesNeeded description options commands before mid → TakesNeeded description options (command ∷ []) mid now →
      TakesNeeded description options (commands ++ command ∷ []) before now
  one_more_taken serves erases first second array tells =
      let start : List ℕ → Bool = present_in description before.content in
      let left : Array Element = array_after description commands array in
      let kept : List ℕ → Bool = present_after description options commands array start in
      let here : mid.taken ≡ counted before.taken (all_bytes description options commands array start) =
      first array (earlier tells) in
      let later : now.taken
      ≡ counted mid.taken (all_bytes description options (command ∷ []) left (present_in description mid.content))
      = second left (inr refl) in
      let same : all_bytes description options (command ∷ []) left (present_in description mid.content)
      ≡ all_bytes description options (command ∷ []) left kept =
      ap (λ (n : ℕ). n + 0)
      (bytes_under-same description (refusal description command) command (present_in description mid.content)
      kept (λ chunk is_chunk. present tells chunk is_chunk)) in
      later
      ∙ (ap₂ (λ (a b : ℕ). counted a b) here same
      ∙ (counted_more before.taken (all_bytes description options commands array start)
      (all_bytes description options (command ∷ []) left kept)
      ∙ ap (counted before.taken) (sym (all_bytes-append description options commands (command ∷ []) array start))))
    where
      earlier : TellsPresence description options (commands ++ command ∷ []) before.content array →
          TellsPresence description options commands before.content array
      earlier (inl meant) = inl meant
      earlier (inr last) = inr (before_last commands command last).1

      present : TellsPresence description options (commands ++ command ∷ []) before.content array → (chunk : List ℕ) →
          IsChunk description.grid chunk →
          present_in description mid.content chunk ≡ present_after description options commands array
          (present_in description before.content) chunk
      present (inl meant) chunk is_chunk = (serves array meant).1.presence array chunk meant is_chunk
      present (inr last) chunk is_chunk = erases (before_last commands command last).0 array chunk is_chunk

  pub one_more_erased : ErasesKeys description options commands before.content mid.content →
      ErasesKeys description options (command ∷ []) mid.content now.content →
      ErasesKeys description options (commands ++ command ∷ []) before.content now.content
  one_more_erased first second none array chunk is_chunk =
      let parts = split commands none in
      let left : Array Element = array_after description commands array in
      second parts.1 left chunk is_chunk
      ∙ (present_under-same description options (refusal description command) command (after description command left)
      (present_in description mid.content)
      (present_after description options commands array (present_in description before.content)) chunk
      (first parts.0 array chunk is_chunk)
      ∙ ap (λ (p : List ℕ → Bool). p chunk)
      (sym (present_after-append description options commands (command ∷ []) array
      (present_in description before.content))))
    where
      split : (list : List Command) → list_any is_write (list ++ command ∷ []) ≡ false →
          (list_any is_write list ≡ false) × (list_any is_write (command ∷ []) ≡ false)
      split [] e = (refl, e)
      split (first ∷ list) e =
          let parts = or_parts (is_write first) (list_any is_write (list ++ command ∷ [])) e in
          let rest = split list parts.1 in
          (or_from (is_write first) (list_any is_write list) parts.0 rest.0, rest.1)

-- the bytes of the chunks that are present, one by one
pub sum_present : {A : Type 0} (size : ℕ) (test : A → Bool) (many : A → ℕ) (xs : List A) →
    sum_by (λ x. if test x then size * many x else 0) xs ≡ size * sum_by many (filter test xs)
sum_present size test many [] = let e : 0 ≡ size * 0 = omega arith in e
sum_present size test many (x ∷ xs) = sum_by-cons (λ y. if test y then size * many y else 0) x xs
    ∙ go (test x) (sum_present size test many xs)
  where
    go : (b : Bool) → sum_by (λ x. if test x then size * many x else 0) xs ≡ size * sum_by many (filter test xs) →
        (if b then size * many x else 0) + sum_by (λ x. if test x then size * many x else 0) xs
        ≡ size * sum_by many (cond b (x ∷ filter test xs) (filter test xs))
    go true rest =
        let more : size * many x + size * sum_by many (filter test xs)
        ≡ size * (many x + sum_by many (filter test xs)) = omega arith in
        ap (λ (n : ℕ). size * many x + n) rest
        ∙ (more ∙ ap (λ (n : ℕ). size * n) (sym (sum_by-cons many x (filter test xs))))
    go false rest =
        let none : 0 + sum_by (λ x. if test x then size * many x else 0) xs
        ≡ sum_by (λ x. if test x then size * many x else 0) xs = omega arith in
        none ∙ rest

-- so what a command needs is what it needs of each of its chunks
pub read_needs : (description : Description) (region : Region) (store : Content) →
    bytes_under description None (read region) (present_in description store)
    ≡ sum_by (read_bytes description region store) (chunks_meeting description.grid region)
read_needs description region store =
    sym (sum_present (unwrap_or (fixed_size (kind description)) 0) (present_in description store)
    (λ chunk. length (filter (contains (description.grid.chunk_box chunk)) (tuples region)))
    (chunks_meeting description.grid region))

pub write_needs : (description : Description) (region : Region) (bytes : ArrayBytes) (store : Content) →
    bytes_under description None (write region bytes) (present_in description store)
    ≡ sum_by (write_bytes description store) (chunks_meeting description.grid region)
write_needs description region bytes store =
    sym (sum_present (unwrap_or (fixed_size (kind description)) 0) (present_in description store)
    (λ chunk. count (description.grid.chunk_box chunk)) (chunks_meeting description.grid region))
