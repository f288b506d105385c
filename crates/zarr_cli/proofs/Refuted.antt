-- Answers of wrong programs, each refused by its definition.
use Rattle.std.proofs.lemmas.List.{take_all}
use Rattle.std.proofs.Common.{◌≡◌, ℕ, if◌then◌else◌, zero, suc, take, inl, inr, get_or, slice_get, lit<, lit≤, ◌+◌, ◌^◌}
use Rattle.std.proofs.Common.{◌<◌, ◌≤◌, Bool, List, [], ◌∷◌, ◌++◌, refl, codes, true, false, Some, None, Option, subst}
use Rattle.std.proofs.Common.{ap, sym, ◌∙◌, IsUtf8, length, ⊎_elim, arith, slice_index, unwrap_or, is_some}
use Rattle.std.specs.List.{list_any}
use Rattle.std.specs.Fmt.{digits}
use Rattle.std.specs.Str.{IsValidUpTo, is_utf8, chars}
use lib.Utf8.{encode}
use Rattle.std.specs.Str.Lossy.{utf8_valid_len}
use Rattle.std.proofs.lemmas.Str.{utf8_valid_len-IsValidUpTo, is_utf8-from_IsUtf8, IsUtf8-from_is_utf8}
use Rattle.std.proofs.lemmas.Option.{same_Some}
use Rattle.hex.specs.Hex.{encode_with, decode_pairs}
use Rattle.zarr_model.specs.Prelude.{of_bytes, fixed_bytes, regular_grid, Options, Content, with_key, WhollyMeans}
use Rattle.zarr_model.specs.Prelude.{stored_array, Command, elements, read, write, erase, Description, layout}
use Rattle.zarr_model.specs.Prelude.{LeavesArray, command_chunks, asks_store, counted, Rose, Shown, Given, IsPlace}
use Rattle.zarr_model.specs.Prelude.{AsksUpTo, IsUndecoded, IsStopped, erases_chunk, IsDamageSeen, passes_over}
use Rattle.zarr_cli_runs.specs.array.parts.Document.{ArrayDocument, describe}
use Rattle.zarr_cli_runs.proofs.StoredLaws.{stores-none}
use Rattle.zarr_cli_runs.proofs.BetweenLaws.{means_undamaged}
use Rattle.zarr_cli_runs.specs.array.parts.Opening.{opened, open_builtin}
use Rattle.zarr_cli.specs.ProgramInput.{input_limit, document_line, lines_after_document, store_after_keys}
use Rattle.zarr_cli.specs.ProgramInput.{command_grammar, IsBadLine}
use Rattle.zarr_cli_runs.specs.Keys.{ListsStore, IsDump, IsDumpAsks}
use Rattle.zarr_cli.specs.Program.{WentThrough}
use Rattle.zarr_cli.specs.Words.{first_settings}
use Rattle.zarr_cli_runs.specs.Ending.{bad_words, ending_line, IsGivenFront, IsGivenLine}
use Rattle.zarr_cli_runs.specs.lines.Text.{line_at, good_lines, replies_text, entries_text}
use Rattle.zarrs_metadata_parts.specs.declared.array.chunk_key_separator.ChunkKeySeparator.TheVariants.{Slash}
use Rattle.zarr_basics.specs.declared.chunk_key_encoding.ChunkKeyEncoding.TheVariants.{Default}
use Rattle.zarr_basics.proofs.KeysApart.{keys_differ}
use Rattle.zarr_cli_runs.specs.array.parts.Sizes.{are_countable}
use Rattle.zarr_cli_runs.proofs.DocumentLawsBelow.{countable_is, describe-sound}
use Rattle.zarr_model.proofs.StoreLaws.{stored_array-meant, Means-from_whole}
use Rattle.zarr_model.proofs.GridLaws.{IsChunkShape, regular_grid-covers}
use Rattle.zarr_cli.proofs.ProgramLaws.{went_through, one_listing}
use Rattle.zarr_cli.proofs.Worked.{holding}
use Rattle.zarr_cli_runs.proofs.Documents.{document_text, plain_document, square_opens, line_opens}

abbrev nothing : Content
nothing = λ key. None

abbrev options_with : Bool → Options
options_with keep = record { store_empty_chunks = keep; validate_checksums = true }

-- two values that differ at a place
abbrev at : ℕ → Option (List ℕ) → ℕ
at place value = slice_index (unwrap_or value []) place

-- a read changes a stored element past the shape, by the keys that have to stay
abbrev line_array : Description
line_array = describe (plain_document (5 ∷ []) (2 ∷ []) 0)

abbrev before : Content
before = with_key (codes "c/2") (7 ∷ 9 ∷ []) nothing

abbrev changed : Content
changed = with_key (codes "c/2") (7 ∷ 0 ∷ []) nothing

past_the_shape :
    ¬ LeavesArray line_array (options_with false) (read (record { start = 4; size = 1 } ∷ []) ∷ []) before changed
unfolding digits
past_the_shape left = let e : ◌≡◌ {A = ℕ} 0 9 = ap (at 1) (left.keys.same_chunks (2 ∷ []) refl refl) in omega arith

-- and no run of the program on such an input ends so
abbrev line_input : List ℕ
line_input = document_text (codes "[5]") (codes "[2]") (codes "0") ++ codes "\nkey c/2 h0709\nread 4..5\n"

past_the_shape_run : ¬ WentThrough [] line_input nothing changed (λ text. text ≡ codes "ok h07\n")
unfolding digits encode_with decode_pairs
past_the_shape_run went =
    let (output, runs, given) = went_through [] line_input nothing changed (λ text. text ≡ codes "ok h07\n")
    first_settings (plain_document (5 ∷ []) (2 ∷ []) 0) (read (record { start = 4; size = 1 } ∷ []) ∷ []) refl
    line_opens refl went in
    past_the_shape runs.left

-- what an empty store means under a document
nothing-means : (dims chunk_shape : List ℕ) (filler : ℕ) (options : Options) → IsChunkShape dims chunk_shape →
    are_countable (regular_grid dims chunk_shape).grid_shape ≡ true →
    WhollyMeans (layout (describe (plain_document dims chunk_shape filler)) options) nothing
    (stored_array (layout (describe (plain_document dims chunk_shape filler)) options) nothing)
nothing-means dims chunk_shape filler options shape few =
    stored_array-meant (layout (describe (plain_document dims chunk_shape filler)) options)
    (regular_grid-covers dims chunk_shape shape)
    (describe-sound (plain_document dims chunk_shape filler) options
    (λ chunk other. keys_differ (Default Slash) (regular_grid dims chunk_shape) chunk other
    (countable_is (regular_grid dims chunk_shape).grid_shape few))) nothing (λ chunk h. refl)

-- a chunk of fill is left out though empty chunks are to be stored
abbrev small_array : Description
small_array = describe (plain_document (2 ∷ []) (2 ∷ []) 7)

nothing_meant : (options : Options) →
    WhollyMeans (layout small_array options) nothing (stored_array (layout small_array options) nothing)
nothing_meant options = nothing-means (2 ∷ []) (2 ∷ []) 7 options (omega arith, tt) refl

blank_left_out : ¬ LeavesArray small_array (options_with true)
    (write (record { start = 0; size = 2 } ∷ []) (fixed_bytes (7 ∷ 7 ∷ [])) ∷ []) nothing nothing
unfolding digits
blank_left_out left = let e : false ≡ true = left.presence (stored_array (layout small_array (options_with true))
    nothing) (0 ∷ []) (nothing_meant (options_with true)) refl in cc

-- an erase that stops at a value that does not decode
abbrev damaged : Content
damaged = λ key. Some (1 ∷ [])

erase_stops : (new : Content) (key : List ℕ) →
    ¬ IsUndecoded small_array (options_with false) (erase (0 ∷ []) ∷ []) damaged new key (Some (0, 0))
erase_stops new key (command, which, asks, chunk, here, its_key, same_value, unerased, damage) =
    let same : erase (0 ∷ []) ≡ command = same_Some _ _ which in
    let e : false ≡ true = subst (λ c. asks_store c ≡ true) (sym same) asks in cc

-- a read of the chunk
abbrev small_read : Command
small_read = read (record { start = 0; size = 2 } ∷ [])

-- that value is seen by a read of all of the chunk, and of a part that is not there, and passed over
-- by a read of the part that is
damage_seen : IsDamageSeen small_array (options_with false) (small_read ∷ []) damaged (codes "c/0")
unfolding digits
damage_seen = (0, small_read, refl, refl, 0 ∷ [], (0, lit< tt, refl), refl, refl, refl, refl)

part_seen : passes_over small_array (options_with false) damaged (read (record { start = 1; size = 1 } ∷ [])) (0 ∷ []) ≡
    false
unfolding digits
part_seen = refl

part_passed_over :
    passes_over small_array (options_with false) damaged (read (record { start = 0; size = 1 } ∷ [])) (0 ∷ []) ≡ true
unfolding digits
part_passed_over = refl

erased_first : (m : ℕ) (command : Command) (chunk : List ℕ) (k : ℕ) →
    slice_get (erase (0 ∷ []) ∷ small_read ∷ []) m ≡ Some command → asks_store command ≡ true →
    k < length (command_chunks small_array command) → get_or (command_chunks small_array command) k chunk ≡ chunk →
    list_any (erases_chunk small_array chunk) (take m (erase (0 ∷ []) ∷ small_read ∷ [])) ≡ false → ⊥
erased_first zero command chunk k which asks below here unerased =
    let same : erase (0 ∷ []) ≡ command = same_Some _ _ which in
    let e : false ≡ true = subst (λ c. asks_store c ≡ true) (sym same) asks in cc
erased_first (suc zero) command chunk k which asks below here unerased =
    let same : small_read ≡ command = same_Some _ _ which in
    let first : k ≡ 0 = let n : k < 1 = subst (λ c. k < length (command_chunks small_array c)) (sym same) below in
    omega arith in
    let it : 0 ∷ [] ≡ chunk = subst (λ i. get_or ((0 ∷ []) ∷ []) i chunk ≡ chunk) first
    (subst (λ c. get_or (command_chunks small_array c) k chunk ≡ chunk) (sym same) here) in
    let e : true ≡ false =
    subst (λ c. list_any (erases_chunk small_array c) (erase (0 ∷ []) ∷ []) ≡ false) (sym it) unerased in cc
erased_first (suc (suc m)) command chunk k which asks below here unerased = let e : None ≡ Some command = which in cc

-- and not seen behind an erase of the chunk
damage_erased : ¬ IsDamageSeen small_array (options_with false) (erase (0 ∷ []) ∷ small_read ∷ []) damaged (codes "c/0")
damage_erased (m, command, which, asks, chunk, (k, below, here), its_key, unerased, damage, noticed) =
    erased_first m command chunk k which asks below here unerased

-- a fault of the store at no command
fault_nowhere : (commands : List Command) (before now : Shown) →
    ¬ IsStopped small_array (options_with false) commands before now None
fault_nowhere commands before now (rose, there, left) = let e : false ≡ true = there in cc

-- the asks of a run that failed in its second write after one chunk, and a place at its end
abbrev two_writes : List Command
two_writes = write (record { start = 0; size = 1 } ∷ record { start = 0; size = 1 } ∷ []) (fixed_bytes (1 ∷ []))
    ∷ write (record { start = 1; size = 2 } ∷ record { start = 1; size = 2 }
    ∷ []) (fixed_bytes (11 ∷ 12 ∷ 14 ∷ 15 ∷ [])) ∷ []

abbrev square_array : Description
square_array = describe (plain_document (4 ∷ 4 ∷ []) (2 ∷ 2 ∷ []) 0)

asks_counted : AsksUpTo square_array two_writes 0 3 (Some (1, 1)) × IsPlace square_array two_writes (Some (1, 4))
asks_counted = ((_, refl, inr (lit≤ tt, refl)), (_, refl, lit≤ tt))

-- a run that failed at a refused read asked nothing for it
abbrev far_read : Command
far_read = read (record { start = 3; size = 2 } ∷ record { start = 0; size = 1 } ∷ [])

refused_asks_none : AsksUpTo square_array (far_read ∷ []) 0 1 (Some (0, 0)) → ⊥
refused_asks_none (command, is, inl none) =
    let same : far_read ≡ command = cc in
    let gone : 1 ≡ 0 = subst (λ c. 1 ≡ counted 0 (0 + (if asks_store c then 0 else 0))) (sym same) none in
    absurd (omega (arith, gone))
refused_asks_none (command, is, inr (below, more)) =
    let same : far_read ≡ command = cc in
    let gone : 0 < 0 = subst (λ c. 0 < length (command_chunks square_array c)) (sym same) below in
    absurd (omega (arith, gone))

-- the program names the line of a command out of form, though a later byte is no UTF-8
abbrev bad_byte : List ℕ
bad_byte = codes "doc\nbogus\n" ++ 255 ∷ []

first_bad_byte : utf8_valid_len bad_byte ≡ 10
unfolding utf8_valid_len is_utf8 chars encode
first_bad_byte = refl

not_text : is_utf8 bad_byte ≡ false
unfolding is_utf8 chars encode
not_text = refl

line_of_byte : (line : ℕ) → IsBadLine bad_byte line → line ≡ 3
line_of_byte line bad = ⊎_elim
    (λ (byte : (n : ℕ) × IsValidUpTo bad_byte n × (line ≡ line_at bad_byte n)).
    byte.2 ∙ ap (line_at bad_byte) (sym (utf8_valid_len-IsValidUpTo bad_byte byte.0 byte.1) ∙ first_bad_byte))
    (λ (form : IsUtf8 bad_byte × (document : ArrayDocument) × (open_builtin (document_line bad_byte) ≡ opened document)
    × (good_lines (command_grammar document) (lines_after_document bad_byte) < length (lines_after_document bad_byte))
    × (line ≡ good_lines (command_grammar document) (lines_after_document bad_byte) + 2)).
    let e : false ≡ true = sym not_text ∙ is_utf8-from_IsUtf8 bad_byte form.0 in cc)
    bad

earlier_line : ¬ IsBadLine bad_byte 2
earlier_line bad = let e : ◌≡◌ {A = ℕ} 2 3 = line_of_byte 2 bad in omega arith

-- a run by another document than the one in line 1
abbrev square_input : List ℕ
square_input = document_text (codes "[4,4]") (codes "[2,2]") (codes "0") ++ codes "\nread 3..4,3..4\n"

square_meant :
    WhollyMeans (layout (describe (plain_document (4 ∷ 4 ∷ []) (2 ∷ 2 ∷ []) 0)) first_settings.options) nothing
    (stored_array (layout (describe (plain_document (4 ∷ 4 ∷ []) (2 ∷ 2 ∷ []) 0)) first_settings.options) nothing)
square_meant = nothing-means (4 ∷ 4 ∷ []) (2 ∷ 2 ∷ []) 0 first_settings.options (omega arith, (omega arith, tt)) refl

other_document :
    ¬ WentThrough [] square_input nothing nothing (λ text. text ≡ codes "refused IncompatibleDimensionality\n")
unfolding digits encode_with decode_pairs
other_document went =
    let (output, runs, given) =
    went_through [] square_input nothing nothing (λ text. text ≡ codes "refused IncompatibleDimensionality\n")
    first_settings (plain_document (4 ∷ 4 ∷ []) (2 ∷ 2 ∷ []) 0)
    (read (record { start = 3; size = 1 } ∷ record { start = 3; size = 1 } ∷ []) ∷ []) refl square_opens refl went in
    let (keys, dump, text) = runs.replied
    (stored_array (layout (describe (plain_document (4 ∷ 4 ∷ []) (2 ∷ 2 ∷ []) 0)) first_settings.options) nothing)
    (means_undamaged (describe (plain_document (4 ∷ 4 ∷ []) (2 ∷ 2 ∷ []) 0)) first_settings.options
    (read (record { start = 3; size = 1 } ∷ record { start = 3; size = 1 } ∷ []) ∷ []) nothing
    (stored_array (layout (describe (plain_document (4 ∷ 4 ∷ []) (2 ∷ 2 ∷ []) 0)) first_settings.options) nothing)
    (Means-from_whole (layout (describe (plain_document (4 ∷ 4 ∷ []) (2 ∷ 2 ∷ []) 0)) first_settings.options)
    (regular_grid-covers (4 ∷ 4 ∷ []) (2 ∷ 2 ∷ []) (omega arith, (omega arith, tt))) nothing
    (stored_array (layout (describe (plain_document (4 ∷ 4 ∷ []) (2 ∷ 2 ∷ []) 0)) first_settings.options) nothing)
    square_meant)) in
    let e : ◌≡◌ {A = ℕ} 114 111 =
    ap (λ line. slice_index line 0) (sym given ∙ (text ∙ ap (λ more. codes "ok h00\n" ++ more) dump)) in omega arith

-- what is right is not refused: the line of that byte, and a run that reads the fill
later_line : IsBadLine bad_byte 3
unfolding is_utf8 chars encode
later_line = inl (
  10,
  record {
    short = lit< tt;
    front = IsUtf8-from_is_utf8 (take 10 bad_byte) refl;
    longest = λ m above text.
        let long : length bad_byte ≤ m = above in
        let e : false ≡ true =
        sym not_text ∙ is_utf8-from_IsUtf8 bad_byte (subst IsUtf8 (take_all m bad_byte long) text) in cc;
  },
  refl,
)

right_unseen : (key : List ℕ) →
    IsDamageSeen (describe (plain_document (4 ∷ 4 ∷ []) (2 ∷ 2 ∷ []) 0)) first_settings.options
    (read (record { start = 3; size = 1 } ∷ record { start = 3; size = 1 } ∷ [])
    ∷ []) (store_after_keys square_input nothing) key → ⊥
unfolding digits encode_with decode_pairs is_utf8 chars encode
right_unseen key (m, command, is, asks, chunk, met, its_key, none, damaged, noticed) = let gone : true ≡ false =
    ap is_some damaged in cc

right_run : WentThrough [] square_input nothing nothing (λ text. text ≡ codes "ok h00\n")
unfolding digits encode_with decode_pairs is_utf8 chars encode
right_run = (
  record {
    settings = first_settings;
    document = plain_document (4 ∷ 4 ∷ []) (2 ∷ 2 ∷ []) 0;
    commands = read (record { start = 3; size = 1 } ∷ record { start = 3; size = 1 } ∷ []) ∷ [];
    are_words = (refl, refl);
    within = lit≤ tt;
    is_text = IsUtf8-from_is_utf8 square_input refl;
    is_opened = square_opens;
    are_commands = refl;
  },
  codes "ok h00\n",
  record {
    replied = λ array meant. (
      [],
      refl,
      ap (λ e. replies_text (elements (e ∷ []) ∷ []) ++ [])
          (meant.1.inside (1 ∷ 1 ∷ []) (of_bytes (0 ∷ []) ∷ of_bytes (0 ∷ []) ∷ of_bytes (0 ∷ []) ∷ of_bytes (0 ∷ [])
          ∷ []) (3 ∷ 3 ∷ []) refl refl refl refl),
    );
    mended = record {
      keeps = record { each = λ chunk is_chunk. inr (refl, refl); stands = λ chunk is_chunk damaged none. refl };
      whole = λ array meant. meant;
      keys = record { same_chunks = λ chunk is_chunk e. refl; other_keys = λ key apart. refl };
    };
    left = record {
      array_left = λ array meant. meant;
      whole_chunks = λ array meant. meant;
      presence = λ array chunk meant is_chunk. refl;
      keys = record { same_chunks = λ chunk is_chunk e. refl; other_keys = λ key apart. refl };
    };
    stored = stores-none _ _ _ _ _ (λ chunk. refl);
    undamaged = record { no_key = right_unseen };
    dumped = (codes "ok h00\n", [], refl, refl);
  },
  refl,
)

-- the line of a command out of form
bogus_line : IsBadLine (document_text (codes "[4,4]") (codes "[2,2]") (codes "0") ++ codes "\nbogus\n") 2
unfolding digits encode_with decode_pairs is_utf8 chars encode
bogus_line = inr (
  IsUtf8-from_is_utf8 (document_text (codes "[4,4]") (codes "[2,2]") (codes "0") ++ codes "\nbogus\n") refl,
  plain_document (4 ∷ 4 ∷ []) (2 ∷ 2 ∷ []) 0,
  square_opens,
  lit< tt,
  refl,
)

-- what a sink shows that was given these bytes
abbrev shows : ℕ → List ℕ → Given
shows faults bytes = record { bytes = Some bytes; faults = faults }

-- a line, a front of it, the calls of a dump and the limit
lines_given : (IsGivenLine (ending_line bad_words) (shows 0 (codes "x")) (shows 0 (codes "xwords\n")))
    × (IsGivenLine (ending_line bad_words) (shows 0 (codes "x")) (shows 1 (codes "xwor"))) ×
    (IsDumpAsks true nothing 1) × (input_limit ≡ 2 ^ 26)
lines_given = (inl refl, inr (lit≤ tt, (3, refl)), ([], record { in_order = refl; held = λ key. refl }, refl), refl)

front_unexplained : ¬ IsGivenLine (ending_line bad_words) (shows 0 (codes "x")) (shows 0 (codes "xwor"))
front_unexplained given = ⊎_elim
    (λ (all : Some (codes "xwor") ≡ Some (codes "xwords\n")). let e : ◌≡◌ {A = ℕ} 4 7 = ap length (same_Some _ _ all) in
    omega arith)
    (λ (front : Rose 0 0 × IsGivenFront (codes "words\n") (Some (codes "x")) (Some (codes "xwor"))). let e : 1 ≤ 0 =
    front.0 in omega arith)
    given

-- a store has one dump: not one in another order, nor one without its first key or its last newline
abbrev two_entries : List (List ℕ × List ℕ)
two_entries = (codes "c/10", 1 ∷ []) ∷ (codes "c/2", 2 ∷ []) ∷ []

two_listed : ListsStore (holding two_entries) two_entries
two_listed = record { in_order = refl; held = λ key. refl }

only_dump : (dump : List ℕ) → IsDump true (holding two_entries) dump → dump ≡ codes "key c/10 h01\nkey c/2 h02\n"
unfolding digits encode_with
only_dump dump (entries, lists, text) =
    text ∙ ap entries_text (one_listing (holding two_entries) entries two_entries lists two_listed)

other_order : ¬ IsDump true (holding two_entries) (codes "key c/2 h02\nkey c/10 h01\n")
other_order dump = let e : ◌≡◌ {A = ℕ} 50 49 =
    ap (λ text. slice_index text 6) (only_dump (codes "key c/2 h02\nkey c/10 h01\n") dump) in omega arith

first_key_skipped : ¬ IsDump true (holding two_entries) (codes "key c/2 h02\n")
first_key_skipped dump = let e : ◌≡◌ {A = ℕ} 12 25 = ap length (only_dump (codes "key c/2 h02\n") dump) in omega arith

newline_left_out : ¬ IsDump true (holding two_entries) (codes "key c/10 h01\nkey c/2 h02")
newline_left_out dump = let e : ◌≡◌ {A = ℕ} 24 25 = ap length (only_dump (codes "key c/10 h01\nkey c/2 h02") dump) in
    omega arith
