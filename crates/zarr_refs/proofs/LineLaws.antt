-- Lines parsed one after another.
use Rattle.std.proofs.Common.{◌≡◌, ℕ, suc, ◌+◌, ◌<◌, ◌≤◌, ◌&&◌, Bool, true, false, List, [], ◌∷◌, ◌++◌, length, map}
use Rattle.std.proofs.Common.{drop, get_or, codes, bytes_eq, String, string_bytes, Option, Some, None, is_some}
use Rattle.std.proofs.Common.{option_map, refl, sym, ap, ap₂, ◌∙◌, arith, cond, append_assoc, append-nil, length-drop}
use Rattle.std.proofs.lemmas.List.{drop-map, length-map}
use Rattle.zarr_model.proofs.FailureLaws.{same_bytes}
use Rattle.zarr_cli.specs.Status.{words_of}
use Rattle.zarr_cli.proofs.WordLemmas.{words_left}
use Rattle.std.specs.List.{list_all}
use Rattle.zarr_model.specs.Prelude.{Kind, Command}
use Rattle.zarr_array.specs.boxes.Command.{is_read}
use Rattle.zarr_cli_lines.specs.Text.{split_at, all_some, line_command, first_entries, lines_after_entries}
use Rattle.zarr_cli_lines.proofs.SplitLemmas.{split_nonempty}
use Rattle.zarr_cli_lines.proofs.LineLemmas.{line_left, few_entries, part_behind, all_behind, after_entries}
use Rattle.zarr_refs.specs.declared.reference.Reference.{Reference}
use Rattle.zarr_refs.specs.Lines.{five_of, reference_of_line, references_onto, first_references, line_references}
use Rattle.zarr_refs.specs.Lines.{lines_after_references, that_reads, line_read, good_reads, is_command, changes_first}
use Rattle.zarr_refs.specs.Input.{word_options}
use Rattle.zarr_refs.specs.Steps.{StopsReads, IsReadFault, StopsRefs, stop_after}

-- after five words and a space there is a sixth one
pub more_than_five : (a b c d e rest : List ℕ) → five_of (a ∷ b ∷ c ∷ d ∷ e ∷ split_at 32 rest) ≡ None
more_than_five a b c d e rest = go (split_at 32 rest) (split_nonempty 32 rest)
  where
    go : (parts : List (List ℕ)) → 0 < length parts → five_of (a ∷ b ∷ c ∷ d ∷ e ∷ parts) ≡ None
    go [] h = absurd (omega arith)
    go (part ∷ parts) h = refl

-- the references of ref lines, with one more of them before
pub references_step : (line : List ℕ) (lines : List (List ℕ)) (reference : Reference) (before all : List Reference) →
    reference_of_line line ≡ Some reference → before ++ first_references (line ∷ lines) ≡ all →
    (before ++ reference ∷ []) ++ first_references lines ≡ all
references_step line lines reference before all is e =
    append_assoc before (reference ∷ []) (first_references lines)
    ∙ (sym (ap (λ o. before ++ references_onto o (first_references lines)) is) ∙ e)

-- none more, where a line is no ref line
pub references_end : (line : List ℕ) (lines : List (List ℕ)) (before all : List Reference) →
    reference_of_line line ≡ None → before ++ first_references (line ∷ lines) ≡ all → before ≡ all
references_end line lines before all is e =
    sym (append-nil before) ∙ (ap (λ o. before ++ references_onto o (first_references lines)) (sym is) ∙ e)

-- references are no more than lines
pub few_references : (lines : List (List ℕ)) → length (first_references lines) ≤ length lines
few_references [] = omega arith
few_references (line ∷ lines) = go (reference_of_line line) (few_references lines)
  where
    go : (o : Option Reference) → length (first_references lines) ≤ length lines →
        length (references_onto o (first_references lines)) ≤ suc (length lines)
    go None few = omega arith
    go (Some reference) few = omega (arith, few)

-- reads that are all there read
kept_read : (command : Command) (o : Option Command) → that_reads o ≡ Some command → is_read command ≡ true
kept_read command None e = cc
kept_read command (Some other) e = go (is_read other) refl e
  where
    go : (b : Bool) → is_read other ≡ b → cond b (Some other) None ≡ Some command → is_read command ≡ true
    go true reads is = (let same : other ≡ command = cc in ap is_read (sym same) ∙ reads)
    go false reads is = cc

pub all_read : (kind : Kind) (lines : List (List ℕ)) (commands : List Command) →
    all_some (map (line_read kind) lines) ≡ Some commands → list_all is_read commands ≡ true
all_read kind [] commands e = (let none : [] ≡ commands = cc in ap (list_all is_read) (sym none))
all_read kind (line ∷ lines) commands e = go (line_read kind line) refl (all_some (map (line_read kind) lines)) refl e
    (λ reads others. all_read kind lines reads others)
  where
    go : (o : Option Command) → line_read kind line ≡ o → (rest : Option (List Command)) →
        all_some (map (line_read kind) lines) ≡ rest → all_some (o ∷ map (line_read kind) lines) ≡ Some commands →
        ((reads : List Command) → all_some (map (line_read kind) lines) ≡ Some reads → list_all is_read reads ≡ true) →
        list_all is_read commands ≡ true
    go None is rest others e more = cc
    go (Some command) is None others e more =
        (let none : None ≡ Some commands = ap (option_map (λ xs. command ∷ xs)) (sym others) ∙ e in cc)
    go (Some command) is (Some reads) others e more =
        let all : Some (command ∷ reads) ≡ Some commands = ap (option_map (λ xs. command ∷ xs)) (sym others) ∙ e in
        let same : command ∷ reads ≡ commands = cc in
        let first : is_read command ≡ true = kept_read command (line_command kind line) is in
        ap (list_all is_read) (sym same) ∙ (rw (first, more reads others) refl)

-- the line at a place stops the reads
module _ {Z : Type 0} (kind : Kind) (lines : List (String Z)) (i : ℕ) (line : String Z) (within : i < length lines)
    (here : line ≡ get_or lines i line) where
  left : map string_bytes (drop i lines) ≡ string_bytes line ∷ map string_bytes (drop (i + 1) lines)
  left = line_left lines i line within here

  dropped : drop i (map string_bytes lines) ≡ string_bytes line ∷ map string_bytes (drop (i + 1) lines)
  dropped = drop-map string_bytes i lines ∙ left

  pub stops_reads : (good : ℕ) (before : List Command) (changes : Bool) → good ≡ i →
      line_read kind (string_bytes line) ≡ None → is_some (line_command kind (string_bytes line)) ≡ changes →
      option_map (λ xs. before ++ xs) (all_some (map (line_read kind) (map string_bytes (drop i lines)))) ≡
      all_some (map (line_read kind) (map string_bytes lines)) →
      good + good_reads kind (map string_bytes (drop i lines)) ≡ good_reads kind (map string_bytes lines) →
      IsReadFault kind (map string_bytes lines) (stop_after good changes)
  stops_reads good before changes at none which all count = by changes which
    where
      nothing : all_some (map (line_read kind) (string_bytes line ∷ map string_bytes (drop (i + 1) lines))) ≡ None
      nothing =
          ap (λ (o : Option Command). all_some (o ∷ map (line_read kind) (map string_bytes (drop (i + 1) lines)))) none

      so_far : good_reads kind (string_bytes line ∷ map string_bytes (drop (i + 1) lines)) ≡ 0
      so_far = ap (λ (o : Option Command).
          cond (is_some o) (1 + good_reads kind (map string_bytes (drop (i + 1) lines))) 0) none

      first_is : good ≡ good_reads kind (map string_bytes lines)
      first_is = omega (arith, count, ap (good_reads kind) left, so_far)

      rest_is : drop (good_reads kind (map string_bytes lines)) (map string_bytes lines) ≡
          string_bytes line ∷ map string_bytes (drop (i + 1) lines)
      rest_is = ap (λ (n : ℕ). drop n (map string_bytes lines)) (sym first_is ∙ at) ∙ dropped

      stops_so : (b : Bool) → is_some (line_command kind (string_bytes line)) ≡ b →
          StopsReads kind (map string_bytes lines) good b
      stops_so b is = record {
        none = sym all
            ∙ ap (option_map (λ xs. before ++ xs)) (ap (λ ls. all_some (map (line_read kind) ls)) left ∙ nothing);
        first = first_is;
        inside = omega (arith, at, within, length-map lines string_bytes);
        which = ap (is_command kind) rest_is ∙ is;
      }

      by : (b : Bool) → is_some (line_command kind (string_bytes line)) ≡ b →
          IsReadFault kind (map string_bytes lines) (stop_after good b)
      by true is = stops_so true is
      by false is = stops_so false is

-- the lines behind the references, as a part of a slice
module _ {Z : Type 0} (lines : List (String Z)) (n m : ℕ) (entries : n ≡ length
    (first_entries (map string_bytes lines))) (references : m ≡ length (line_references (map string_bytes lines))) where
  abbrev others : List (String Z)
  others = part_behind n lines

  pub after_references : lines_after_references (map string_bytes lines) ≡ map string_bytes (part_behind m others)
  after_references =
      ap₂ (λ (k : ℕ) (ls : List (List ℕ)). drop k ls) (sym references) (after_entries lines n entries)
      ∙ (drop-map string_bytes m others ∙ ap (map string_bytes) (sym (all_behind m others)))

  few : n + m ≤ length lines
  few =
      let all : length (map string_bytes others) ≡ length (lines_after_entries (map string_bytes lines)) =
      ap (λ (ls : List (List ℕ)). length ls) (sym (after_entries lines n entries)) in
      omega (
        arith,
        entries,
        references,
        few_entries (map string_bytes lines),
        few_references (lines_after_entries (map string_bytes lines)),
        length-map lines string_bytes,
        length-drop (length (first_entries (map string_bytes lines))) (map string_bytes lines),
      )

  pub stops_refs : (kind : Kind) (good : ℕ) (changes : Bool) → StopsReads kind (map string_bytes (part_behind m others))
      good changes → StopsRefs kind (map string_bytes lines) (n + m + good) changes
  stops_refs kind good changes by = record {
    none = ap (λ ls. all_some (map (line_read kind) ls)) after_references ∙ by.none;
    first = omega (arith, entries, references, ap (good_reads kind) after_references, by.first);
    inside = omega (
      arith,
      by.inside,
      few,
      length-map (part_behind m others) string_bytes,
      ap (λ (l : List (String Z)). length l) (all_behind m others),
      length-drop m others,
      ap (λ (l : List (String Z)). length l) (all_behind n lines),
      length-drop n lines,
      length-map lines string_bytes,
    );
    which = ap (changes_first kind) after_references ∙ by.which;
  }

-- the words, one after another
abbrev is_known_word : List ℕ → Bool
is_known_word word = bytes_eq word (codes "--no-checksums")

module _ {Z : Type 0} (words : List (String Z)) (i : ℕ) (word : String Z) (within : i < length words)
    (here : word ≡ get_or words i word)
    (so_far : list_all is_known_word (words_of (drop i words)) ≡ list_all is_known_word (words_of words)) where
  step : list_all is_known_word (string_bytes word ∷ words_of (drop (i + 1) words)) ≡
      list_all is_known_word (words_of words)
  step = ap (list_all is_known_word) (sym (words_left words i word within here)) ∙ so_far

  pub other_word : ¬ (string_bytes word ≡ codes "--no-checksums") → None ≡ word_options (words_of words)
  other_word other = by (is_known_word (string_bytes word)) refl
    where
      by : (b : Bool) → is_known_word (string_bytes word) ≡ b → None ≡ word_options (words_of words)
      by true is = absurd (other (same_bytes (string_bytes word) (codes "--no-checksums") is))
      by false is =
          (let none : list_all is_known_word (words_of words) ≡ false = sym step ∙ (rw is refl) in rw none refl)

  pub known_word : string_bytes word ≡ codes "--no-checksums" →
      list_all is_known_word (words_of (drop (i + 1) words)) ≡ list_all is_known_word (words_of words)
  known_word same =
      let known : is_known_word (string_bytes word) ≡ true = ap is_known_word same in
      sym (ap (λ b. b && list_all is_known_word (words_of (drop (i + 1) words))) known) ∙ step
