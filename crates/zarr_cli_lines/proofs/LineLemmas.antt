-- Lines parsed one after another.
use Rattle.std.proofs.Common.{◌≡◌, ℕ, suc, ◌+◌, ◌-◌, ◌<◌, ◌≤◌, take, length-drop, get_or, String, string_bytes, ap₂}
use Rattle.std.proofs.Common.{add-one, Bool, true, false, List, [], ◌∷◌, ◌++◌, length, map, drop, Option, Some, None}
use Rattle.std.proofs.Common.{option_map, refl, sym, ap, ◌∙◌, arith, cond, bytes_eq, codes, append_assoc, append-nil}
use Rattle.std.proofs.Math.Seq.{drop-cons}
use Rattle.std.proofs.lemmas.List.{drop_all, drop-map, take_all}
use Rattle.zarr_model.specs.Prelude.{Element, Kind, Region, ArrayBytes, array_bytes, write}
use Rattle.zarr_model.proofs.FailureLaws.{same_bytes}
use Rattle.zarr_cli_lines.specs.Text.{split_at, all_some, box_of, command_of_words, write_of, entry_of_line}
use Rattle.zarr_cli_lines.specs.Text.{entries_onto, first_entries, lines_after_entries, element_of}
use Rattle.zarr_cli_lines.proofs.SplitLemmas.{split_nonempty}

-- no command but a write has three words
pub no_longer_line : (kind : Kind) (word first rest : List ℕ) → ¬ (word ≡ codes "write") →
    None ≡ command_of_words kind (word ∷ first ∷ split_at 32 rest)
no_longer_line kind word first rest other =
    go (split_at 32 rest) (split_nonempty 32 rest) (bytes_eq word (codes "write")) refl
  where
    go : (parts : List (List ℕ)) → 0 < length parts → (b : Bool) → bytes_eq word (codes "write") ≡ b →
        None ≡ command_of_words kind (word ∷ first ∷ parts)
    go [] some b is = absurd (omega arith)
    go (part ∷ parts) some true is = absurd (other (same_bytes word (codes "write") is))
    go (part ∷ parts) some false is =
        ap (λ t. cond t (write_of kind (box_of first) (all_some (map (element_of kind) (part ∷ parts)))) None) (sym is)

-- the line at a place, and those behind it
pub line_left : {Z : Type 0} (lines : List (String Z)) (i : ℕ) (line : String Z) → i < length lines →
    line ≡ get_or lines i line →
    map string_bytes (drop i lines) ≡ string_bytes line ∷ map string_bytes (drop (i + 1) lines)
line_left lines i line within here =
    ap (map string_bytes) (drop-cons lines i line within ∙ ap₂ (λ l n. l ∷ drop n lines) (sym here) (sym (add-one i)))

-- behind the last one there is none
pub none_left : {Z : Type 0} (lines : List (String Z)) (i : ℕ) → length lines ≤ i → map string_bytes (drop i lines) ≡ []
none_left lines i over = ap (map string_bytes) (drop_all i lines over)

-- key lines at the front are no more than lines
pub few_entries : (lines : List (List ℕ)) → length (first_entries lines) ≤ length lines
few_entries [] = omega arith
few_entries (line ∷ lines) = go (entry_of_line line) (few_entries lines)
  where
    go : (o : Option (List ℕ × List ℕ)) → length (first_entries lines) ≤ length lines →
        length (entries_onto o (first_entries lines)) ≤ suc (length lines)
    go None few = omega arith
    go (Some entry) few = omega (arith, few)

-- the lines behind them, as a part of a slice
abbrev pub part_behind : {A : Type 0} → ℕ → List A → List A
part_behind n items = take (length items - n) (drop n items)

pub all_behind : {A : Type 0} (n : ℕ) (items : List A) → part_behind n items ≡ drop n items
all_behind n items = take_all (length items - n) (drop n items) (omega (arith, length-drop n items))

pub after_entries : {Z : Type 0} (lines : List (String Z)) (n : ℕ) → n ≡ length (first_entries (map string_bytes
    lines)) → lines_after_entries (map string_bytes lines) ≡ map string_bytes (part_behind n lines)
after_entries lines n is = ap (λ k. drop k (map string_bytes lines)) (sym is)
    ∙ (drop-map string_bytes n lines ∙ ap (map string_bytes) (sym (all_behind n lines)))

-- the entries of key lines, with one more of them before
pub entries_step :
    (line : List ℕ) (lines : List (List ℕ)) (entry : List ℕ × List ℕ) (before all : List (List ℕ × List ℕ)) →
    entry_of_line line ≡ Some entry → before ++ first_entries (line ∷ lines) ≡ all →
    (before ++ entry ∷ []) ++ first_entries lines ≡ all
entries_step line lines entry before all is e =
    append_assoc before (entry ∷ []) (first_entries lines)
    ∙ (sym (ap (λ o. before ++ entries_onto o (first_entries lines)) is) ∙ e)

-- none more, where a line is no key line
pub entries_end : (line : List ℕ) (lines : List (List ℕ)) (before all : List (List ℕ × List ℕ)) →
    entry_of_line line ≡ None → before ++ first_entries (line ∷ lines) ≡ all → before ≡ all
entries_end line lines before all is e =
    sym (append-nil before) ∙ (ap (λ o. before ++ entries_onto o (first_entries lines)) (sym is) ∙ e)

-- the write of the array bytes of some elements
pub write_put : (kind : Kind) (region : Region) (o : Option (List Element)) (bytes : ArrayBytes) →
    Some bytes ≡ option_map (array_bytes kind) o →
    Some (write region bytes) ≡ write_of kind (Some region) o
write_put kind region None bytes is = cc
write_put kind region (Some list) bytes is = let same : bytes ≡ array_bytes kind list = cc in
    ap (λ b. Some (write region b)) same

pub no_write : (kind : Kind) (region : Option Region) (o : Option (List Element)) →
    None ≡ option_map (array_bytes kind) o → None ≡ write_of kind region o
no_write kind None None is = refl
no_write kind (Some region) None is = refl
no_write kind region (Some list) is = cc

pub no_region : (kind : Kind) (o : Option (List Element)) → None ≡ write_of kind None o
no_region kind None = refl
no_region kind (Some list) = refl

pub ruleset of_writes = (write_put, no_write, no_region)
