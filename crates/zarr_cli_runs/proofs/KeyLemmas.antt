-- The lines of the final keys.
use Rattle.std.proofs.Common.{◌≡◌, ℕ, suc, ◌+◌, ◌-◌, ◌<◌, true, List, [], ◌∷◌, ◌++◌, length, map}
use Rattle.std.proofs.Common.{Contains, IsSome, unwrap_or, Result, Ok, Err, OnOk, refl, sym}
use Rattle.std.proofs.Common.{ap, ◌∙◌, subst, arith}
use Rattle.std.specs.Ordering.{nat_cmp}
use Rattle.std.specs.Cmp.Lexicographic.{slice_cmp}
use Rattle.std.specs.List.Sorted.{IsStrictlySortedBy}
use Rattle.std.proofs.lemmas.List.{length-map}
use Rattle.zarr_array.proofs.ChunkLaws.{some_list}
use Rattle.zarrs_codec_traits.specs.Prelude.{Content, Shown, counted, ListsKeys}
use Rattle.zarrs_storage.proofs.ListLemmas.{AreEntriesOf, is_sorted-entries, find-listed}
use Rattle.zarr_cli_lines.specs.Text.{entries_text}
use Rattle.zarr_cli_runs.specs.Keys.{ListsStore, Dumps, entries_at}
use Rattle.zarr_cli_runs.specs.declared.status.Status.{Status}

-- the keys of the entries at some keys are these
keys_at : (store : Content) (keys : List (List ℕ)) → map (λ entry. entry.0) (entries_at store keys) ≡ keys
keys_at store [] = refl
keys_at store (key ∷ keys) = ap (λ rest. key ∷ rest) (keys_at store keys)

-- keys that a store holds are entries of it, with their values
are_entries : (store : Content) (keys : List (List ℕ)) → ((key : List ℕ) → Contains keys key → IsSome (store key)) →
    AreEntriesOf store (entries_at store keys)
are_entries store [] held = tt
are_entries store (key ∷ keys) held = (
  some_list (store key) (held key (0, omega arith, refl)),
  are_entries store keys
      (λ other here. held other (suc here.0, (let below : here.0 < length keys = here.1 in omega arith), here.2)),
)

-- all keys with their values are a listing of the store
pub lists_store : (store : Content) (keys : List (List ℕ)) → ListsKeys store keys →
    ListsStore store (entries_at store keys)
lists_store store keys lists = record {
  in_order = is_sorted-entries (entries_at store keys)
      (subst (IsStrictlySortedBy (slice_cmp nat_cmp)) (sym (keys_at store keys)) lists.in_order);
  held = find-listed store (entries_at store keys) (subst (ListsKeys store) (sym (keys_at store keys)) lists)
      (are_entries store keys (λ key here. (lists.held key).0 here));
}

pub counted_more : (n mid now a b : ℕ) → mid ≡ counted n a → now ≡ counted mid (0 + b) → now ≡ counted n (a + b)
counted_more n mid now a b first second = omega (arith, first, second)

-- the list of keys and their lines are a dump
dumped : (before mid now : Shown) (keys : List (List ℕ)) (text new_text : List ℕ) → ListsKeys before.content keys →
    mid.content ≡ before.content → now.content ≡ mid.content → now.puts ≡ before.puts →
    mid.asks ≡ counted before.asks 1 → now.asks ≡ counted mid.asks (length keys) →
    new_text ≡ text ++ entries_text (entries_at mid.content keys) → Dumps true before now text new_text
dumped before mid now keys text new_text lists same kept unput first second lines =
    let here : ListsStore now.content (entries_at before.content keys) = subst (λ content.
    ListsStore content (entries_at before.content keys)) (sym (kept ∙ same)) (lists_store before.content keys lists) in
    let many : length (entries_at before.content keys) ≡ length keys =
    length-map keys (λ key. (key, unwrap_or (before.content key) [])) in
    record {
      text = (
        entries_text (entries_at before.content keys),
        (entries_at before.content keys, here, refl),
        lines ∙ ap (λ content. text ++ entries_text (entries_at content keys)) same,
      );
      same = kept ∙ same;
      asks = (
        length (entries_at before.content keys) + 1,
        (entries_at before.content keys, here, refl),
        omega (arith, first, second, many),
      );
      puts = unput;
    }

pub store_dumped :
    {T : Type 0} (before mid now : Shown) (keys : List (List ℕ)) (text new_text : List ℕ) (result : Result T Status) →
    ListsKeys before.content keys → mid.content ≡ before.content → now.content ≡ mid.content → now.puts ≡ before.puts →
    mid.asks ≡ counted before.asks 1 → OnOk result (now.asks ≡ counted mid.asks (length keys)) →
    OnOk result (new_text ≡ text ++ entries_text (entries_at mid.content keys)) →
    OnOk result (Dumps true before now text new_text)
store_dumped before mid now keys text new_text (Ok value) lists same kept unput first second lines =
    dumped before mid now keys text new_text lists same kept unput first second lines
store_dumped before mid now keys text new_text (Err status) lists same kept unput first second lines = tt
