-- Options by name: a look-up in them is one in the map that they are kept in, and so is one more option.
use Rattle.std.proofs.Common.{◌≡◌, ◌∙◌, sym, ap, refl, ℕ, List, [], ◌∷◌, ◌++◌, true, false, cond, Some}
use Rattle.std.proofs.Common.{option_map, String, Global, Ordering, Less, Equal, Greater, string_bytes, string_cmp}
use Rattle.std.proofs.Common.{nat_cmp}
use Rattle.std.specs.Ordering.{eq_by_cmp, match_ordering, ordering_reverse}
use Rattle.std.specs.List.{AllByRecursion}
use Rattle.std.specs.List.Sorted.{IsStrictlySortedBy}
use Rattle.std.specs.Cmp.Lexicographic.{slice_cmp, nat_list_cmp_total}
use Rattle.std.specs.FinMap as finite
use Rattle.std.specs.FinMap.{find, put, same_map, get-insert, get-from_entries, slice_cmp-IsAntisymmetric}
use Rattle.std.specs.FinMap.{nat_cmp-IsAntisymmetric}
use Rattle.std.specs.FinMap.Entries.{find-put}
use Rattle.std.specs.BTreeMap.{is_at, get_by, insert_entry}
use Rattle.std.specs.Map.{lookup, keys_of}
use Rattle.zarrs_metadata_values.specs.declared.configuration.Configuration.{Configuration}
use Rattle.zarrs_metadata_values.specs.Configuration.{configuration_seen}
use Rattle.zarrs_codec_error.specs.declared.codec_specific_options.CodecSpecificOptions.{CodecSpecificOptions}
use Rattle.zarrs_codec_error.specs.CodecSpecificOptions.{entries_seen, options_seen}

abbrev pub Entry : Type 0
Entry = String Global × Configuration

-- how a text compares to a key
abbrev pub against : List ℕ → String Global → Ordering
against name key = slice_cmp nat_cmp name (string_bytes key)

find-entries_seen : (name : List ℕ) (es : List Entry) →
    find (slice_cmp nat_cmp) name (entries_seen es) ≡ option_map configuration_seen (lookup (is_at (against name)) es)
find-entries_seen name [] = refl
find-entries_seen name (e ∷ es) =
    ap (cond (is_at (against name) e.0) (Some (configuration_seen e.1))) (find-entries_seen name es)
    ∙ elim (is_at (against name) e.0) as (λ b.
    cond b (Some (configuration_seen e.1)) (option_map configuration_seen (lookup (is_at (against name)) es)) ≡
    option_map configuration_seen (cond b (Some e.1) (lookup (is_at (against name)) es)))
    [ true ↦ refl | false ↦ refl ]

-- a look-up in the options is one in the map
pub get_seen : (o : CodecSpecificOptions) (name : List ℕ) →
    finite.get (options_seen o) name ≡ option_map configuration_seen (get_by (against name) o.options)
get_seen o name =
    get-from_entries nat_list_cmp_total (entries_seen o.options.entries) name ∙ find-entries_seen name o.options.entries

seen_by_order : (r : Ordering) (a b c : List Entry) →
    entries_seen (match_ordering r a b c) ≡ match_ordering r (entries_seen a) (entries_seen b) (entries_seen c)
seen_by_order Less a b c = refl
seen_by_order Equal a b c = refl
seen_by_order Greater a b c = refl

entries_put : (es : List Entry) (k : String Global) (v : Configuration) →
    entries_seen (insert_entry string_cmp es k v) ≡
    put (slice_cmp nat_cmp) (string_bytes k) (configuration_seen v) (entries_seen es)
entries_put [] k v = refl
entries_put (e ∷ es) k v = seen_by_order (string_cmp k e.0) _ _ _ ∙ rw (entries_put es k v)

below_middle : (first : Entry) (es : List Entry) (e : Entry) (more : List Entry) →
    AllByRecursion (λ y. string_cmp first.0 y ≡ Less) (keys_of (es ++ e ∷ more)) → string_cmp first.0 e.0 ≡ Less
below_middle first [] e more h = h.0
below_middle first (x ∷ es) e more h = below_middle first es e more h.1

-- a name that is above those before it goes last
put_last : (done : List Entry) (e : Entry) (more : List Entry) →
    IsStrictlySortedBy string_cmp (keys_of (done ++ e ∷ more)) →
    put (slice_cmp nat_cmp) (string_bytes e.0) (configuration_seen e.1) (entries_seen done) ≡
    entries_seen (done ++ e ∷ [])
unfolding IsStrictlySortedBy
put_last [] e more h = refl
put_last (first ∷ done) e more h =
    let above : slice_cmp nat_cmp (string_bytes e.0) (string_bytes first.0) ≡ Greater =
    nat_list_cmp_total.antisymm (string_bytes e.0) (string_bytes first.0)
    ∙ ap ordering_reverse (below_middle first done e more h.0) in
    rw above (ap (λ es. (string_bytes first.0, configuration_seen first.1) ∷ es) (put_last done e more h.1))

-- copies of the first entries, and of the next one
pub entries_copied :
    (copies done : List Entry) (e : Entry) (more : List Entry) (k : String Global) (v : Configuration) →
    entries_seen copies ≡ entries_seen done → string_bytes k ≡ string_bytes e.0 →
    configuration_seen v ≡ configuration_seen e.1 →
    IsStrictlySortedBy string_cmp (keys_of (done ++ e ∷ more)) →
    entries_seen (insert_entry string_cmp copies k v) ≡ entries_seen (done ++ e ∷ [])
entries_copied copies done e more k v before named same sorted =
    entries_put copies k v ∙ rw (named, same, before) (put_last done e more sorted)

-- one more entry of the map is one more option
pub options_put : (o p : CodecSpecificOptions) (k : String Global) (v : Configuration) →
    p.options.entries ≡ insert_entry string_cmp o.options.entries k v →
    options_seen p ≡ finite.insert (options_seen o) (string_bytes k) (configuration_seen v)
options_put o p k v e =
    let same = slice_cmp-IsAntisymmetric nat_cmp-IsAntisymmetric in
    let total = nat_list_cmp_total in
    let old = entries_seen o.options.entries in
    same_map total same (options_seen p) (finite.insert (options_seen o) (string_bytes k) (configuration_seen v))
    (λ q. get-from_entries total (entries_seen p.options.entries) q
    ∙ ap (λ es. find (slice_cmp nat_cmp) q es) (ap entries_seen e ∙ entries_put o.options.entries k v)
    ∙ find-put (slice_cmp nat_cmp) total q (string_bytes k) (configuration_seen v) old
    ∙ ap (cond (eq_by_cmp (slice_cmp nat_cmp) q (string_bytes k)) (Some (configuration_seen v)))
    (sym (get-from_entries total old q))
    ∙ sym (get-insert total (options_seen o) (string_bytes k) (configuration_seen v) q))
