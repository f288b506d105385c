-- The keys of a map of slices.
use Rattle.std.proofs.Common.{◌≡◌, ◌∙◌, sym, ℕ, List, is_some}
use Rattle.std.specs.BTreeMap as tree
use Rattle.std.specs.BTreeMap.{BTreeMap}
use Rattle.std.specs.Ordering.{nat_cmp, eq_by_cmp}
use Rattle.std.specs.Cmp.Lexicographic.{slice_cmp, nat_list_cmp_total}
use Rattle.std.specs.List.{list_any}
use Rattle.std.proofs.lemmas.Cmp.{eq_by_cmp_equiv}
use Rattle.std.proofs.lemmas.Map.Made.{is_some-lookup}
use Rattle.std.proofs.lemmas.Map.Views.{list_any-from_Contains, Contains-from_any}
use Rattle.zarrs_storage.proofs.ListLemmas.{tied_same}
use Rattle.zarr_refs.specs.declared.slices.Slice.{Slice}
use Rattle.zarr_refs.specs.Slices.{slice_at}
use Rattle.zarr_refs.specs.RefStore.{ListsSlices}

pub keys_listed : (slices : BTreeMap (List ℕ) Slice) → tree.IsOrdered (slice_cmp nat_cmp) slices →
    ListsSlices slices (tree.keys slices)
keys_listed slices h =
    let any : (key : List ℕ) →
    is_some (slice_at slices key) ≡ list_any (eq_by_cmp (slice_cmp nat_cmp) key) (tree.keys slices) =
    λ key. is_some-lookup (tree.is_at (slice_cmp nat_cmp key)) slices.entries in
    record {
      in_order = h;
      held = λ key. (
        λ here. any key ∙ list_any-from_Contains (eq_by_cmp_equiv nat_list_cmp_total) key (tree.keys slices) here,
        λ some. Contains-from_any tied_same key (tree.keys slices) (sym (any key) ∙ some),
      );
    }
