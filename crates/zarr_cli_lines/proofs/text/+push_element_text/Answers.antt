use Rattle.std.proofs.Common.{◌≡◌, ◌++◌, [], ◌∷◌, List, ℕ, OnOk, ap, ap₂, sym, subst, ◌∙◌, get_or, append_assoc}
use Rattle.std.specs.Cow.{cow_slice_items}
use Rattle.zarrs_codec_array_bytes.specs.Raw.{raw_of}
use Rattle.zarrs_codec_array_bytes.specs.Steps.{kind_seen}
use Rattle.zarr_cli_lines.specs.Place.{text_at}
use Rattle.zarr_cli_lines.proofs.PlaceLaws.{null_at, held_at}
use Rattle.zarr_cli_lines.proofs.text.+push_element_text.Goals as goal

pub returns-then-flags-index-eq0 : goal.returns-then-flags-index-eq0
returns-then-flags-index-eq0 t c =
    c.in_ok-push-in-Optional-Optional.ensures.items ∙ ap (λ (xs : List ℕ). c.args.text.now.items ++ xs)
    (sym (null_at (kind_seen c.args.data_type.now) (kind_seen c.in-Optional-Optional.inner.now) c.args.elements
    c.args.index (raw_of c.args.bytes.now) (raw_of c.in-Optional-Optional.optional.inner.value)
    (cow_slice_items c.in-Optional-Optional.optional.mask)
    c.in-Optional-Optional.ensures.kind (ap raw_of c.in-Optional-Optional.is-1) c.requires
    (sym (ap (λ m. get_or m c.args.index 0) c.flags.ensures) ∙ c.if-flags-index-eq0.true)))

pub returns-in_ok-push-in-Optional-Optional-2 : goal.returns-in_ok-push-in-Optional-Optional-2
returns-in_ok-push-in-Optional-Optional-2 t c =
    let inner = kind_seen c.in-Optional-Optional.inner.now in
    let under = raw_of c.in-Optional-Optional.optional.inner.value in
    let rest = text_at inner c.args.elements under c.args.index in
    let held = held_at (kind_seen c.args.data_type.now) inner c.args.elements c.args.index (raw_of c.args.bytes.now)
    under (cow_slice_items c.in-Optional-Optional.optional.mask)
    c.in-Optional-Optional.ensures.kind (ap raw_of c.in-Optional-Optional.is-1) c.requires
    (λ none. c.if-flags-index-eq0.false (ap (λ m. get_or m c.args.index 0) c.flags.ensures ∙ none)) in
    let all = ap₂ (λ (a : List ℕ) (b : List ℕ). a ++ b) c.in_ok-push-in-Optional-Optional-2.ensures.items
    (ap (λ r. text_at inner c.args.elements r c.args.index) c.data.ensures.value)
    ∙ (append_assoc c.args.text.now.items (43 ∷ []) rest
    ∙ ap (λ (xs : List ℕ). c.args.text.now.items ++ xs) (sym held.1)) in
    subst (λ (xs : List ℕ). OnOk c.push_element_text.result (c.push_element_text.new.text.items ≡ xs)) all
    c.push_element_text.ensures
