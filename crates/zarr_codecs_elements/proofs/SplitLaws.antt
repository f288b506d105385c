-- Shapes in two parts.
use Rattle.std.proofs.Common.{◌≡◌, ℕ, ap, ◌∙◌, ◌*◌, ◌<◌, ◌≤◌, ◌^◌, true, List, ◌++◌, ◌-◌, length, take, drop, ap₂}
use Rattle.std.proofs.Common.{arith, sym, subst}
use Rattle.std.specs.List.{range_with_len}
use Rattle.std.proofs.lemmas.List.{length-take-le, length-drop, take-append-drop, take_all}
use Rattle.std.proofs.Math.Nat.{le-mul_of_pos_right, mul_assoc, mul_comm}
use Rattle.zarrs_codec_traits.specs.Prelude.{count_of, AllBelow}
use Rattle.zarr_codecs_elements.specs.Order.{is_order}
use Rattle.zarr_codecs_elements.specs.Moved.{moved_places, in_runs}
use Rattle.zarr_codecs_elements.proofs.CountLaws.{count_of-permuted}
use Rattle.zarr_codecs_elements.proofs.MoveLaws.{moved_below}
use Rattle.zarr_codecs_elements.proofs.LeadLaws.{count_both, first_order, places_of_runs}

pub first_fits : (a b : ℕ) → 0 < b → a * b < 2 ^ 64 → a < 2 ^ 64
first_fits a b some fits = let more : a ≤ a * b = le-mul_of_pos_right a some in omega (arith, more, fits)

pub last_fits : (a b : ℕ) → 0 < a → a * b < 2 ^ 64 → b < 2 ^ 64
last_fits a b some fits = first_fits b a some (subst (λ n. n < 2 ^ 64) (mul_comm a b) fits)

pub run_bytes : (a b size : ℕ) → 0 < a → a * b * size < 2 ^ 64 → b * size < 2 ^ 64
run_bytes a b size some fits = last_fits a (b * size) some (subst (λ n. n < 2 ^ 64) (mul_assoc a b size) fits)

pub runs_low : (order shape runs : List ℕ) (number : ℕ) → is_order order ≡ true → length shape ≡ length order →
    number ≡ count_of shape → runs ≡ moved_places order shape → AllBelow number runs
runs_low order shape runs number e rank is are =
    subst (AllBelow number) (sym are) (subst (λ n. AllBelow n (moved_places order shape))
    (count_of-permuted order shape e rank ∙ sym is) (moved_below order shape e rank))

-- an order whose last dimensions stay, and its shape, in two parts
pub record AreParts (order shape : List ℕ) (lead : ℕ) : Type 0 where
  pub first : is_order (take lead order) ≡ true
  pub rank : length (take lead shape) ≡ length (take lead order)
  pub counted : count_of shape ≡ count_of (take lead shape) * count_of (drop lead shape)
  pub places : in_runs (count_of (drop lead shape)) (moved_places (take lead order) (take lead shape)) ≡
      moved_places order shape

pub parts_of : (order shape : List ℕ) (lead : ℕ) → is_order order ≡ true → length shape ≡ length order →
    lead ≤ length order → drop lead order ≡ range_with_len lead (length order - lead) → AreParts order shape lead
parts_of order shape lead e same few rest =
    let first : List ℕ = take lead order in
    let front : List ℕ = take lead shape in
    let last : List ℕ = drop lead shape in
    let first_long : length first ≡ lead = length-take-le lead order few in
    let front_long : length front ≡ lead = length-take-le lead shape (omega (arith, few, same)) in
    let last_long : length last ≡ length order - lead = length-drop lead shape ∙ ap (λ n. n - lead) same in
    let split : first ++ range_with_len (length first) (length last) ≡ order = ap₂ (λ a b. first ++ range_with_len a b)
    first_long last_long ∙ (ap (λ l. first ++ l) (sym rest) ∙ take-append-drop lead order) in
    let both : front ++ last ≡ shape = take-append-drop lead shape in
    let whole : is_order (first ++ range_with_len (length first) (length last)) ≡ true = ap is_order split ∙ e in
    record {
      first = first_order first (length last) whole;
      rank = front_long ∙ sym first_long;
      counted = ap count_of (sym both) ∙ count_both front last;
      places = sym (places_of_runs first front last whole (front_long ∙ sym first_long)) ∙ ap₂ moved_places split both;
    }

-- the same, with the last lengths as a slice
pub record AreCut (order shape : List ℕ) (lead : ℕ) (last : List ℕ) : Type 0 where
  pub first : is_order (take lead order) ≡ true
  pub counted : count_of shape ≡ count_of (take lead shape) * count_of last
  pub places : in_runs (count_of last) (moved_places (take lead order) (take lead shape)) ≡ moved_places order shape

pub cut_of : (order shape : List ℕ) (lead : ℕ) → is_order order ≡ true → length shape ≡ length order →
    lead ≤ length order → drop lead order ≡ range_with_len lead (length order - lead) →
    AreCut order shape lead (take (length shape - lead) (drop lead shape))
cut_of order shape lead e same few rest =
    let parts = parts_of order shape lead e same few rest in
    let all : take (length shape - lead) (drop lead shape) ≡ drop lead shape =
    take_all (length shape - lead) (drop lead shape) (omega (arith, length-drop lead shape)) in
    subst (AreCut order shape lead) (sym all)
    (record { first = parts.first; counted = parts.counted; places = parts.places })
