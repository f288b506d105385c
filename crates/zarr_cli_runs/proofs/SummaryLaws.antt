-- The summary of replies is that of the model's replies that they match.
use Rattle.std.proofs.Common.{◌≡◌, ℕ, ◌+◌, ◌*◌, ◌/◌, ◌<◌, List, [], ◌∷◌, ◌++◌, length, map, Some, None, refl, sym, ap}
use Rattle.std.proofs.Common.{ap₂, ◌∙◌}
use Rattle.std.proofs.Math.Nat.{mul-div_cancel}
use Rattle.std.proofs.lemmas.List.Sums.{sum_by-cons}
use Rattle.std.specs.List.{AllZip, sum_by}
use Rattle.zarr_model.specs.Prelude.{Element, fixed, ArrayBytes, fixed_bytes, variable_bytes, optional_bytes, meaning}
use Rattle.zarr_model.specs.Prelude.{Matches}
use Rattle.zarr_model.specs.Command as Model
use Rattle.zarr_model.proofs.Choices.{some_now}
use Rattle.zarrs_codec_slices.proofs.FixedLaws.{meaning_long}
use Rattle.zarrs_codec_array_bytes.specs.Raw.{raw_of}
use Rattle.zarr_array.specs.boxes.Command.{answer_of}
use Rattle.zarr_array.specs.boxes.declared.command.Reply.{Reply}
use Rattle.zarr_array.specs.boxes.declared.command.Reply.TheVariants.{Elements, Done, Refused}
use Rattle.zarr_cli_lines.specs.Place.{fixed_part}
use Rattle.zarr_cli_lines.specs.Text.{replies_text}
use Rattle.zarr_cli_lines.specs.Parts.{IsTextOfReplies}
use Rattle.zarr_cli_runs.specs.Summary.{ok_count, done_count, refused_count, element_count, summary_lines, summary_text}
use Rattle.zarr_cli_runs.specs.Tally.{ok_held, done_held, refused_held, elements_held, summary_held}

-- the elements that bytes mean are as many as their pieces
as_many : (n : ℕ) (bytes : ArrayBytes) (list : List Element) → 0 < n →
    meaning (fixed n) (length list) bytes ≡ Some list → length (fixed_part bytes) / n ≡ length list
as_many n (fixed_bytes value) list some h =
    let long : length value ≡ length list * n =
    meaning_long n some (length list) value (some_now (meaning (fixed n) (length list) (fixed_bytes value)) list h) in
    ap (λ m. m / n) long ∙ mul-div_cancel (length list) some
as_many n (variable_bytes value offsets) list some h = absurd (none h)
  where
    none : None ≡ Some list → ⊥
    none e = cc
as_many n (optional_bytes under mask) list some h = absurd (none h)
  where
    none : None ≡ Some list → ⊥
    none e = cc

-- each number of a reply is that of the reply that it matches
pub record SameCounts (n : ℕ) (held : Reply) (reply : Model.Reply) : Type 0 where
  pub ok : ok_held held ≡ ok_count reply
  pub done : done_held held ≡ done_count reply
  pub refused : refused_held held ≡ refused_count reply
  pub elements : elements_held n held ≡ element_count reply

same_counts : (n : ℕ) (held : Reply) (reply : Model.Reply) → 0 < n → Matches (fixed n) (answer_of held) reply →
    SameCounts n held reply
same_counts n (Elements bytes) (Model.elements list) some h =
    record { ok = refl; done = refl; refused = refl; elements = as_many n (raw_of bytes) list some h }
same_counts n (Elements bytes) Model.done some h = absurd h
same_counts n (Elements bytes) (Model.refused why) some h = absurd h
same_counts n Done (Model.elements list) some h = absurd h
same_counts n Done Model.done some h = record { ok = refl; done = refl; refused = refl; elements = refl }
same_counts n Done (Model.refused why) some h = absurd h
same_counts n (Refused why) (Model.elements list) some h = absurd h
same_counts n (Refused why) Model.done some h = absurd h
same_counts n (Refused why) (Model.refused other) some h =
    record { ok = refl; done = refl; refused = refl; elements = refl }

-- so are their sums
same_sums : (f : Reply → ℕ) (g : Model.Reply → ℕ) (n : ℕ) →
    ((held : Reply) (reply : Model.Reply) → Matches (fixed n) (answer_of held) reply → f held ≡ g reply) →
    (held : List Reply) (replies : List Model.Reply) → AllZip (Matches (fixed n)) (map answer_of held) replies →
    sum_by f held ≡ sum_by g replies
same_sums f g n same [] [] h = refl
same_sums f g n same [] (reply ∷ replies) h = absurd h
same_sums f g n same (one ∷ held) [] h = absurd h
same_sums f g n same (one ∷ held) (reply ∷ replies) h =
    sum_by-cons f one held ∙ (ap₂ (λ a b. a + b) (same one reply h.0) (same_sums f g n same held replies h.1)
    ∙ sym (sum_by-cons g reply replies))

pub same_summary : (n keys : ℕ) (text : List ℕ) → 0 < n → (held : List Reply) (replies : List Model.Reply) →
    AllZip (Matches (fixed n)) (map answer_of held) replies → text ≡ replies_text replies →
    summary_held n held keys text ≡ summary_text replies keys
same_summary n keys text some held replies h lines =
    ap₂ (λ a b. summary_lines a b (sum_by refused_held held) (sum_by (elements_held n) held) keys text)
    (same_sums ok_held ok_count n (λ one reply m. (same_counts n one reply some m).ok) held replies h)
    (same_sums done_held done_count n (λ one reply m. (same_counts n one reply some m).done) held replies h)
    ∙ (ap₂ (λ a b. summary_lines (sum_by ok_count replies) (sum_by done_count replies) a b keys text)
    (same_sums refused_held refused_count n (λ one reply m. (same_counts n one reply some m).refused) held replies h)
    (same_sums (elements_held n) element_count n (λ one reply m. (same_counts n one reply some m).elements) held replies
    h)
    ∙ ap (λ lines. summary_lines (sum_by ok_count replies) (sum_by done_count replies) (sum_by refused_count replies)
    (sum_by element_count replies) keys lines) lines)

-- the text with a summary of replies is that with the summary of each list that they match
pub summarised : (n keys : ℕ) (lines before now : List ℕ) → 0 < n → (held : List Reply) (replies : List Model.Reply) →
    now ≡ before ++ summary_held n held keys lines → IsTextOfReplies (fixed n) held lines →
    AllZip (Matches (fixed n)) (map answer_of held) replies → now ≡ before ++ summary_text replies keys
summarised n keys lines before now some held replies put text h =
    put ∙ ap (λ text. before ++ text) (same_summary n keys lines some held replies h (text replies h))
