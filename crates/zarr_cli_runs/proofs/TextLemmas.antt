-- The text of replies, one after another.
use Rattle.std.proofs.Common.{◌≡◌, ℕ, ◌+◌, ◌<◌, List, [], ◌∷◌, ◌++◌, length, map, take, get_or, refl, sym, ap, ◌∙◌}
use Rattle.std.proofs.Common.{subst, add-one, append-nil, append_assoc}
use Rattle.std.proofs.Math.Seq.{take-suc, take-length}
use Rattle.std.proofs.lemmas.List.{map-append}
use Rattle.std.specs.List.{AllZip}
use Rattle.zarr_model.specs.Prelude.{Kind, Matches}
use Rattle.zarr_model.specs.Command as Model
use Rattle.zarr_array.specs.boxes.Command.{answer_of}
use Rattle.zarr_array.specs.boxes.declared.command.Reply.{Reply}
use Rattle.zarr_cli_lines.specs.Text.{line_of, reply_text, replies_text}
use Rattle.zarr_cli_lines.specs.Parts.{IsTextOfReplies, AppendsReply}

-- no replies have no text
pub no_text : (kind : Kind) (held : List Reply) (text : List ℕ) → text ≡ [] → IsTextOfReplies kind (take 0 held) text
no_text kind held text none [] h = none
no_text kind held text none (answer ∷ answers) h = absurd h

-- the last pair of two lists
record LastPair {A B : Type 0} (P : A → B → Type 0) (xs : List A) (x : A) (ys : List B) : Type 0 where
  front : List B
  last : B
  parts : ys ≡ front ++ last ∷ []
  before : AllZip P xs front
  here : P x last

last_pair : {A B : Type 0} (P : A → B → Type 0) (xs : List A) (x : A) (ys : List B) → AllZip P (xs ++ x ∷ []) ys →
    LastPair P xs x ys
last_pair P [] x [] h = absurd h
last_pair P [] x (y ∷ []) h = record { front = []; last = y; parts = refl; before = tt; here = h.0 }
last_pair P [] x (y ∷ z ∷ ys) h = absurd h.1
last_pair P (w ∷ xs) x [] h = absurd h
last_pair P (w ∷ xs) x (y ∷ ys) h = let rest = last_pair P xs x ys h.1 in record {
  front = y ∷ rest.front;
  last = rest.last;
  parts = ap (λ l. y ∷ l) rest.parts;
  before = (h.0, rest.before);
  here = rest.here;
}

joined_last : (front : List Model.Reply) (last : Model.Reply) →
    replies_text (front ++ last ∷ []) ≡ replies_text front ++ line_of (reply_text last)
joined_last [] last = append-nil (line_of (reply_text last))
joined_last (x ∷ front) last = ap (λ l. line_of (reply_text x) ++ l) (joined_last front last)
    ∙ sym (append_assoc (line_of (reply_text x)) (replies_text front) (line_of (reply_text last)))

-- one line more
pub one_line_more : (kind : Kind) (held : List Reply) (i : ℕ) (reply : Reply) (before now : List ℕ) → i < length held →
    get_or held i reply ≡ reply → IsTextOfReplies kind (take i held) before → AppendsReply kind reply before now →
    IsTextOfReplies kind (take (i + 1) held) now
one_line_more kind held i reply before now inside here so_far put answers h =
    let whole : take (i + 1) held ≡ take i held ++ reply ∷ [] =
    ap (λ n. take n held) (add-one i) ∙ (take-suc held i reply inside ∙ ap (λ r. take i held ++ r ∷ []) here) in
    let zipped : AllZip (Matches kind) (map answer_of (take i held) ++ answer_of reply ∷ []) answers =
    subst (λ l. AllZip (Matches kind) l answers)
    (ap (map answer_of) whole ∙ map-append answer_of (take i held) (reply ∷ [])) h in
    let pair = last_pair (Matches kind) (map answer_of (take i held)) (answer_of reply) answers zipped in
    put pair.last pair.here ∙ (ap (λ t. t ++ line_of (reply_text pair.last)) (so_far pair.front pair.before)
    ∙ (sym (joined_last pair.front pair.last) ∙ ap replies_text (sym pair.parts)))

-- all of them
pub all_lines : (kind : Kind) (held : List Reply) (i : ℕ) (text : List ℕ) → i ≡ length held →
    IsTextOfReplies kind (take i held) text → IsTextOfReplies kind held text
all_lines kind held i text last so_far =
    subst (λ l. IsTextOfReplies kind l text) (ap (λ n. take n held) last ∙ take-length held) so_far
