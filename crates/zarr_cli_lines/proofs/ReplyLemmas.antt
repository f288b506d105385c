-- The text of a reply, for each reply of the model that it matches.
use Rattle.std.proofs.Common.{◌≡◌, ℕ, List, ◌++◌, length, Some, codes, ap, ◌∙◌, append_assoc}
use Rattle.zarr_model.specs.Prelude.{Kind, ArrayBytes, meaning, Reply, elements, done, refused, Refusal, answered}
use Rattle.zarr_model.specs.Prelude.{answered_done, answered_refused, Matches, refusal_name, Element}
use Rattle.zarr_cli_lines.specs.Text.{elements_text, reply_text}

-- of elements
pub elements_put : (kind : Kind) (bytes : ArrayBytes) (before middle now : List ℕ) → middle ≡ before ++ codes "ok" →
    ((list : List Element) → meaning kind (length list) bytes ≡ Some list → now ≡ middle ++ elements_text list) →
    (answer : Reply) → Matches kind (answered bytes) answer → now ≡ before ++ reply_text answer
elements_put kind bytes before middle now ok put (elements list) h =
    put list h ∙ (ap (λ t. t ++ elements_text list) ok ∙ append_assoc before (codes "ok") (elements_text list))
elements_put kind bytes before middle now ok put done h = absurd h
elements_put kind bytes before middle now ok put (refused why) h = absurd h

-- of one that says done
pub done_put : (kind : Kind) (before now : List ℕ) → now ≡ before ++ codes "done" → (answer : Reply) →
    Matches kind answered_done answer → now ≡ before ++ reply_text answer
done_put kind before now put (elements list) h = absurd h
done_put kind before now put done h = put
done_put kind before now put (refused why) h = absurd h

-- of one that refuses
pub refused_put : (kind : Kind) (why : Refusal) (before now : List ℕ) →
    now ≡ before ++ (codes "refused " ++ refusal_name why) → (answer : Reply) →
    Matches kind (answered_refused why) answer → now ≡ before ++ reply_text answer
refused_put kind why before now put (elements list) h = absurd h
refused_put kind why before now put done h = absurd h
refused_put kind why before now put (refused other) h =
    put ∙ ap (λ refusal. before ++ (codes "refused " ++ refusal_name refusal)) h

pub ruleset of_answers = (elements_put, done_put, refused_put)
