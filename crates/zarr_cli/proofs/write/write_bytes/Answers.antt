use Rattle.std.proofs.Common.{◌≡◌, ℕ, ◌-◌, ◌≤◌, le_trans, List, ◌++◌, length, take, drop, Option, Some, None}
use Rattle.std.proofs.Common.{option_map, refl, sym, subst, ap, ◌∙◌, append_assoc, arith, length-drop}
use Rattle.std.proofs.lemmas.List.{take_all}
use Rattle.std.proofs.Math.Seq.{take-add}
use Rattle.zarr_cli_runs.specs.Ending.{IsGiven}
use Rattle.zarr_cli.proofs.write.write_bytes.Goals as goal

-- a sink that was given two texts was given both as one
given_more : (a b : List ℕ) (before mid now : Option (List ℕ)) → IsGiven a before mid →
    now ≡ option_map (λ bytes. bytes ++ b) mid → IsGiven (a ++ b) before now
given_more a b before mid now first second = second ∙ (ap (option_map (λ bytes. bytes ++ b)) first ∙ joined before)
  where
    joined : (o : Option (List ℕ)) → option_map (λ bytes. bytes ++ b) (option_map (λ bytes. bytes ++ a) o) ≡
        option_map (λ bytes. bytes ++ (a ++ b)) o
    joined None = refl
    joined (Some bytes) = ap Some (append_assoc bytes a b)

pub pieces-preserved : goal.pieces-preserved
pieces-preserved g c =
    let text : List ℕ = c.args.text.now in
    let done : ℕ = c.pieces.done in
    let taken : ℕ = c.in_ok-done.field-0 in
    let rest : take (length text - done) (drop done text) ≡ drop done text =
    take_all (length text - done) (drop done text) (omega (arith, length-drop done text)) in
    let next : (g.W.Sink.shown c.write.new.self).bytes ≡ option_map (λ bytes. bytes ++ take taken
    (take (length text - done) (drop done text))) (g.W.Sink.shown c.pieces.sink).bytes = c.in_ok-done.ensures.next in
    let few : taken ≤ length (drop done text) =
    subst (λ piece. taken ≤ length piece) rest c.in_ok-done.ensures.within in
    let later : (g.W.Sink.shown c.pieces.sink).faults ≤ (g.W.Sink.shown c.write.new.self).faults =
    c.write.ensures.cause.later in
    record {
      within = omega (arith, length-drop done text);
      given = subst (λ bytes. IsGiven bytes (g.W.Sink.shown c.args.sink.now).bytes
          (g.W.Sink.shown c.write.new.self).bytes) (sym (take-add done taken text))
          (given_more (take done text) (take taken (drop done text)) (g.W.Sink.shown c.args.sink.now).bytes
          (g.W.Sink.shown c.pieces.sink).bytes (g.W.Sink.shown c.write.new.self).bytes c.pieces.invariant.given
          (subst (λ piece. (g.W.Sink.shown c.write.new.self).bytes ≡
          option_map (λ bytes. bytes ++ take taken piece) (g.W.Sink.shown c.pieces.sink).bytes) rest next));
      later = le_trans c.pieces.invariant.later later;
    }
