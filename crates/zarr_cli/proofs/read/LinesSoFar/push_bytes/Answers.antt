use Rattle.std.proofs.Common.{◌++◌, ◌∷◌, [], refl, sym, ap, ◌∙◌, subst, append_assoc, rules}
use Rattle.zarr_cli.specs.Steps.{AreRead}
use Rattle.zarr_cli.specs.declared.read.LinesSoFar.{LinesSoFar}
use Rattle.zarr_cli.proofs.ReadLaws.{front_kept, bad_stays}
use Rattle.zarr_cli.proofs.read.LinesSoFar.push_bytes.Goals as goal

pub returns-in_default : goal.returns-in_default
returns-in_default c = λ taken read.
    let (done, parts, reads) = c.lines.invariant in
    let new : LinesSoFar =
    record { lines = c.lines.self.lines; line = c.extend_from_slice.new.self; bad = c.lines.self.bad } in
    subst (λ t. AreRead t new) (append_assoc taken done c.lines.left.now ∙ ap (λ p. taken ++ p) (sym parts))
    (front_kept (taken ++ done) c.lines.left.now c.lines.self new (search rules) c.in_default.ensures.none refl
    (search rules) refl (reads taken read))

pub lines-preserved : goal.lines-preserved
lines-preserved c =
    let (done, parts, reads) = c.lines.invariant in
    let line = c.in-Some.line.now in
    let others = c.in-Some.others.now in (
      done ++ (line ++ 10 ∷ []),
      parts ∙ (ap (λ l. done ++ l) (c.in-Some.ensures.some.0 ∙ sym (append_assoc line (10 ∷ []) others))
          ∙ sym (append_assoc done (line ++ 10 ∷ []) others)),
      λ taken read. subst (λ t. AreRead t c.end_line.new.self)
          (append_assoc taken done (line ++ 10 ∷ [])) (c.in_ok-end_line.ensures (taken ++ done) (reads taken read)),
    )

pub returns : goal.returns
returns c = λ taken read.
    let (done, parts, reads) = c.lines.invariant in
    subst (λ t. AreRead t c.lines.self) (append_assoc taken done c.lines.left.now ∙ ap (λ p. taken ++ p) (sym parts))
    (bad_stays (taken ++ done) c.lines.left.now c.lines.self (search rules) (reads taken read))
