-- A text has one document, and a session whose text is refused ends by that refusal.
use Rattle.std.proofs.Common.{◌≡◌, sym, ◌∙◌}
use Rattle.zarr_array_open.specs.Document.{ArrayDocument}
use Rattle.zarr_array_open.specs.Opening.{OpenAnswer, opened}
use Rattle.zarr_array_open.proofs.DocumentLaws.{same_opened}

pub one_document : (a b : ArrayDocument) (answer : OpenAnswer) → answer ≡ opened a → answer ≡ opened b → a ≡ b
one_document a b answer first second = same_opened a b (sym first ∙ second)
