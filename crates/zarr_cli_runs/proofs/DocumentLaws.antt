-- The document is opened.
use Rattle.std.proofs.Common.{◌≡◌, refl}
use Rattle.zarr_array.specs.parts.Opening.{opened, open_builtin}
use Rattle.zarr_array.proofs.Documents.{opening}
use Rattle.zarr_cli_runs.specs.Document.{document_text, made_document}

pub made_opens : open_builtin document_text ≡ opened made_document
unfolding opening
made_opens = refl
