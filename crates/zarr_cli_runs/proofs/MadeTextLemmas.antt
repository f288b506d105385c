-- Texts put together piece by piece.
use Rattle.std.proofs.Common.{◌≡◌, ℕ, List, ◌++◌, codes, ap, ◌∙◌, append_assoc}
use Rattle.zarr_cli_runs.specs.Summary.{number_line, digest_line, summary_lines}

-- a piece before those that follow
pub joined : (before mid now piece rest : List ℕ) → mid ≡ before ++ piece → now ≡ mid ++ rest →
    now ≡ before ++ (piece ++ rest)
joined before mid now piece rest put then = then ∙ (ap (λ text. text ++ rest) put ∙ append_assoc before piece rest)

-- the seven lines
pub lines_joined : (ok done refused elements keys : ℕ) (lines t₀ t₁ t₂ t₃ t₄ t₅ t₆ now : List ℕ) →
    t₁ ≡ t₀ ++ number_line (codes "commands") 300 → t₂ ≡ t₁ ++ number_line (codes "ok") ok →
    t₃ ≡ t₂ ++ number_line (codes "done") done → t₄ ≡ t₃ ++ number_line (codes "refused") refused →
    t₅ ≡ t₄ ++ number_line (codes "elements") elements → t₆ ≡ t₅ ++ number_line (codes "keys") keys →
    now ≡ t₆ ++ digest_line lines →
    now ≡ t₀ ++ summary_lines ok done refused elements keys lines
lines_joined ok done refused elements keys lines t₀ t₁ t₂ t₃ t₄ t₅ t₆ now e₁ e₂ e₃ e₄ e₅ e₆ last =
    let l₆ : now ≡ t₅ ++ (number_line (codes "keys") keys ++ digest_line lines) =
    joined t₅ t₆ now (number_line (codes "keys") keys) (digest_line lines) e₆ last in
    let l₅ : now ≡ t₄ ++ (number_line (codes "elements") elements ++ rest₆) =
    joined t₄ t₅ now (number_line (codes "elements") elements) rest₆ e₅ l₆ in
    let l₄ : now ≡ t₃ ++ (number_line (codes "refused") refused ++ rest₅) =
    joined t₃ t₄ now (number_line (codes "refused") refused) rest₅ e₄ l₅ in
    let l₃ : now ≡ t₂ ++ (number_line (codes "done") done ++ rest₄) =
    joined t₂ t₃ now (number_line (codes "done") done) rest₄ e₃ l₄ in
    let l₂ : now ≡ t₁ ++ (number_line (codes "ok") ok ++ rest₃) =
    joined t₁ t₂ now (number_line (codes "ok") ok) rest₃ e₂ l₃ in
    joined t₀ t₁ now (number_line (codes "commands") 300) (number_line (codes "ok") ok ++ rest₃) e₁ l₂
  where
    rest₆ : List ℕ
    rest₆ = number_line (codes "keys") keys ++ digest_line lines

    rest₅ : List ℕ
    rest₅ = number_line (codes "elements") elements ++ rest₆

    rest₄ : List ℕ
    rest₄ = number_line (codes "refused") refused ++ rest₅

    rest₃ : List ℕ
    rest₃ = number_line (codes "done") done ++ rest₄
