-- The summary of a run.
use Rattle.std.specs.Prelude.{ℕ, List, ◌∷◌, ◌++◌, length, codes, decimal}
use Rattle.std.specs.List.{sum_by}
use Rattle.hex.specs.Hex.{encode_lower}
use Rattle.sha2.specs.Sha256.{sha256}
use Rattle.zarr_model.specs.Command as Model
use Rattle.zarr_model.specs.Command.{Reply}
use Rattle.zarr_cli_lines.specs.Text.{line_of, replies_text}

-- 1 for a reply with elements, and 0 for another
abbrev pub ok_count : Reply → ℕ
ok_count (Model.elements list) = 1
ok_count Model.done = 0
ok_count (Model.refused why) = 0

-- 1 for a reply that says done, and 0 for another
abbrev pub done_count : Reply → ℕ
done_count (Model.elements list) = 0
done_count Model.done = 1
done_count (Model.refused why) = 0

-- 1 for a reply that refuses, and 0 for another
abbrev pub refused_count : Reply → ℕ
refused_count (Model.elements list) = 0
refused_count Model.done = 0
refused_count (Model.refused why) = 1

-- how many elements a reply has
abbrev pub element_count : Reply → ℕ
element_count (Model.elements list) = length list
element_count Model.done = 0
element_count (Model.refused why) = 0

-- the line of a name and a number
abbrev pub number_line : List ℕ → ℕ → List ℕ
number_line name number = line_of (name ++ 32 ∷ decimal number)

-- the line of the digest of a text
abbrev pub digest_line : List ℕ → List ℕ
digest_line text = line_of (codes "sha256 " ++ encode_lower (sha256 text))

-- the seven lines of these numbers of replies by kind, of their elements and of keys, and of the
-- digest of a text
abbrev pub summary_lines : ℕ → ℕ → ℕ → ℕ → ℕ → List ℕ → List ℕ
summary_lines ok done refused elements keys text =
    number_line (codes "commands") 300 ++ (number_line (codes "ok") ok
    ++ (number_line (codes "done") done ++ (number_line (codes "refused") refused
    ++ (number_line (codes "elements") elements ++ (number_line (codes "keys") keys
    ++ digest_line text)))))

-- the summary of a run's replies, and of how many keys its store has at the end: the digest is that
-- of the reply lines
abbrev pub summary_text : List Reply → ℕ → List ℕ
summary_text list keys =
    summary_lines (sum_by ok_count list) (sum_by done_count list) (sum_by refused_count list)
    (sum_by element_count list) keys (replies_text list)
