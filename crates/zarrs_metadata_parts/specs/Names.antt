-- Separators as characters and texts.
use Rattle.std.specs.Prelude.{ℕ, ◌==◌, if◌then◌else◌, List, Result, Ok, Err, codes}
use Rattle.zarrs_metadata_parts.specs.declared.array.chunk_key_separator.ChunkKeySeparator.{ChunkKeySeparator}
use Rattle.zarrs_metadata_parts.specs.declared.array.chunk_key_separator.ChunkKeySeparator.TheVariants.{Slash, Dot}

abbrev pub separator_code : ChunkKeySeparator → ℕ
separator_code Slash = 47
separator_code Dot = 46

abbrev pub separator_text : ChunkKeySeparator → List ℕ
separator_text Slash = codes "/"
separator_text Dot = codes "."

-- any other character is handed back
abbrev pub separator_of : ℕ → Result ChunkKeySeparator ℕ
separator_of c = if c == 47 then Ok Slash else if c == 46 then Ok Dot else Err c
