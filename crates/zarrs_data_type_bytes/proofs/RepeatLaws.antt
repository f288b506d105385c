-- A list again and again: one without bytes, and one of one byte.
use Rattle.std.proofs.Common.{◌≡◌, ℕ, zero, suc, ◌<◌, List, [], ◌∷◌, length, replicate, refl, ap, arith}
use Rattle.zarrs_data_type_bytes.specs.Pieces.{repeated}

pub repeated_none : (k : ℕ) (list : List ℕ) → length list < 1 → [] ≡ repeated k list
repeated_none zero list none = refl
repeated_none (suc k) [] none = repeated_none k [] none
repeated_none (suc k) (b ∷ list) none = absurd (omega (arith, none))

pub repeated_byte : (k byte : ℕ) → replicate k byte ≡ repeated k (byte ∷ [])
repeated_byte zero byte = refl
repeated_byte (suc k) byte = ap (λ l. byte ∷ l) (repeated_byte k byte)
