-- Byte order: twice, and as the model's codec has it.
use Rattle.std.proofs.Common.{◌≡◌, ℕ, zero, suc, ◌*◌, ◌/◌, ◌<◌, ◌==◌, if◌then◌else◌, Bool, true, false, List, []}
use Rattle.std.proofs.Common.{◌++◌, length, take, drop, reverse, flat_map, Option, Some, None, sym, ap, ◌∙◌}
use Rattle.std.proofs.Common.{arith}
use Rattle.std.proofs.lemmas.List.{length-drop, nil_from_length}
use Rattle.std.proofs.Math.Nat.{suc-mul, mul-div_cancel}
use Rattle.zarr_model.specs.ArrayBytes.{pieces}
use Rattle.zarr_model.specs.Codec.{big, from_order}
use Rattle.zarr_model.specs.declared.endianness.Endianness.{Endianness}
use Rattle.zarr_model.specs.declared.endianness.Endianness.TheVariants.{Little, Big}
use Rattle.zarrs_data_type_bytes.specs.Pieces.{in_pieces, components_reversed}
use Rattle.zarrs_data_type_bytes.specs.ByteOrder.{ordered, in_order}
use Rattle.zarrs_data_type_bytes.proofs.PieceLaws.{reversed_back}

abbrev held : Option (List ℕ) → List ℕ
held None = []
held (Some list) = list

ordered_back : (n : ℕ) (order : Option Endianness) (bytes there : List ℕ) → ordered n order bytes ≡ Some there →
    ordered n order there ≡ Some bytes
ordered_back n None bytes there e = cc
ordered_back n (Some Little) bytes there e = sym e
ordered_back n (Some Big) bytes there e =
    ap (λ l. Some (components_reversed n l)) (sym (ap held e)) ∙ ap Some (reversed_back n bytes)

pub undone : (n : ℕ) (order : Option Endianness) (bytes there : List ℕ) → in_order n order bytes ≡ Some there →
    in_order n order there ≡ Some bytes
undone n order bytes there e = go (n == 1) e
  where
    go : (b : Bool) → (if b then Some bytes else ordered n order bytes) ≡ Some there →
        (if b then Some there else ordered n order there) ≡ Some bytes
    go true e = sym e
    go false e = ordered_back n order bytes there e

-- pieces that are all of some bytes
pub all_pieces : (change : List ℕ → List ℕ) (n k : ℕ) (bytes : List ℕ) → length bytes ≡ k * n →
    in_pieces change k n bytes ≡ flat_map change (pieces k n bytes)
all_pieces change n zero bytes e = nil_from_length bytes (omega (arith, e))
all_pieces change n (suc k) bytes e =
    ap (λ l. change (take n bytes)
    ++ l) (all_pieces change n k (drop n bytes) (omega (arith, length-drop n bytes, e, suc-mul k n)))

pub decodes : (n k : ℕ) (bytes : List ℕ) → 0 < n → length bytes ≡ k * n →
    components_reversed n bytes ≡ from_order big n bytes
decodes n k bytes some e =
    all_pieces reverse n (length bytes / n) bytes
    (e ∙ ap (λ m. m * n) (sym (ap (λ m. m / n) e ∙ mul-div_cancel k some)))
