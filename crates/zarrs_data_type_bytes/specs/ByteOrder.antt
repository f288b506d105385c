-- The bytes of elements in an order.
use Rattle.std.specs.Prelude.{◌≡◌, ℕ, ◌==◌, if◌then◌else◌, List, Option, Some, None, Result, Ok, Err}
use Rattle.std.specs.Cow.{cow_slice_items}
use Rattle.std.specs.declared.borrow.CowSlice.{CowSlice}
use Rattle.std.specs.declared.alloc.Global.{Global}
use Rattle.std.specs.declared.vec.Vec.{Vec}
use Rattle.zarr_model.specs.declared.endianness.Endianness.{Endianness}
use Rattle.zarr_model.specs.declared.endianness.Endianness.TheVariants.{Little, Big}
use Rattle.zarrs_data_type_bytes.specs.Pieces.{components_reversed}
use Rattle.zarrs_data_type_bytes.specs.declared.codec_traits.bytes.BytesCodecEndiannessMissingError.{
  BytesCodecEndiannessMissingError,
}
use Rattle.zarrs_data_type_bytes.specs.declared.codec_traits.bytes.BytesCodecFault.{BytesCodecFault}
use Rattle.zarrs_data_type_bytes.specs.declared.codec_traits.bytes.BytesCodecFault.TheVariants.{EndiannessMissing}
use Rattle.zarrs_data_type_bytes.specs.declared.codec_traits.bytes.BytesCodecFault.TheVariants.{OutOfMemory}

-- bytes in an order of their components, which may be missing: each component of n bytes is
-- reversed where the order is big
abbrev pub ordered : ℕ → Option Endianness → List ℕ → Option (List ℕ)
ordered n None bytes = None
ordered n (Some Little) bytes = Some bytes
ordered n (Some Big) bytes = Some (components_reversed n bytes)

-- the same where components of one byte need no order
abbrev pub in_order : ℕ → Option Endianness → List ℕ → Option (List ℕ)
in_order n order bytes = if n == 1 then Some bytes else ordered n order bytes

-- a call gave the bytes, or said that the order is missing, or memory ran out
abbrev pub Orders : Result (CowSlice ℕ Global) BytesCodecFault → Option (List ℕ) → Type 0
Orders (Ok cow) expected = expected ≡ Some (cow_slice_items cow)
Orders (Err (EndiannessMissing error)) expected = expected ≡ None
Orders (Err OutOfMemory) expected = Unit {0}

-- a call left the bytes where they lie, or said that the order is missing and left what was there
abbrev pub OrdersInPlace : Result (Unit {0}) BytesCodecEndiannessMissingError →
    Option (List ℕ) → List ℕ → List ℕ → Type 0
OrdersInPlace (Ok done) expected old new = expected ≡ Some new
OrdersInPlace (Err error) expected old new = (expected ≡ None) × (new ≡ old)

-- a call gave the bytes that it was handed, or said that the order is missing
abbrev pub OrdersBytes : Result (Vec ℕ Global) BytesCodecEndiannessMissingError →
    Option (List ℕ) → Type 0
OrdersBytes (Ok ordered) expected = expected ≡ Some ordered.items
OrdersBytes (Err error) expected = expected ≡ None

abbrev pub bytes_out_of_memory : BytesCodecFault
bytes_out_of_memory = OutOfMemory
