-- What holds where no fault is told.
use Rattle.std.proofs.Common.{Bool, true, false, Result, Ok, Err}
use Rattle.zarrs_codec_error.specs.declared.error.CodecError.{CodecError}
use Rattle.zarrs_codec_traits.specs.Writes.{is_fault, Unless, UnlessFault}

pub unless_of : {T P : Type 0} (r : Result T CodecError) → P → UnlessFault r P
unless_of (Ok v) p = tt
unless_of {T} {P} (Err e) p = go (is_fault e)
  where
    go : (b : Bool) → Unless b P
    go true = tt
    go false = p

-- and what follows from it
pub unless : {T P Q : Type 0} (r : Result T CodecError) → (P → Q) → UnlessFault r P → UnlessFault r Q
unless (Ok v) f p = p
unless {T} {P} {Q} (Err e) f p = go (is_fault e) p
  where
    go : (b : Bool) → Unless b P → Unless b Q
    go true p = p
    go false p = f p
