-- A level that is not served is refused by its reason.
use Rattle.std.proofs.Common.{◌≡◌, Option, Some, None, option_map, Result, Ok, Err, refl, inl}
use Rattle.zarrs_codec_error.specs.declared.error.CodecError.{CodecError}
use Rattle.zarrs_codec_error.specs.declared.error.CodecError.TheVariants as codec
use Rattle.zarrs_codec.specs.Prelude.{Unserved, Refused, by_codec, RefusesFor}

-- a step that is Ok says that there is no reason
pub refused_never : {T U : Type 0} (why : Option Refused) (v : T) (r : Result U CodecError) → RefusesFor why (Ok v) →
    RefusesFor why r
refused_never None v r refuses = tt
refused_never (Some why) v r refuses = absurd refuses

-- an error that is passed on
pub refused_still : (T U : Type 0) (why : Option Refused) (e : CodecError) → RefusesFor {T = T} why (Err e) →
    RefusesFor {T = U} why (Err e)
refused_still T U None e refuses = tt
refused_still T U (Some why) e refuses = refuses

pub refused_memory : (T : Type 0) (why : Option Refused) (e : CodecError) → e ≡ codec.OutOfMemory →
    RefusesFor {T = T} why (Err e)
refused_memory T None e is = tt
refused_memory T (Some why) e is = inl is

-- reasons of a codec alone
pub codec_served : (why : Option Unserved) → option_map by_codec why ≡ None → why ≡ None
codec_served None is = refl
codec_served (Some why) is = cc
