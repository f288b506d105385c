-- What a handle has beside its value, and what it tells of reads that are refused.
use Rattle.std.specs.Prelude.{List, Option}
use Rattle.zarrs_codec_traits.specs.Prelude.{Options, Seen}
use Rattle.zarrs_storage.specs.declared.byte_range.ByteRange.{ByteRange}
use Rattle.zarrs_codec_error.specs.declared.error.CodecError.{CodecError}
use Rattle.zarrs_codec_traits.specs.Writes.{ToldAfter}

-- a call that reads leaves the settings, and what tells afterwards why a read is refused told so
-- before
pub record KeepsSettings {A X : Type 0} (Same : A → A → Type 0)
    (Tells : A → Options → Option X → CodecError → Type 0) (old new : A) : Type 0 where
  pub same : Same old new
  pub tells : (under : Options) (asked : Option X) (e : CodecError)
      → Tells new under asked e → Tells old under asked e

-- a call that writes leaves the settings, and what tells afterwards why a read is refused told so
-- before, or says that a range is not one of the value that is now held
pub record KeepsOnWrite {A : Type 0} (seen : A → Seen) (Same : A → A → Type 0)
    (Tells : A → Options → Option (List ByteRange) → CodecError → Type 0) (old new : A) : Type 0
  where
    pub same : Same old new
    pub tells : (under : Options) (asked : Option (List ByteRange)) (e : CodecError)
        → Tells new under asked e
        → ToldAfter ((seen new).held under) asked (Tells old under asked) e
