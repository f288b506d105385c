-- How many bytes a value has, as far as it is known before.
use Rattle.std.specs.Prelude.{ℕ, List, ◌++◌, Option, Some, None, codes, decimal}
use Rattle.zarrs_codec_error.specs.declared.bytes_representation.BytesRepresentation.{BytesRepresentation}
use Rattle.zarrs_codec_error.specs.declared.bytes_representation.BytesRepresentation.TheVariants.{FixedSize}
use Rattle.zarrs_codec_error.specs.declared.bytes_representation.BytesRepresentation.TheVariants.{BoundedSize}
use Rattle.zarrs_codec_error.specs.declared.bytes_representation.BytesRepresentation.TheVariants.{UnboundedSize}

-- the greatest number of bytes, where there is one
abbrev pub size_bound_of : BytesRepresentation → Option ℕ
size_bound_of (FixedSize size) = Some size
size_bound_of (BoundedSize size) = Some size
size_bound_of UnboundedSize = None

-- its text
abbrev pub text_of : BytesRepresentation → List ℕ
text_of (FixedSize size) = codes "fixed size: " ++ decimal size
text_of (BoundedSize size) = codes "bounded size: " ++ decimal size
text_of UnboundedSize = codes "unbounded size"
