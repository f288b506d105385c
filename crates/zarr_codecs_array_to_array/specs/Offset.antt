-- The codec `zarr_basics.offset`.
use Rattle.std.specs.Prelude.{ℤ, pos, if◌then◌else◌, codes, bytes_eq, Option, Some, option_map, option_and_then, Result}
use Rattle.std.specs.Prelude.{Err}
use Rattle.serde_json.specs.Data.{Data, number, Members, no_members, member}
use Rattle.serde_json.specs.Find.{as_number, as_integer, of_integer}
use Rattle.zarrs_codec_traits.specs.Prelude.{◌>>=◌, Extension, Unmade, only_member, or_config}
use Rattle.zarrs_plugin.specs.Making as making
use Rattle.zarr_codecs_array_to_array.specs.declared.offset_configuration.Integer.{Integer}
use Rattle.zarr_codecs_array_to_array.specs.declared.offset_configuration.Integer.TheVariants as code

-- a whole number
abbrev pub integer_in : Integer → ℤ
integer_in (code.Unsigned n) = pos n
integer_in (code.Signed z) = z

-- the configuration of an offset
abbrev pub offset_members : ℤ → Members
offset_members offset = member (codes "offset") (number (of_integer offset)) no_members

abbrev pub whole_offset : Data → Option ℤ
whole_offset value = option_and_then as_integer (as_number value)

-- exactly `offset`, a whole number
unfoldable pub offset_in : Option Members → Option ℤ
offset_in configuration = do
  ms ← configuration
  value ← only_member (codes "offset") ms
  whole_offset value

-- the codec of metadata, which has its name
abbrev pub offset_created : Extension → Result (Option Members) Unmade
offset_created e = if bytes_eq e.name (codes "zarr_basics.offset")
    then or_config (option_map (λ offset. Some (offset_members offset)) (offset_in e.configuration))
    else Err (making.unsupported e.name)
