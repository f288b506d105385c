use Rattle.std.proofs.Common.{◌≡◌, map, length, take, Ok}
use Rattle.zarrs_codec_traits.specs.Prelude.{registry_of, extensions_seen}
use Rattle.zarr_codecs.specs.CodecForm.{form_of}
use Rattle.zarr_array_open.specs.Opening.{codecs_by}
use Rattle.zarr_array_open.proofs.extensions.codecs_by.Given as goal

abbrev pub invariant-loop-extension : goal.invariant-loop-extension
invariant-loop-extension l = codecs_by (length l.array_shape) (registry_of l.registry)
    (extensions_seen (take l.extension-index l.extensions)) ≡ Ok (map form_of l.codecs.items)
