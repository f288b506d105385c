use Rattle.std.proofs.Common.{◌≡◌, map, take, Ok}
use Rattle.zarrs_codec_traits.specs.Prelude.{registry_of, extensions_seen}
use Rattle.zarr_array_open.specs.ShardOpening.{document_codecs}
use Rattle.zarr_array_open.specs.Views.{made_codec_seen}
use Rattle.zarr_array_open.proofs.shard_codecs.document_codecs.Given as goal

abbrev pub invariant-loop-extension : goal.invariant-loop-extension
invariant-loop-extension l = document_codecs l.chunk_shape (registry_of l.registry)
    (extensions_seen (take l.extension-index l.extensions)) ≡ Ok (map made_codec_seen l.codecs.items)
