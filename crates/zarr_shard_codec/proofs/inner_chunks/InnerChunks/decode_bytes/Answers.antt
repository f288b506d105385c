use Rattle.zarrs_codec_traits.specs.Views.{options_of}
use Rattle.zarr_shard_codec.proofs.InnerLaws.{bytes_given, bytes_failed}
use Rattle.zarr_shard_codec.proofs.inner_chunks.InnerChunks.decode_bytes.Goals as goal

pub returns-clause-value : goal.returns-clause-value
returns-clause-value c =
    bytes_given c.args.self.now c.requires.inner c.chain-chain.result.now c.chain-chain.ensures
    (options_of c.args.options.now) c.args.bytes.items c.decode.result c.decode.ensures.value

pub returns-clause-failed : goal.returns-clause-failed
returns-clause-failed c =
    bytes_failed c.args.self.now c.requires.inner c.chain-chain.result.now c.chain-chain.ensures
    (options_of c.args.options.now) c.args.bytes.items c.decode.result c.decode.ensures.failed
