use Rattle.zarrs_codec_traits.specs.Prelude.{kind, fill_bytes}
use Rattle.zarr_array_open.specs.Parts.{described_parts}
use Rattle.zarr_array_open.proofs.SizeLaws.{short_fill}
use Rattle.zarr_array_open.proofs.ChainLaws.{fill_short}
use Rattle.zarr_array_open.proofs.parts.ArrayParts.fill_value.Goals as goal

pub returns-clause-short : goal.returns-clause-short
returns-clause-short c = λ chunk is_chunk.
    let array = c.args.self.now in short_fill (kind (described_parts array)) 1 (fill_bytes array.fill)
    (λ unsized. fill_short array chunk is_chunk unsized)
