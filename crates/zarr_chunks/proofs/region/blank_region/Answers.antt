use Rattle.std.proofs.Common.{◌≡◌, List, ℕ, Some, replicate, IfOk, MatchResult, subst, subst₂}
use Rattle.zarr_codec_chain.specs.Prelude.{Level, DataType, kind_of, count, region as box_of, filled_with, raw_of}
use Rattle.zarr_codec_chain.specs.Prelude.{list_at, at_box, first_level, first_fill}
use Rattle.zarrs_codec_error.specs.declared.error.CodecError.TheVariants as codec
use Rattle.zarr_chunks.proofs.RegionLaws.{filled_selects, filled_less, level_same}
use Rattle.zarr_chunks.proofs.region.blank_region.Goals as goal

pub returns-clause-value : goal.returns-clause-value
returns-clause-value c =
    let level = first_level c.args.levels.now in
    let box = box_of c.args.region.now in
    let same = level_same c.shape.result.now c.data_type.result.now c.fill_value.result.now level
    (first_fill c.args.levels.now) c.shape.ensures c.data_type.ensures c.fill_value.ensures c.requires.fill.denotes in
    filled_selects level box c.filled_region.result c.requires.inside
    (subst (λ (l : Level). MatchResult c.filled_region.result (λ v. list_at (at_box box l) (raw_of v) ≡
    Some (replicate (count box) l.fill)) (λ e. e ≡ codec.OutOfMemory)) same c.filled_region.ensures.value)

pub returns-clause-short : goal.returns-clause-short
returns-clause-short c =
    let box = box_of c.args.region.now in
    filled_less (first_level c.args.levels.now) (first_fill c.args.levels.now) box c.filled_region.result
    c.requires.inside c.requires.fill.short
    (subst₂ (λ (t : DataType) (f : List ℕ). IfOk c.filled_region.result (λ v. raw_of v ≡
    filled_with (kind_of t) (count box) f)) c.data_type.ensures c.fill_value.ensures c.filled_region.ensures.bytes)
