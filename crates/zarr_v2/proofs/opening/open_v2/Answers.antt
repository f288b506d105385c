use Rattle.zarr_basics.specs.Registries.{names_of}
use Rattle.zarr_v2.proofs.TextLaws.{as_its_text}
use Rattle.zarr_v2.proofs.BuiltinLaws.{only_large, means_as_v2}
use Rattle.zarr_v2.proofs.opening.open_v2.Goals as goal

pub returns-clause-as_text : goal.returns-clause-as_text
returns-clause-as_text c =
    as_its_text (names_of c.args.registries.now) c.args.text.now c.open_translated.result c.open_translated.ensures

pub returns-clause-only_large : goal.returns-clause-only_large
returns-clause-only_large c =
    only_large (names_of c.args.registries.now) c.args.text.now c.open_translated.result c.open_translated.ensures

pub returns-clause-means : goal.returns-clause-means
returns-clause-means c =
    means_as_v2 (names_of c.args.registries.now) c.args.text.now c.open_translated.result c.open_translated.ensures
