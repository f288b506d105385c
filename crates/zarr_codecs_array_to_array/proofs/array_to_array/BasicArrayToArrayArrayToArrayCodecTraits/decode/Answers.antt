use Rattle.zarr_codecs_array_to_array.proofs.array_to_array.BasicArrayToArrayArrayToArrayCodecTraits.decode.Goals as goal

pub returns-in-Offset-clause-at : goal.returns-in-Offset-clause-at
returns-in-Offset-clause-at c = rw c.in-Offset.is c.decode.ensures.at
