use Rattle.zarr_codecs_array_to_array.proofs.array_to_array.BasicArrayToArrayArrayToArrayCodecTraits.decode_region.Goals as goal

pub returns-in-Offset-clause-at : goal.returns-in-Offset-clause-at
returns-in-Offset-clause-at c = rw c.in-Offset.is c.decode_region.ensures.at

pub returns-in-Transpose-clause-at : goal.returns-in-Transpose-clause-at
returns-in-Transpose-clause-at c = rw c.in-Transpose.is c.decode_region-in-Transpose.ensures.at
