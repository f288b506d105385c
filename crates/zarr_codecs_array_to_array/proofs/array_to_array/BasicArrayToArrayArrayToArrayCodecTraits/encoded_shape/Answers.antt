use Rattle.zarr_codecs_array_to_array.proofs.array_to_array.BasicArrayToArrayArrayToArrayCodecTraits.encoded_shape.Goals as goal

pub returns-in-Offset-clause-value : goal.returns-in-Offset-clause-value
returns-in-Offset-clause-value c = rw c.in-Offset.is c.encoded_shape.ensures.value
