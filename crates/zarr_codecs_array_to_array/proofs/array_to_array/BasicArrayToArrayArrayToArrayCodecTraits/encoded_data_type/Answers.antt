use Rattle.zarr_codecs_array_to_array.proofs.array_to_array.BasicArrayToArrayArrayToArrayCodecTraits.encoded_data_type.Goals as goal

pub returns-in-Offset-clause-value : goal.returns-in-Offset-clause-value
returns-in-Offset-clause-value c = rw c.in-Offset.is c.encoded_data_type.ensures.value

pub returns-in-Transpose-clause-value : goal.returns-in-Transpose-clause-value
returns-in-Transpose-clause-value c = rw c.in-Transpose.is c.encoded_data_type-in-Transpose.ensures.value
