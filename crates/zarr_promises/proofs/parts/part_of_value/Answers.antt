use Rattle.zarr_promises.proofs.parts.part_of_value.Goals as goal

pub returns : goal.returns
returns g c = λ value whole served are is. (c.decode_parts.ensures.at.served served).value value whole are is
