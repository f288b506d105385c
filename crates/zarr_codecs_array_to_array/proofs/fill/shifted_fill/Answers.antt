use Rattle.std.proofs.Common.{◌≡◌, length, rules}
use Rattle.zarrs_data_type_bytes.specs.FillValue.{fill_bytes}
use Rattle.zarr_codecs_elements.specs.Numbers.{raised}
use Rattle.zarr_codecs_array_to_array.proofs.FillLaws.{raised_fill}
use Rattle.zarr_codecs_array_to_array.proofs.fill.shifted_fill.Goals as goal

pub returns-clause-value : goal.returns-clause-value
returns-clause-value c = λ offset takes.
    let long : length (fill_bytes c.args.fill_value.now) ≡ c.args.size = search rules in
    let made : fill_bytes c.new.result ≡ raised c.args.amount (fill_bytes c.args.fill_value.now) = search rules in
    raised_fill offset c.args.amount c.args.size (fill_bytes c.args.fill_value.now) (fill_bytes c.new.result) takes long
    made
