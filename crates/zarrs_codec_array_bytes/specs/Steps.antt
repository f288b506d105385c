-- What the elements of a data type are, level by level.
use Rattle.std.specs.Prelude.{ℕ, suc}
use Rattle.zarr_model.specs.Element as model
use Rattle.zarrs_data_type.specs.DataType.{type_of}
use Rattle.zarrs_data_type.specs.declared.data_type.DataType as types
use Rattle.zarrs_codec_slices.specs.Picking.{size_in}
use Rattle.zarrs_codec_array_bytes.specs.declared.array_bytes.step.Step.{Step}
use Rattle.zarrs_codec_array_bytes.specs.declared.array_bytes.step.Step.TheVariants as steps

-- the kind of a data type, and the size of its innermost elements, 0 where they differ
abbrev pub kind_seen : types.DataType → model.Kind
kind_seen data_type = model.kind_of (type_of data_type)

abbrev pub bytes_seen : types.DataType → ℕ
bytes_seen data_type = size_in (model.fixed_size (kind_seen data_type))

-- the levels of a kind
abbrev pub depth : model.Kind → ℕ
depth (model.fixed n) = 0
depth model.variable = 0
depth (model.optional inner) = suc (depth inner)

-- the inner type of a step, if there is one, is this
abbrev pub IfInner : Step → (types.DataType → Type 0) → Type 0
IfInner (steps.Optional inner) P = P inner.now
IfInner (steps.Fixed n) P = Unit {0}
IfInner steps.Variable P = Unit {0}

-- the kind that the outermost level of a data type says
abbrev pub step_kind : Step → model.Kind
step_kind (steps.Fixed n) = model.fixed n
step_kind steps.Variable = model.variable
step_kind (steps.Optional inner) = model.optional (kind_seen inner.now)
