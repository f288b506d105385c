-- The names that some registries know.
use Rattle.std.specs.Prelude.{[], ◌∷◌, codes}
use Rattle.zarrs_plugin.specs.NamePattern.{exact}
use Rattle.zarrs_plugin.specs.Registry.{Names, registry_of}
use Rattle.zarrs_data_type.specs.declared.data_type.kind.DataTypeKind.{DataTypeKind}
use Rattle.zarr_basics.specs.BuiltinTypes.{builtin_data_types}
use Rattle.zarr_basics.specs.declared.grid_kind.GridKind.{GridKind}
use Rattle.zarr_basics.specs.declared.grid_kind.GridKind.TheVariants.{Regular, Boundary}
use Rattle.zarr_basics.specs.declared.registries.ChunkKeyKind.{ChunkKeyKind}
use Rattle.zarr_basics.specs.declared.registries.ChunkKeyKind.TheVariants.{Default, V2}
use Rattle.zarr_codecs.specs.declared.codec_kind.CodecKind.{CodecKind}
use Rattle.zarr_codecs.specs.declared.codec_kind.CodecKind.TheVariants.{Bytes, VlenUtf8, VlenBytes, Optional, Offset}
use Rattle.zarr_codecs.specs.declared.codec_kind.CodecKind.TheVariants.{Transpose, Sha256}
use Rattle.zarr_basics.specs.declared.registries.Registries.{Registries}

-- for each kind of extension, what its names denote
pub record KnownNames : Type 0 where
  pub data_types : Names DataTypeKind
  pub grids : Names GridKind
  pub key_encodings : Names ChunkKeyKind
  pub codecs : Names CodecKind

abbrev pub names_of : Registries → KnownNames
names_of r = record {
  data_types = registry_of r.data_types;
  grids = registry_of r.grids;
  key_encodings = registry_of r.key_encodings;
  codecs = registry_of r.codecs;
}

-- the names that are known where nothing was registered
abbrev pub builtin_names : KnownNames
builtin_names = record {
  data_types = record { registered = []; builtin = builtin_data_types };
  grids = record {
    registered = [];
    builtin = (exact (codes "regular"), Regular)
        ∷ (exact (codes "zarr_basics.boundaries"), Boundary) ∷ [];
  };
  key_encodings = record {
    registered = [];
    builtin = (exact (codes "default"), Default) ∷ (exact (codes "v2"), V2) ∷ [];
  };
  codecs = record {
    registered = [];
    builtin = (exact (codes "bytes"), Bytes) ∷ (exact (codes "vlen-utf8"), VlenUtf8)
        ∷ (exact (codes "vlen-bytes"), VlenBytes)
        ∷ (exact (codes "zarr_basics.optional"), Optional)
        ∷ (exact (codes "zarr_basics.offset"), Offset)
        ∷ (exact (codes "transpose"), Transpose)
        ∷ (exact (codes "zarr_basics.sha256"), Sha256) ∷ [];
  };
}
