-- What is made of a configuration.
use Rattle.std.proofs.Common.{◌≡◌, Option, Some, None, option_map, Ok, Err, if◌then◌else◌, Bool, true, false}
use Rattle.std.proofs.Common.{refl, ap}
use Rattle.serde_json.specs.Data.{Members, no_members}
use Rattle.zarrs_codec_traits.specs.Prelude.{is_none_or_empty, or_config}
use Rattle.zarrs_plugin.specs.Making.{config, IsUnmade}
use Rattle.zarrs_plugin.specs.declared.error.PluginKind.{PluginKind}
use Rattle.zarrs_plugin.specs.declared.error.PluginCreateError.{PluginCreateError}
use Rattle.zarrs_plugin.specs.declared.error.PluginCreateError.TheVariants.{Unsupported, Config, Other, OutOfMemory}
use Rattle.zarrs_codec_traits.specs.Making.{none_form}
use Rattle.zarr_codecs.specs.CodecForm.{CodecForm, if_none}

pub made_form : {X Y : Type 0} (f : X → Y) (o : Option X) (x : X) → or_config o ≡ Ok x →
    or_config (option_map f o) ≡ Ok (f x)
made_form f (Some y) x e = let same : y ≡ x = cc in ap (λ z. Ok (f z)) same
made_form f None x e = cc

pub refused_form : {X Y : Type 0} (kind : PluginKind) (error : PluginCreateError) (f : X → Y) (o : Option X) →
    IsUnmade kind error (or_config o) → IsUnmade kind error (or_config (option_map f o))
refused_form kind OutOfMemory f o e = tt
refused_form kind Config f None e = tt
refused_form kind Config f (Some x) e = absurd e
refused_form kind Other f None e = absurd e
refused_form kind Other f (Some x) e = absurd e
refused_form kind (Unsupported error) f None e = absurd e
refused_form kind (Unsupported error) f (Some x) e = absurd e

pub made_none : (form : CodecForm) (configuration : Option Members) → none_form configuration ≡ Ok no_members →
    if_none form configuration ≡ Ok form
made_none form configuration e = go (is_none_or_empty configuration) e
  where
    go : (b : Bool) → (if b then Ok no_members else Err config) ≡ Ok no_members →
        or_config (if b then Some form else None) ≡ Ok form
    go true e = refl
    go false e = cc

pub refused_none : (form : CodecForm) (kind : PluginKind) (error : PluginCreateError) (configuration : Option Members) →
    IsUnmade kind error (none_form configuration) → IsUnmade kind error (if_none form configuration)
refused_none form kind error configuration e = go error (is_none_or_empty configuration) e
  where
    go : (error : PluginCreateError) (b : Bool) → IsUnmade {Y = Members} kind error
        (if b then Ok no_members else Err config) → IsUnmade kind error (or_config (if b then Some form else None))
    go OutOfMemory b e = tt
    go Config true e = absurd e
    go Config false e = tt
    go Other true e = absurd e
    go Other false e = absurd e
    go (Unsupported error) true e = absurd e
    go (Unsupported error) false e = absurd e

pub ruleset of_kinds = (made_form, refused_form, made_none, refused_none)
