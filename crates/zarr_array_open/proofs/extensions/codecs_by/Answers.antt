use Rattle.std.proofs.Common.{length, map, arith}
use Rattle.std.proofs.lemmas.List.{map-append}
use Rattle.zarrs_plugin.specs.Registry.{registry_of}
use Rattle.zarr_codecs.specs.CodecForm.{form_of}
use Rattle.zarr_array_open.specs.OpenError.{open_refusal_of}
use Rattle.zarr_array_open.proofs.OpeningLaws.{codecs_push, codecs_fail}
use Rattle.zarr_array_open.proofs.extensions.codecs_by.Goals as goal

pub returns-in-Err : goal.returns-in-Err
returns-in-Err c = codecs_fail (length c.args.array_shape.now) (registry_of c.args.registry.now) c.args.extensions.now
    c.loop-extension.extension-index c.extension-item.result (map form_of c.loop-extension.codecs.items)
    (open_refusal_of c.in-Err.error) (omega arith) c.extension-item.is c.loop-extension.invariant c.in-Err.ensures

pub loop-extension-preserved : goal.loop-extension-preserved
loop-extension-preserved c = rw (c.in_ok-push-in-Ok.ensures.items, map-append form_of)
    (codecs_push (length c.args.array_shape.now) (registry_of c.args.registry.now) c.args.extensions.now
    c.loop-extension.extension-index c.extension-item.result (map form_of c.loop-extension.codecs.items)
    (form_of c.in-Ok.codec) (omega arith) c.extension-item.is c.loop-extension.invariant c.in-Ok.ensures)
