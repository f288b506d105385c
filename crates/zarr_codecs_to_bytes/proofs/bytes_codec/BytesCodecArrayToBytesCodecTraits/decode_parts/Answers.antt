use Rattle.std.proofs.Common.{inl, rules}
use Rattle.zarrs_codec_traits.specs.Prelude.{region as box_of, parts_of, level_of, lengths, options_of, type_of}
use Rattle.zarr_codecs_to_bytes.proofs.AskLaws.{few_here, room_here, here_lengths, here_valid, here_value, here_refuses}
use Rattle.zarr_codecs_to_bytes.proofs.AskLaws.{here_memory, here_no_fault, only_memory}
use Rattle.zarr_codecs_to_bytes.proofs.bytes_codec.BytesCodecArrayToBytesCodecTraits.decode_parts.Goals as goal

pub region_parts-requires-clause-few : goal.region_parts-requires-clause-few
region_parts-requires-clause-few c =
    few_here (lengths c.args._shape.now) (type_of c.args.data_type.now) (box_of c.args.region.now) c.requires.fits
    c.requires.inside

pub region_parts-requires-clause-room : goal.region_parts-requires-clause-room
region_parts-requires-clause-room c =
    room_here (lengths c.args._shape.now) (type_of c.args.data_type.now) (box_of c.args.region.now) c.requires.fits
    c.requires.inside

pub returns-in-Ok-clause-at : goal.returns-in-Ok-clause-at
returns-in-Ok-clause-at c =
    let order = c.args.self.now.endianness in
    let under = options_of c.args._options.now in
    let level = level_of c.args._shape.now c.args.data_type.now c.args._fill_value.now in
    let box = box_of c.args.region.now in
    let size = c.in_ok-support.support.component_size in
    let parts = parts_of c.args.parts in
    let seen = c.in_ok-support.ensures.seen in
    let inside = c.requires.inside in
    let answered = c.requires.answered in
    let joined = c.in-Ok.ensures in
    record {
      unserved = search rules;
      served = λ served. record {
        lengths = here_lengths order under level box size parts seen inside answered _ joined.exact;
        value = λ value xs slices means. here_value order under level box size parts seen inside answered
            c.in-Ok.joined.items c.ordered-decoded.result.items value xs joined.value c.ordered-decoded.ensures
            joined.exact slices means;
        cause = λ value slices good. tt;
        valid = here_valid order under level box size parts seen inside answered c.in-Ok.joined.items
            c.ordered-decoded.result.items joined.value c.ordered-decoded.ensures joined.exact;
        decodes = search rules;
      };
    }

pub returns-in-Err-clause-at : goal.returns-in-Err-clause-at
returns-in-Err-clause-at c =
    let order = c.args.self.now.endianness in
    let under = options_of c.args._options.now in
    let level = level_of c.args._shape.now c.args.data_type.now c.args._fill_value.now in
    let box = box_of c.args.region.now in
    let size = c.in_ok-support.support.component_size in
    let parts = parts_of c.args.parts in
    let seen = c.in_ok-support.ensures.seen in
    let inside = c.requires.inside in
    let answered = c.requires.answered in
    let error = c.in-Err.error in
    let exact = c.in-Err.ensures.exact in
    record {
      unserved = search rules;
      served = λ served. record {
        lengths = here_refuses order under level box size parts seen inside answered _ error exact;
        value = λ value xs slices means. here_memory order under level box size parts seen inside answered error value
            xs exact slices means;
        cause = λ value slices good.
            inl (only_memory order under level box size parts seen inside answered error exact good);
        valid = tt;
        decodes = λ value none whole. tt;
      };
    }

pub returns-in-Err-clause-no_fault : goal.returns-in-Err-clause-no_fault
returns-in-Err-clause-no_fault c =
    here_no_fault (Unit {0}) _ (parts_of c.args.parts) c.in-Err.error c.in-Err.ensures.exact
