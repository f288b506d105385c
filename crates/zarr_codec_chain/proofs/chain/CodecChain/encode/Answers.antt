use Rattle.std.proofs.Common.{◌≡◌, Some, None, [], sym, subst, rules, inl}
use Rattle.std.proofs.lemmas.Result.{err_from_is_err_and}
use Rattle.zarr_codec_chain.specs.Prelude.{raw_of, list_at, fill_at, SaysInvalid, first_level, bottom_level, steps}
use Rattle.zarr_codec_chain.specs.Prelude.{Level}
use Rattle.zarr_codec_chain.proofs.StepLaws.{top_is, no_steps, no_codecs}
use Rattle.zarr_codec_chain.proofs.LevelLaws.{some-below}
use Rattle.zarr_codec_chain.proofs.ChainLaws.{some_of, memory_taken, refused_beyond, taken_beyond, answers_error}
use Rattle.zarr_codec_chain.proofs.ChainLaws.{answers_last, invalid_below, taken_below, list_back, ok_of}
use Rattle.zarr_codec_chain.proofs.chain.CodecChain.encode.Goals as goal

pub returns-in_err-below-clause-memory : goal.returns-in_err-below-clause-memory
returns-in_err-below-clause-memory g c = λ there short takes.
    let self = c.args.self.now in
    let levels = c.args.levels.now in
    let first = top_is self.array_codecs.items levels.above.items (bottom_level levels) c.requires.count in
    let (xs, means) = some_of (list_at (first_level levels) (raw_of c.args.bytes)) there in
    let down = rw (c.deref.ensures.value, c.deref-2.ensures.value) at c.in_err-below.ensures.value in
    let memory = down (bottom_level levels) xs c.requires.linked
    (subst (λ (level : Level). list_at level (raw_of c.args.bytes) ≡ Some xs) (sym first) means) in
    search rules

pub returns-in_err-value-clause-memory : goal.returns-in_err-value-clause-memory
returns-in_err-value-clause-memory g c = λ there short takes.
    let self = c.args.self.now in
    let levels = c.args.levels.now in
    let first = top_is self.array_codecs.items levels.above.items (bottom_level levels) c.requires.count in
    let bottom = bottom_level levels in
    let list = g.B.ArrayToBytesCodecTraits in
    let (xs, means) = some_of (list_at (first_level levels) (raw_of c.args.bytes)) there in
    let down = rw (c.deref.ensures.value, c.deref-2.ensures.value) at c.in_ok-below.ensures.value in
    let got = down bottom xs c.requires.linked
    (subst (λ (level : Level). list_at level (raw_of c.args.bytes) ≡ Some xs) (sym first) means) in
    let raw = raw_of c.in_ok-below.below in
    let here = some-below g.A.ArrayToArrayCodecTraits.meaning g.A.ArrayCodecTraits.unserved bottom (steps self levels)
    (list_at bottom raw) xs got in
    let taken = g.met.B.ArrayToBytesCodecTraits.taken self.to_bytes bottom (fill_at levels.bottom) raw c.requires.served
    takes here (c.in_ok-below.ensures.short short) in
    let refused = rw c.deref-3.ensures.value at c.in_err-value.ensures.exact in
    let memory = memory_taken bottom raw (list.beyond self.to_bytes bottom raw) c.in_err-value.field-0.0 here taken
    (refused c.requires.served) in
    search rules

pub returns-in_err-value-clause-refused : goal.returns-in_err-value-clause-refused
returns-in_err-value-clause-refused g c = λ none.
    let self = c.args.self.now in
    let levels = c.args.levels.now in
    let first = top_is self.array_codecs.items levels.above.items (bottom_level levels) c.requires.count in
    let bottom = bottom_level levels in
    let raw = raw_of c.in_ok-below.below in
    let none_top = subst (λ (level : Level). list_at level (raw_of c.args.bytes) ≡ None) (sym first) none in
    let same = (rw (c.deref.ensures.value, c.deref-2.ensures.value) at c.in_ok-below.ensures.refused) bottom
    c.requires.linked none_top in
    let same_steps : (steps self levels ≡ []) × (raw ≡ raw_of c.args.bytes) =
    (no_steps self.array_codecs.items levels.above.items same.0, same.1) in
    let refused = (rw c.deref-3.ensures.value at c.in_err-value.ensures.exact) c.requires.served in
    let told = subst (λ (level : Level). SaysInvalid level (raw_of c.args.bytes) c.in_err-value.field-0.0) first
    (invalid_below (steps self levels) bottom raw (raw_of c.args.bytes) (g.B.ArrayToBytesCodecTraits.beyond
    self.to_bytes bottom raw) c.in_err-value.field-0.0 none_top same_steps refused) in
    search rules

pub returns-clause-refused : goal.returns-clause-refused
returns-clause-refused g c = λ none.
    let self = c.args.self.now in
    let levels = c.args.levels.now in
    let first = top_is self.array_codecs.items levels.above.items (bottom_level levels) c.requires.count in
    let bottom = bottom_level levels in
    let raw = raw_of c.in_ok-below.below in
    let none_top = subst (λ (level : Level). list_at level (raw_of c.args.bytes) ≡ None) (sym first) none in
    let same = (rw (c.deref.ensures.value, c.deref-2.ensures.value) at c.in_ok-below.ensures.refused) bottom
    c.requires.linked none_top in
    let same_steps : (steps self levels ≡ []) × (raw ≡ raw_of c.args.bytes) =
    (no_steps self.array_codecs.items levels.above.items same.0, same.1) in
    let taken = (rw c.deref-3.ensures.value at c.in_ok-value.ensures.exact) c.requires.served in
    absurd (taken_below (steps self levels) bottom raw (raw_of c.args.bytes)
    (g.B.ArrayToBytesCodecTraits.beyond self.to_bytes bottom raw) none_top same_steps taken)

pub returns-clause-value : goal.returns-clause-value
returns-clause-value g c = λ xs means.
    let self = c.args.self.now in
    let levels = c.args.levels.now in
    let first = top_is self.array_codecs.items levels.above.items (bottom_level levels) c.requires.count in
    let bottom = bottom_level levels in
    let list = g.B.ArrayToBytesCodecTraits in
    let bytes = g.C.BytesToBytesCodecTraits in
    let down = rw (c.deref.ensures.value, c.deref-2.ensures.value) at c.in_ok-below.ensures.value in
    let got = down bottom xs c.requires.linked
    (subst (λ (level : Level). list_at level (raw_of c.args.bytes) ≡ Some xs) (sym first) means) in
    let each = (rw c.deref-3.ensures.value at c.in_ok-value.ensures.value) c.requires.served in
    let through = rw c.deref-4.ensures.value at c.encode_through.ensures in
    ok_of _ _ _ c.encode_through.result (λ v back. λ under. list_back g.A.ArrayToArrayCodecTraits.meaning
    g.A.ArrayCodecTraits.unserved list.meaning list.says bytes.meaning bytes.says self levels c.requires.count under
    v.items c.in_ok-value.value.items (list_at bottom (raw_of c.in_ok-below.below)) xs c.requires.linked (back under)
    (each under) got)
    through

pub returns-in_err-below-clause-beyond : goal.returns-in_err-below-clause-beyond
returns-in_err-below-clause-beyond g c = λ list means.
    let p = err_from_is_err_and c.from_residual.result c.from_residual.ensures.1 in
    let down = rw (c.deref.ensures.value, c.deref-2.ensures.value) at c.in_err-below.ensures.value in
    let self = c.args.self.now in
    let levels = c.args.levels.now in
    let first = top_is self.array_codecs.items levels.above.items (bottom_level levels) c.requires.count in
    rw (p.1, p.2) (inl (down (bottom_level levels) list c.requires.linked
    (subst (λ (level : Level). list_at level (raw_of c.args.bytes) ≡ Some list) (sym first) means)))

pub returns-in_err-value-clause-beyond : goal.returns-in_err-value-clause-beyond
returns-in_err-value-clause-beyond g c = λ list means.
    let p = err_from_is_err_and c.from_residual-in_err-value.result c.from_residual-in_err-value.ensures.1 in
    let self = c.args.self.now in
    let levels = c.args.levels.now in
    let first = top_is self.array_codecs.items levels.above.items (bottom_level levels) c.requires.count in
    let bottom = bottom_level levels in
    let code = g.B.ArrayToBytesCodecTraits in
    let got = (rw (c.deref.ensures.value, c.deref-2.ensures.value) at c.in_ok-below.ensures.value) bottom list
    c.requires.linked (subst (λ (level : Level). list_at level (raw_of c.args.bytes) ≡ Some list) (sym first) means) in
    let raw = raw_of c.in_ok-below.below in
    let here = some-below g.A.ArrayToArrayCodecTraits.meaning g.A.ArrayCodecTraits.unserved bottom (steps self levels)
    (list_at bottom raw) list got in
    let refused = (rw c.deref-3.ensures.value at c.in_err-value.ensures.exact) c.requires.served in
    rw (p.1, p.2) (answers_error g.A.ArrayToArrayCodecTraits.meaning (code.beyond self.to_bytes bottom)
    (steps self levels) bottom list (raw_of c.args.bytes) raw
    (record {
      means = got;
      same = λ none. (rw c.deref.ensures.value at c.in_ok-below.ensures.none)
          (no_codecs self.array_codecs.items levels.above.items c.requires.count none);
    }) c.in_err-value.field-0.0
    (refused_beyond bottom raw (code.beyond self.to_bytes bottom raw) c.in_err-value.field-0.0 here refused))

pub returns-clause-beyond : goal.returns-clause-beyond
returns-clause-beyond g c = λ list means.
    let self = c.args.self.now in
    let levels = c.args.levels.now in
    let first = top_is self.array_codecs.items levels.above.items (bottom_level levels) c.requires.count in
    let bottom = bottom_level levels in
    let code = g.B.ArrayToBytesCodecTraits in
    let got = (rw (c.deref.ensures.value, c.deref-2.ensures.value) at c.in_ok-below.ensures.value) bottom list
    c.requires.linked (subst (λ (level : Level). list_at level (raw_of c.args.bytes) ≡ Some list) (sym first) means) in
    let raw = raw_of c.in_ok-below.below in
    let here = some-below g.A.ArrayToArrayCodecTraits.meaning g.A.ArrayCodecTraits.unserved bottom (steps self levels)
    (list_at bottom raw) list got in
    let taken = (rw c.deref-3.ensures.value at c.in_ok-value.ensures.exact) c.requires.served in
    answers_last g.A.ArrayToArrayCodecTraits.meaning (code.beyond self.to_bytes bottom) (steps self levels) bottom list
    (raw_of c.args.bytes) raw
    (record {
      means = got;
      same = λ none. (rw c.deref.ensures.value at c.in_ok-below.ensures.none)
          (no_codecs self.array_codecs.items levels.above.items c.requires.count none);
    }) _ c.encode_through.result
    (taken_beyond bottom raw (code.beyond self.to_bytes bottom raw) here taken) c.encode_through.ensures

pub returns-in_err-below-clause-refused : goal.returns-in_err-below-clause-refused
returns-in_err-below-clause-refused g c = λ none.
    let self = c.args.self.now in
    let levels = c.args.levels.now in
    let first = top_is self.array_codecs.items levels.above.items (bottom_level levels) c.requires.count in
    let none_top = subst (λ (level : Level). list_at level (raw_of c.args.bytes) ≡ None) (sym first) none in
    let refused = (rw (c.deref.ensures.value, c.deref-2.ensures.value) at c.in_err-below.ensures.refused)
    (bottom_level levels) c.requires.linked none_top in
    let told =
    subst (λ (level : Level). SaysInvalid level (raw_of c.args.bytes) c.in_err-below.field-0.0) first refused in
    search rules
