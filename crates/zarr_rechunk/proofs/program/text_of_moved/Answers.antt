use Rattle.std.proofs.Common.{◌≡◌, sym, ap, ◌∙◌, subst, arith}
use Rattle.std.proofs.Math.Path.{fun_ext}
use Rattle.zarrs_codec_traits.specs.Prelude.{Options, Content, layout, Means, IsHonest, options_of}
use Rattle.zarr_array.specs.OpenArray.{documented, described_array}
use Rattle.zarr_rechunk.specs.Band.{LeavesBand}
use Rattle.zarr_rechunk.specs.Bands.{bands}
use Rattle.zarr_rechunk.specs.Moved.{in_description, MeetsNone}
use Rattle.zarr_rechunk.specs.Program.{move_options}
use Rattle.zarr_rechunk.specs.Said.{both}
use Rattle.zarr_rechunk.proofs.ProgramLaws.{untouched_by, not_moved_by, moved_and_listed, not_listed}
use Rattle.zarr_rechunk.proofs.program.text_of_moved.Goals as goal

pub returns-in-Err-clause-ran : goal.returns-in-Err-clause-ran
returns-in-Err-clause-ran g c =
    let before = both (g.S.Store.shown c.args.from.now) (g.T.Store.shown c.args.to.now) in
    let now = both (g.S.Store.shown c.rechunk.new.from) (g.T.Store.shown c.rechunk.new.to) in
    let is : options_of c.default.result ≡ move_options = ap options_of c.default.ensures in
    not_moved_by (documented c.args.source.now) (documented c.args.target.now) before now c.rechunk.ensures.source.same
    (subst (λ o. LeavesBand (described_array c.args.target.now) o before.to now.to) is c.rechunk.ensures.left)
    (options_of c.default.result) is c.in-Err.error c.in-Err.ensures.failed.cause c.in-Err.ensures.failed.complete
    (g.met.S.Store.counts_fit c.args.from.now).3 (λ none. (let same = c.in-Err.ensures.unbegun none in
    (untouched_by (ap g.S.Store.shown same.0), untouched_by (ap g.T.Store.shown same.1))))
    c.status_of.result c.status_of.ensures

pub returns-in-Err-text_of_keys-clause-ran : goal.returns-in-Err-text_of_keys-clause-ran
returns-in-Err-text_of_keys-clause-ran g c =
    let before = both (g.S.Store.shown c.args.from.now) (g.T.Store.shown c.args.to.now) in
    let now = both (g.S.Store.shown c.rechunk.new.from) (g.T.Store.shown c.rechunk.new.to) in
    let is : options_of c.default.result ≡ move_options = ap options_of c.default.ensures in
    not_listed (documented c.args.source.now) (documented c.args.target.now) before now c.rechunk.ensures.source.same
    (subst (λ o. LeavesBand (described_array c.args.target.now) o before.to now.to) is c.rechunk.ensures.left)
    (g.T.Store.shown c.text_of_keys.new.store) c.in-Ok.ensures.moved.may c.text_of_keys.ensures.reads.same
    c.in-Err-text_of_keys.status c.in-Err-text_of_keys.ensures.reads.fault

pub returns-in-Ok-text_of_keys-clause-ran : goal.returns-in-Ok-text_of_keys-clause-ran
returns-in-Ok-text_of_keys-clause-ran g c =
    let source = documented c.args.source.now in
    let target = documented c.args.target.now in
    let before = both (g.S.Store.shown c.args.from.now) (g.T.Store.shown c.args.to.now) in
    let now = both (g.S.Store.shown c.rechunk.new.from) (g.T.Store.shown c.rechunk.new.to) in
    let last = g.T.Store.shown c.text_of_keys.new.store in
    let is : options_of c.default.result ≡ move_options = ap options_of c.default.ensures in
    let asked = c.in-Ok-text_of_keys.ensures.asks in
    moved_and_listed source target before now c.rechunk.ensures.source.same
    (subst (λ o. LeavesBand (described_array c.args.target.now) o before.to now.to) is c.rechunk.ensures.left) last
    c.in-Ok.ensures.moved.may c.text_of_keys.ensures.reads.same
    c.in-Ok-text_of_keys.text
    (record {
      may = c.in-Ok.ensures.moved.may;
      undamaged = subst (λ (o : Options). MeetsNone (described_array c.args.source.now)
          (described_array c.args.target.now) o (bands (described_array c.args.target.now).shape
          (described_array c.args.target.now).grid) before.from.content before.to.content) is
          c.in-Ok.ensures.moved.undamaged;
      means = λ array means honest.
          subst (λ (held : Content). Means (layout (described_array c.args.target.now) move_options) held
          (in_description (described_array c.args.target.now) array)) (sym c.text_of_keys.ensures.reads.same)
          (subst (λ (o : Options). Means (layout (described_array c.args.target.now) o) now.to.content
          (in_description (described_array c.args.target.now) array)) is
          (c.in-Ok.ensures.moved.moves array (subst (λ (o : Options).
          Means (layout (described_array c.args.source.now) o) before.from.content array) (sym is) means)
          (subst (λ (o : Options). IsHonest (layout (described_array c.args.target.now) o) before.to.content) (sym is)
          honest)));
      set = fun_ext c.rechunk.ensures.source.same;
      keys = c.in-Ok-text_of_keys.ensures.keys;
      asked_from = c.in-Ok.ensures.moved.asked_from;
      put_from = (let puts = c.rechunk.ensures.source.puts in let few = (g.met.S.Store.counts_fit c.args.from.now).3 in
          omega (arith, puts, few));
      asked_to = (let first = c.in-Ok.ensures.moved.asked_to in let more = asked.2 in
          (asked.0, asked.1, omega (arith, first, more)));
      put_to = c.in-Ok-text_of_keys.ensures.reads.puts ∙ c.in-Ok.ensures.moved.put_to;
    })
