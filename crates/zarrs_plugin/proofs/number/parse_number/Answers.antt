use Rattle.std.proofs.Common.{true≢false, lit<, sym, ◌∙◌}
use Rattle.std.proofs.lemmas.Str.Pattern.{starts_char}
use Rattle.zarrs_plugin.proofs.NumberLaws.{number_of-plus, number_of-zero, number_of-zeros, number_of-parse}
use Rattle.zarrs_plugin.proofs.number.parse_number.Goals as goal

pub returns-then-starts_with : goal.returns-then-starts_with
returns-then-starts_with c =
    let plus = starts_char 43 c.args.text.now c.starts_with.result c.starts_with.ensures.cases (lit< tt) (lit< tt) in
    number_of-plus c.args.text.now (plus.0 c.if-starts_with.true)

pub returns-then-text-eq1 : goal.returns-then-text-eq1
returns-then-text-eq1 c =
    let first =
    starts_char 48 c.args.text.now c.starts_with-2.result c.starts_with-2.ensures.cases (lit< tt) (lit< tt) in
    number_of-zero c.args.text.now (first.0 c.if-starts_with-2.true) c.if-text-eq1.true

pub returns-else-text-eq1 : goal.returns-else-text-eq1
returns-else-text-eq1 c =
    let first =
    starts_char 48 c.args.text.now c.starts_with-2.result c.starts_with-2.ensures.cases (lit< tt) (lit< tt) in
    number_of-zeros c.args.text.now (first.0 c.if-starts_with-2.true) c.if-text-eq1.false

pub returns : goal.returns
returns c =
    let plus = starts_char 43 c.args.text.now c.starts_with.result c.starts_with.ensures.cases (lit< tt) (lit< tt) in
    let first =
    starts_char 48 c.args.text.now c.starts_with-2.result c.starts_with-2.ensures.cases (lit< tt) (lit< tt) in
    c.ok.ensures.value ∙ number_of-parse c.args.text.now c.parse.result c.parse.ensures.value.0
    (λ e. true≢false (sym (plus.1 e) ∙ c.if-starts_with.false)) (λ e.
    true≢false (sym (first.1 e) ∙ c.if-starts_with-2.false))
