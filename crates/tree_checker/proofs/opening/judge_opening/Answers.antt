use Rattle.std.proofs.Common.{◌<◌, ◌^◌, length, inr, sym, ◌∙◌, arith}
use Rattle.std.proofs.lemmas.Bool.{iff_false}
use Rattle.std.proofs.lemmas.Int.{ints}
use Rattle.whole_rows.specs.WholeRows.{span}
use Rattle.tree_checker.specs.Faults.{IsTooDeep}
use Rattle.tree_checker.specs.Openings.{AreFormWords, opening_of}
use Rattle.tree_checker.proofs.OpeningLaws.{split_shape, no_range, no_form, spells_opening, is_opening}
use Rattle.tree_checker.proofs.opening.judge_opening.Goals as goal

pub read_form-requires : goal.read_form-requires
read_form-requires c = omega (arith, c.requires.limits.few_columns, c.requires.dense)

pub returns-in_default-read_range-clause-opened : goal.returns-in_default-read_range-clause-opened
returns-in_default-read_range-clause-opened c = λ splits same.
    inr (split_shape c.args.rows.now c.args.text.now c.in-Some.words c.in-Some.ensures, λ opening spells. no_range c.args.rows.now c.args.text.now c.in-Some.words c.in-Some.ensures c.in_default-read_range.ensures opening spells)

pub returns-then-not-read_form-clause-opened : goal.returns-then-not-read_form-clause-opened
returns-then-not-read_form-clause-opened c = λ splits same.
    let none = c.if-not-read_form.ensures in
    inr (
      split_shape c.args.rows.now c.args.text.now c.in-Some.words c.in-Some.ensures,
      λ opening spells.
          no_form c.args.rows.now c.args.text.now c.in-Some.words c.in-Some.ensures (length c.args.form.now) c.requires.dense (λ form long read. none.read form long (c.again.ensures ∙ read.0, read.1)) opening spells,
    )

pub returns-then-is_too_deep-clause-opened : goal.returns-then-is_too_deep-clause-opened
returns-then-is_too_deep-clause-opened c = λ splits same.
    let range = c.in-Some-read_range.range in
    let form = c.read_form.new.form in
    let has = c.if-not-read_form.ensures in
    let read : AreFormWords c.in-Some.words.form form = (sym c.again.ensures ∙ has.read.0, has.read.1) in
    let deep = c.is_too_deep.ensures.0 c.if-is_too_deep.true in
    let spells = c.in-Some-read_range.ensures in
    let too_deep : IsTooDeep c.args.rows.now splits (opening_of range form) = (omega (arith, same, deep.0), omega (arith, ints, deep.1, spells.count.1, spells.count.2)) in
    inr (
      split_shape c.args.rows.now c.args.text.now c.in-Some.words c.in-Some.ensures,
      (opening_of range form, spells_opening c.args.rows.now c.args.text.now c.in-Some.words c.in-Some.ensures range form spells read (has.dense ∙ c.requires.dense), too_deep),
    )

pub returns-then-not-is_light-clause-opened : goal.returns-then-not-is_light-clause-opened
returns-then-not-is_light-clause-opened c = λ splits same.
    let range = c.in-Some-read_range.range in
    let form = c.read_form.new.form in
    let has = c.if-not-read_form.ensures in
    let read : AreFormWords c.in-Some.words.form form = (sym c.again.ensures ∙ has.read.0, has.read.1) in
    let spells = c.in-Some-read_range.ensures in
    let shallow = iff_false c.is_too_deep.ensures c.if-is_too_deep.false in
    let heavy = iff_false c.is_light.ensures c.if-not-is_light.true in
    let above : 2 ^ 96 < span form c.args.rows.now.box = omega (arith, heavy) in
    inr (
      split_shape c.args.rows.now c.args.text.now c.in-Some.words c.in-Some.ensures,
      (
        opening_of range form,
        spells_opening c.args.rows.now c.args.text.now c.in-Some.words c.in-Some.ensures range form spells read (has.dense ∙ c.requires.dense),
        λ deep. shallow (omega (arith, same, deep.0), omega (arith, ints, deep.1, spells.count.1, spells.count.2)),
        above,
      ),
    )

pub returns-clause-opened : goal.returns-clause-opened
returns-clause-opened c = λ splits same.
    let range = c.in-Some-read_range.range in
    let form = c.read_form.new.form in
    let has = c.if-not-read_form.ensures in
    let read : AreFormWords c.in-Some.words.form form = (sym c.again.ensures ∙ has.read.0, has.read.1) in
    let spells = c.in-Some-read_range.ensures in
    let shallow = iff_false c.is_too_deep.ensures c.if-is_too_deep.false in
    let light = c.is_light.ensures.0 c.if-not-is_light.false in
    is_opening c.args.rows.now c.args.text.now c.in-Some.words c.in-Some.ensures range form spells read (has.dense ∙ c.requires.dense) splits
    (λ deep. shallow (omega (arith, same, deep.0), omega (arith, ints, deep.1, spells.count.1, spells.count.2)))
    light
