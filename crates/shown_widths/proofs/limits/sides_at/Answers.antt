use Rattle.std.proofs.Common.{rules, ◌+◌, ◌-◌, ◌*◌, get_or, sym, ap, ◌∙◌, FitsSigned, arith, neg_ℤ}
use Rattle.std.specs.Prelude.{Some, option_map}
use Rattle.std.specs.Int.{w128}
use Rattle.std.proofs.lemmas.Int.{to_z-of_z}
use Rattle.shown_widths.proofs.LimitLaws.{high-row, low-row, high-column, low-column, high-slice, low-slice, high-end, none-past}
use Rattle.shown_widths.proofs.limits.sides_at.Goals as goal

pub returns-then-place-rows-clause-high : goal.returns-then-place-rows-clause-high
returns-then-place-rows-clause-high c = λ inequality e. high-row c.args.rows.now c.args.path.now inequality c.args.place (omega (arith, c.if-place-rows.true, c.rows.ensures.count)) ∙ sym c.high.ensures

pub returns-then-place-rows-clause-low : goal.returns-then-place-rows-clause-low
returns-then-place-rows-clause-low c = λ inequality e. low-row c.args.rows.now c.args.path.now inequality c.args.place (omega (arith, c.if-place-rows.true, c.rows.ensures.count)) ∙ ap (option_map neg_ℤ) (sym c.low.ensures)

pub returns-then-column-columns-clause-high : goal.returns-then-column-columns-clause-high
returns-then-column-columns-clause-high c = λ inequality e.
    let fits : FitsSigned w128 c.box_high.result = search rules in
    high-column c.args.rows.now c.args.path.now inequality c.args.place (c.args.place - c.rows-2.result) (omega (arith, c.if-place-rows.false, c.rows.ensures.count, c.rows-2.ensures.count)) (omega (arith, c.if-column-columns.true, c.columns.ensures.count))
    ∙ ap Some (sym (to_z-of_z w128 c.box_high.result fits ∙ c.box_high.ensures))

pub returns-then-column-columns-clause-low : goal.returns-then-column-columns-clause-low
returns-then-column-columns-clause-low c = λ inequality e.
    let fits : FitsSigned w128 c.box_low.result = search rules in
    low-column c.args.rows.now c.args.path.now inequality c.args.place (c.args.place - c.rows-2.result) (omega (arith, c.if-place-rows.false, c.rows.ensures.count, c.rows-2.ensures.count)) (omega (arith, c.if-column-columns.true, c.columns.ensures.count))
    ∙ ap (λ z. Some (neg_ℤ z)) (sym (to_z-of_z w128 c.box_low.result fits ∙ c.box_low.ensures))

pub returns-then-slice-path-clause-high : goal.returns-then-slice-path-clause-high
returns-then-slice-path-clause-high c = λ inequality e.
    let k = c.args.place - c.rows-2.result - c.columns-2.result in
    let beta = (get_or c.args.path.now k c.index-path-slice.result).beta in
    let fits : FitsSigned w128 beta = search rules in
    high-slice c.args.rows.now c.args.path.now inequality c.args.place k c.index-path-slice.result (omega (arith, c.if-place-rows.false, c.if-column-columns.false, c.rows.ensures.count, c.rows-2.ensures.count, c.columns.ensures.count, c.columns-2.ensures.count)) (omega (arith, c.if-slice-path.true))
    ∙ ap (Some) (sym (to_z-of_z w128 beta fits))

pub returns-then-slice-path-clause-low : goal.returns-then-slice-path-clause-low
returns-then-slice-path-clause-low c = λ inequality e.
    let k = c.args.place - c.rows-2.result - c.columns-2.result in
    let beta = (get_or c.args.path.now k c.index-path-slice.result).beta in
    let fits : FitsSigned w128 beta = search rules in
    low-slice c.args.rows.now c.args.path.now inequality c.args.place k c.index-path-slice.result (omega (arith, c.if-place-rows.false, c.if-column-columns.false, c.rows.ensures.count, c.rows-2.ensures.count, c.columns.ensures.count, c.columns-2.ensures.count)) (omega (arith, c.if-slice-path.true))
    ∙ ap (λ z. Some (neg_ℤ z)) (sym (to_z-of_z w128 beta fits))

pub returns-then-slice-path-2-clause-high : goal.returns-then-slice-path-2-clause-high
returns-then-slice-path-2-clause-high c = λ inequality e.
    let fits : FitsSigned w128 c.args.end = search rules in
    high-end c.args.rows.now c.args.path.now inequality c.args.place (omega (arith, c.if-place-rows.false, c.if-column-columns.false, c.if-slice-path-2.true, c.rows.ensures.count, c.rows-2.ensures.count, c.columns.ensures.count, c.columns-2.ensures.count))
    ∙ ap Some (e ∙ sym (to_z-of_z w128 c.args.end fits))

pub returns-then-slice-path-2-clause-low : goal.returns-then-slice-path-2-clause-low
returns-then-slice-path-2-clause-low c = λ inequality e.
    none-past c.args.rows.now c.args.path.now inequality (2 * c.args.place + 1) (omega (arith, c.if-place-rows.false, c.if-column-columns.false, c.if-slice-path-2.true, c.rows.ensures.count, c.rows-2.ensures.count, c.columns.ensures.count, c.columns-2.ensures.count))

pub returns-clause-high : goal.returns-clause-high
returns-clause-high c = λ inequality e.
    none-past c.args.rows.now c.args.path.now inequality (2 * c.args.place) (omega (arith, c.if-place-rows.false, c.if-column-columns.false, c.if-slice-path.false, c.if-slice-path-2.false, c.rows.ensures.count, c.rows-2.ensures.count, c.columns.ensures.count, c.columns-2.ensures.count))

pub returns-clause-low : goal.returns-clause-low
returns-clause-low c = λ inequality e.
    none-past c.args.rows.now c.args.path.now inequality (2 * c.args.place + 1) (omega (arith, c.if-place-rows.false, c.if-column-columns.false, c.if-slice-path.false, c.if-slice-path-2.false, c.rows.ensures.count, c.rows-2.ensures.count, c.columns.ensures.count, c.columns-2.ensures.count))
