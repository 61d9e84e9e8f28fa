use Rattle.std.proofs.Common.{rules, ◌≡◌, ◌+ℤ◌, neg_ℤ, pos, ap, ap₂, ◌∙◌, sym, subst, FitsSigned}
use Rattle.std.specs.Int.{w128}
use Rattle.std.specs.Prelude.{Option, IfSome}
use Rattle.std.proofs.lemmas.Int.{to_z-of_z}
use Rattle.exact_math.specs.Rational.{ℚ, whole, ◌-ℚ◌}
use Rattle.farkas_rows.specs.Inequalities.{above, below}
use Rattle.form_widths.specs.NodeLineLaws.{node_width}
use Rattle.form_widths.specs.NodeLines.{margin, width_between}
use Rattle.form_widths.specs.Widths.{IsBoundOn}
use Rattle.node_point.specs.RationalPoints.{IsRationalPoint}
use Rattle.shown_widths.proofs.QuotientLaws.{holds_of}
use Rattle.shown_widths.proofs.width.width_of.Goals as goal

pub returns : goal.returns
returns c =
    let model = c.args.node.model.now in
    let path = c.args.node.path.now in
    let cut = c.args.cut.now in
    let splits = c.requires.splits in
    let region = IsRationalPoint model path c.args.node.cut in
    let lo_fits : FitsSigned w128 c.args.cut.now.lo = search rules in
    let count_fits : FitsSigned w128 c.args.cut.now.count = search rules in
    let low_fits : FitsSigned w128 c.in_ok-low.low = search rules in
    let high_fits : FitsSigned w128 c.in_ok-high.high = search rules in
    let turned_fits : FitsSigned w128 c.in_ok-checked_neg.field-0 = search rules in
    let most_fits : FitsSigned w128 (c.args.cut.now.count +ℤ pos 1) = search rules in
    let low = simp to_z-of_z at c.in_ok-low.ensures in
    let high = simp to_z-of_z at c.in_ok-high.ensures in
    let turned = simp to_z-of_z at c.in_ok-checked_neg.ensures in
    let most : c.whole-most.result ≡ whole (c.args.cut.now.count +ℤ pos 1) = simp to_z-of_z at c.whole-most.ensures in
    let below_is = c.in_ok-below.ensures (below cut.form cut.lo) (sym (to_z-of_z w128 c.in_ok-low.low low_fits ∙ low.1)) splits.below.refutes in
    let above_is = c.in_ok-above.ensures (above cut.form (cut.lo +ℤ cut.count)) (sym (to_z-of_z w128 c.in_ok-checked_neg.field-0 turned_fits ∙ turned.1 ∙ ap neg_ℤ high.1)) splits.above.refutes in
    let first : c.in_ok-ok.field-0 ≡ whole (cut.count +ℤ pos 1) -ℚ margin model path (below cut.form cut.lo) cut.below =
    subst (λ (found : Option ℚ). IfSome found (λ less. less ≡ whole (cut.count +ℤ pos 1) -ℚ margin model path (below cut.form cut.lo) cut.below)) (sym c.in_ok-ok.ensures.value)
    (holds_of (λ less. less ≡ whole (cut.count +ℤ pos 1) -ℚ margin model path (below cut.form cut.lo) cut.below) c.sub.result _ _ c.sub.ensures (ap₂ ◌-ℚ◌ most below_is)) in
    let bounded : IsBoundOn region cut.form (width_between model path cut.form cut.lo cut.count cut.below cut.above) =
    node_width model path c.args.node.cut cut.form cut.lo cut.count cut.below cut.above
    (record {
      limits = c.columns-columns.ensures.limits;
      forms = c.requires.forms;
      dense = splits.form.dense;
      below = record { refutes = splits.below.refutes; same_cut = splits.below.cut };
      above = record { refutes = splits.above.refutes; same_cut = splits.above.cut };
    }) in
    subst (λ (found : Option ℚ). IfSome found (IsBoundOn region cut.form)) (sym c.ok-2.ensures.value)
    (holds_of (IsBoundOn region cut.form) c.sub-2.result _ _ c.sub-2.ensures (subst (IsBoundOn region cut.form) (sym (ap₂ ◌-ℚ◌ first above_is)) bounded))
