use Rattle.std.proofs.Common.{◌∙◌, inl, inr}
use Rattle.frac128.proofs.Comparisons.{by_whole_parts, by_zero, by_turning}
use Rattle.frac128.proofs.order.+compare_quotients.Goals as goal
use Rattle.frac128.proofs.order.+compare_quotients.Goals.{then-right_rest-eq0-via-then-right_rest-eq0, then-right_rest-eq0-via-else-right_rest-eq0+then-left_rest-eq0}

pub returns-then-left-right : goal.returns-then-left-right
returns-then-left-right t c =
    c.cmp.ensures ∙ by_whole_parts c.args.a c.args.b c.args.c c.args.d c.requires.b_positive c.requires.d_positive c.if-left-right.true

pub returns-then-right_rest-eq0 : goal.returns-then-right_rest-eq0
returns-then-right_rest-eq0 t c =
    c.cmp-then-right_rest-eq0.ensures ∙ by_zero c.args.a c.args.b c.args.c c.args.d c.requires.b_positive c.requires.d_positive c.if-left-right.false
    (elim c.then-right_rest-eq0.branch [ then-right_rest-eq0-via-then-right_rest-eq0 w ↦ inr w.if-right_rest-eq0.true | then-right_rest-eq0-via-else-right_rest-eq0+then-left_rest-eq0 w ↦ inl w.if-left_rest-eq0.true ])

pub returns : goal.returns
returns t c =
    c.compare_quotients.ensures ∙ by_turning c.args.a c.args.b c.args.c c.args.d c.if-left-right.false
