use Rattle.std.proofs.Common.{rules, ◌<◌, ◌+ℤ◌, ◌*ℤ◌, ◌≤ℤ◌, pos, length, get_or, FitsSigned, sym, subst, arith}
use Rattle.std.specs.Int.{w128}
use Rattle.std.proofs.lemmas.Int.{to_z-of_z}
use Rattle.std.proofs.lemmas.List.Elements.{All-get_or}
use Rattle.exact_math.specs.IntegerRing.{linear}
use Rattle.farkas_rows.specs.declared.line.Use.{Use}
use Rattle.farkas_rows.specs.declared.line.Line.{Line}
use Rattle.farkas_rows.specs.Ends.{inequality_of}
use Rattle.farkas_rows.specs.Judgement.{IsWeight}
use Rattle.farkas_rows.specs.Refutes.{multipliers, used, line_of, line_weight, inequality_weight}
use Rattle.farkas_rows.proofs.LineLemmas.{upto, named, line_weight-none, line_weight-more, upto_all, upto_nonneg, weight_nonneg, multipliers-parts}
use Rattle.farkas_rows.proofs.judge.weigh_parts.Goals as goal

pub cut_weight-total-requires : goal.cut_weight-total-requires
cut_weight-total-requires c = (multipliers-parts (λ m. pos 0 ≤ℤ m) (line_of c.args.cut.now c.args.items.now) c.requires.not_negative).0

pub loop-item-init : goal.loop-item-init
loop-item-init c =
    subst (λ t. IsWeight t c.cut_weight-total.result) (sym (line_weight-none c.args.rows.now c.args.path.now (inequality_of c.args.end.now) (line_of c.args.cut.now c.args.items.now))) c.cut_weight-total.ensures

pub with_product-total-requires : goal.with_product-total-requires
with_product-total-requires c =
    let d : Use = record { index = 0; times = pos 0 } in
    let within : c.loop-item.item-index < length c.args.items.now = omega arith in
    let nonneg = All-get_or (λ (item : Use). pos 0 ≤ℤ item.times) c.args.items.now c.loop-item.item-index d within (multipliers-parts (λ m. pos 0 ≤ℤ m) (line_of c.args.cut.now c.args.items.now) c.requires.not_negative).1 in
    let times_fits : FitsSigned w128 (get_or c.args.items.now c.loop-item.item-index d).times = search rules in
    simp to_z-of_z nonneg

pub loop-item-preserved : goal.loop-item-preserved
loop-item-preserved c =
    let d : Use = record { index = 0; times = pos 0 } in
    let i = c.loop-item.item-index in
    let line = (line_of c.args.cut.now c.args.items.now) in
    let end = inequality_of c.args.end.now in
    let item = get_or line.items i d in
    let within : i < length line.items = omega arith in
    let times_fits : FitsSigned w128 (get_or c.args.items.now i d).times = search rules in
    let side = c.named_side.ensures.side in
    let weight = rw side at (c.weight-weight.ensures (length c.args.rows.now.box) c.named_side.ensures.within) in
    let product = simp to_z-of_z at c.with_product-total.ensures in
    let before : pos 0 ≤ℤ line_weight c.args.rows.now c.args.path.now end (upto line i) = weight_nonneg (multipliers (upto line i)) (used c.args.rows.now c.args.path.now end (upto line i)) (upto_nonneg line i c.requires.not_negative).0 in
    let size = pos (inequality_weight (named c.args.rows.now c.args.path.now end item)) in
    let sum : IsWeight (line_weight c.args.rows.now c.args.path.now end (upto line i) +ℤ item.times *ℤ size) c.with_product-total.result = product (line_weight c.args.rows.now c.args.path.now end (upto line i)) size before (omega linear) c.loop-item.invariant weight in
    subst (λ t. IsWeight t c.with_product-total.result) (sym (line_weight-more c.args.rows.now c.args.path.now end line i d within)) sum

pub returns : goal.returns
returns c =
    subst (λ (line : Line). IsWeight (line_weight c.args.rows.now c.args.path.now (inequality_of c.args.end.now) line) c.loop-item.total) (upto_all (line_of c.args.cut.now c.args.items.now) c.loop-item.item-index (c.loop-item-test.false)) c.loop-item.invariant
