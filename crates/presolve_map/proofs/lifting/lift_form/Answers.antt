use Rattle.std.proofs.Common.{rules, ◌≡◌, ◌+◌, ◌<◌, ◌≤◌, ℤ, List, [], ◌∷◌, ◌++◌, length, drop, SFits, ap, sym, subst₂, ◌∙◌, to_z-of_z, append_assoc, arith}
use Rattle.std.specs.Int.{w128}
use Rattle.std.proofs.lemmas.List.{append-nil}
use Rattle.exact_math.specs.Ring.{integers}
use Rattle.exact_vectors.specs.Vectors.{dot}
use Rattle.exact_vectors.specs.Matrices.{times_vector}
use Rattle.spaces.specs.Tables.{Table, row_at, rows_in}
use Rattle.presolve_map.specs.Lifted.{IsColumnLine}
use Rattle.presolve_map.proofs.LiftLaws.{row-is_column, lifted-value, item-more, items-end}
use Rattle.presolve_map.proofs.lifting.lift_form.Goals as goal

pub moved_item-requires-clause-line : goal.moved_item-requires-clause-line
moved_item-requires-clause-line c =
    let map = c.args.map.now in
    let within : c.loop-i.i < c.args.map.now.lines.rows = omega (arith, c.loop-i-test.true, c.rows-i-end.ensures.count, ap (λ (t : Table ℤ). t.rows) c.lines-lines.ensures.value) in
    let width = sym c.requires.wide ∙ ap (λ (f : List ℤ). length f) (sym c.items.ensures) in
    let row = ap (λ (t : Table ℤ). row_at t c.loop-i.i) (sym c.lines-lines.ensures.value) ∙ sym c.row.ensures.value in
    subst₂ IsColumnLine width row (row-is_column c.args.map.now c.loop-i.i c.requires.columns within)

pub loop-i-preserved : goal.loop-i-preserved
loop-i-preserved c =
    let table = c.lines-lines.result.now in
    let form = c.args.form.now in
    let fits : SFits w128 c.moved_item.result = search rules in
    let within : c.loop-i.i < c.lines-lines.result.now.rows = omega (arith, c.loop-i-test.true, c.rows-i-end.ensures.count) in
    let moved : c.moved_item.result ≡ dot integers (row_at c.lines-lines.result.now c.loop-i.i) c.args.form.now = rw (c.row.ensures.value, c.items.ensures) at c.moved_item.ensures in
    let pushed : c.push.new.self.items ≡ c.loop-i.items.items ++ c.moved_item.result ∷ [] = simp to_z-of_z at c.in_ok-push.ensures.items in
    let rest : List ℤ = times_vector integers (drop (c.loop-i.i + 1) (rows_in c.lines-lines.result.now)) c.args.form.now in
    ap (λ (l : List ℤ). l ++ times_vector integers (drop (c.loop-i.i + 1) (rows_in c.lines-lines.result.now)) c.args.form.now) pushed
    ∙ append_assoc c.loop-i.items.items (c.moved_item.result ∷ []) rest
    ∙ ap (λ (z : ℤ). c.loop-i.items.items ++ z ∷ times_vector integers (drop (c.loop-i.i + 1) (rows_in c.lines-lines.result.now)) c.args.form.now) moved
    ∙ ap (λ (l : List ℤ). c.loop-i.items.items ++ l) (sym (item-more table form c.loop-i.i within))
    ∙ c.loop-i.invariant

pub returns-clause-value : goal.returns-clause-value
returns-clause-value c =
    let table = c.lines-lines.result.now in
    let past : c.lines-lines.result.now.rows ≤ c.loop-i.i = omega (arith, c.loop-i-test.false, c.rows-i-end.ensures.count) in
    c.of.ensures
    ∙ sym (append-nil c.loop-i.items.items)
    ∙ ap (λ (l : List ℤ). c.loop-i.items.items ++ l) (sym (items-end table c.args.form.now c.loop-i.i past))
    ∙ c.loop-i.invariant
    ∙ ap (λ (t : Table ℤ). times_vector integers (rows_in t) c.args.form.now) c.lines-lines.ensures.value

pub returns-clause-same : goal.returns-clause-same
returns-clause-same c = λ v e. lifted-value c.args.map.now c.args.form.now v c.requires.columns c.requires.wide e
