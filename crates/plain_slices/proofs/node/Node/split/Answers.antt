use Rattle.std.proofs.Common.{◌≤◌, ◌^◌, nat_abs, ℤ, pos, ◌+ℤ◌, ◌-ℤ◌, length, ◌+◌, ◌*◌, ap, ap₂, ◌∙◌, arith}
use Rattle.std.specs.Int.{w128}
use Rattle.std.proofs.lemmas.Int.{to_z-of_z}
use Rattle.whole_rows.specs.WholeRows.{bounds_at, reach}
use Rattle.farkas_rows.specs.Inequalities.{unit}
use Rattle.plain_slices.proofs.BitLaws.{bits-count, count_back, small_fits}
use Rattle.plain_slices.proofs.SplitLaws.{splits-column}
use Rattle.plain_slices.proofs.node.Node.split.Goals as goal

pub overflow_add-result : goal.overflow_add-result
overflow_add-result c =
    let rows = c.args.self.now.rows.now in
    let light : reach (bounds_at rows c.args.column) ≤ 2 ^ 96 = c.rows.ensures.limits.light.reaches c.args.column (record { low = pos 0; high = pos 0 }) c.requires.column in
    let low : nat_abs c.box_low-low.result ≤ 2 ^ 96 = rw c.box_low-low.ensures (omega arith) in
    let high : nat_abs c.box_high-high.result ≤ 2 ^ 96 = rw c.box_high-high.ensures (omega arith) in
    (bits-count c.box_high-high.result c.box_low-low.result high low).0

pub returns-clause-last : goal.returns-clause-last
returns-clause-last c =
    let rows = c.args.self.now.rows.now in
    let light : reach (bounds_at rows c.args.column) ≤ 2 ^ 96 = c.rows.ensures.limits.light.reaches c.args.column (record { low = pos 0; high = pos 0 }) c.requires.column in
    let low : nat_abs c.box_low-low.result ≤ 2 ^ 96 = rw c.box_low-low.ensures (omega arith) in
    let high : nat_abs c.box_high-high.result ≤ 2 ^ 96 = rw c.box_high-high.ensures (omega arith) in
    ap₂ {A = ℤ} {B = ℤ} {C = ℤ} (λ l n. l +ℤ n) (to_z-of_z w128 c.box_low-low.result (small_fits c.box_low-low.result (omega arith))) (bits-count c.box_high-high.result c.box_low-low.result high low).1 ∙ count_back c.box_high-high.result c.box_low-low.result ∙ ap (λ h. h +ℤ pos 1) c.box_high-high.ensures

pub returns-clause-splits : goal.returns-clause-splits
returns-clause-splits c =
    let rows = c.args.self.now.rows.now in
    let light : reach (bounds_at rows c.args.column) ≤ 2 ^ 96 = c.rows.ensures.limits.light.reaches c.args.column (record { low = pos 0; high = pos 0 }) c.requires.column in
    let low : nat_abs c.box_low-low.result ≤ 2 ^ 96 = rw c.box_low-low.ensures (omega arith) in
    let high : nat_abs c.box_high-high.result ≤ 2 ^ 96 = rw c.box_high-high.ensures (omega arith) in
    splits-column rows c.args.self.now.path.now c.args.column (2 * (c.rows.result + c.args.column)) (2 * (c.rows-2.result + c.columns.result + length c.items.result.now)) _ c.rows.ensures.limits c.requires.column c.requires.ordered (ap (λ r. 2 * (r + c.args.column)) c.rows.ensures.count) (omega (arith, c.rows-2.ensures.count, c.columns.ensures.count, ap length c.items.ensures)) (c.of.ensures ∙ c.in_ok-form.ensures ∙ ap (λ n. unit n c.args.column) c.columns-2.ensures.count) (to_z-of_z w128 c.box_low-low.result (small_fits c.box_low-low.result (omega arith)) ∙ c.box_low-low.ensures) ((bits-count c.box_high-high.result c.box_low-low.result high low).1 ∙ ap₂ {A = ℤ} {B = ℤ} {C = ℤ} (λ h l. h -ℤ l +ℤ pos 1) c.box_high-high.ensures c.box_low-low.ensures) c.in_ok-below.ensures.cut c.in_ok-below.ensures.items c.in_ok-below.ensures.rising c.in_ok-above.ensures.cut c.in_ok-above.ensures.items c.in_ok-above.ensures.rising
