-- A reached frame as a chart, and the values of a form at its points.
use Rattle.std.proofs.Common.{◌≡◌, ℕ, ℤ, ◌+ℤ◌, List, length, sym, ap, subst, ◌∙◌}
use Rattle.exact_math.specs.Ring.{integers}
use Rattle.exact_vectors.specs.Vectors.{dot, add, negate, zeros}
use Rattle.exact_vectors.specs.Matrices.{combination, times_vector}
use Rattle.exact_vectors.specs.DotLaws as Dot
use Rattle.exact_vectors.specs.MatrixLaws as Matrix
use Rattle.spaces.specs.Tables.{rows_in}
use Rattle.reformulate.proofs.ChartLaws.{IsChart}
use Rattle.reformulate.proofs.FrameLaws.{Reach-reached}
use Rattle.reformulate.specs.Charts.{Chart, chart_of, point_at}
use Rattle.reformulate.specs.Frames.{IsReachedFrame}
use Rattle.reformulate.specs.Substitutions.{Substitution, dimension_of, point_of}
use Rattle.reformulate.specs.declared.equality.Equality.{Equality}

-- the value of a form at a point is that at x0 and that of the form on the coordinates
pub value_at : (n r : ℕ) (equalities : List Equality) (c : Chart) → IsChart n r equalities c → (w y : List ℤ) → dot integers w (point_at c y) ≡ dot integers w c.base +ℤ dot integers (combination integers r w c.pair.v) y
value_at n r equalities c chart w y =
    Dot.dot-add_right integers w c.base (times_vector integers c.pair.v y) (chart.base ∙ sym (Matrix.length-times_vector integers c.pair.v y ∙ chart.pair.height_v))
    ∙ ap (λ v. dot integers w c.base +ℤ v) (Matrix.dot_times_vector integers r w c.pair.v y chart.pair.width_v)

-- V has a row for each coordinate, since each y comes back
rows_back : (n : ℕ) (equalities : List Equality) (s : Substitution) → IsReachedFrame n equalities s → length (chart_of s).pair.u ≡ dimension_of s
rows_back n equalities s h =
    let y : List ℤ = zeros integers (dimension_of s) in
    let long : length y ≡ dimension_of s = Matrix.length-zeros integers (dimension_of s) in
    sym (Matrix.length-times_vector integers (rows_in s.back) (add integers (point_of s y) (negate integers s.to_work.base))) ∙ ap length (h.frame.back y long) ∙ long

pub chart_of_frame : (n : ℕ) (equalities : List Equality) (s : Substitution) → IsReachedFrame n equalities s → IsChart n (dimension_of s) equalities (chart_of s)
chart_of_frame n equalities s h = subst (λ k. IsChart n k equalities (chart_of s)) (rows_back n equalities s h) (Reach-reached n equalities (chart_of s) h.reach).chart
