-- What the inequalities that a line combines have on the right.
use Rattle.std.specs.Prelude.{ℕ, ℤ, pos, ◌-ℤ◌, ◌*ℤ◌, List, map, Option, Some, None, option_map}
use Rattle.exact_math.specs.Ring.{integers}
use Rattle.exact_vectors.specs.Vectors.{dot}
use Rattle.whole_rows.specs.WholeRows.{WholeRows}
use Rattle.farkas_rows.specs.declared.line.CutUse.{CutUse}
use Rattle.farkas_rows.specs.declared.line.Line.{Line}
use Rattle.farkas_rows.specs.declared.path.Slice.{Slice}
use Rattle.farkas_rows.specs.Inequalities.{Inequality, inequality_at}
use Rattle.farkas_rows.specs.Refutes.{multipliers, used}

-- the limit of the inequality of this number, where there is one
abbrev pub limit_at : WholeRows → List Slice → Inequality → ℕ → Option ℤ
limit_at rows path end number = option_map (λ (inequality : Inequality). inequality.limit) (inequality_at rows path (Some end) number)

-- the limit of a cut as often as it is used, and 0 where there is none
abbrev pub cut_limit : Option CutUse → ℤ
cut_limit None = pos 0
cut_limit (Some cut) = cut.times *ℤ (cut.value -ℤ pos 1)

-- what the limits of the inequalities that a line uses come to, each as often as the line uses it
abbrev pub limit_sum : WholeRows → List Slice → Inequality → Line → ℤ
limit_sum rows path end line = dot integers (multipliers line) (map (λ (inequality : Inequality). inequality.limit) (used rows path (Some end) line))
