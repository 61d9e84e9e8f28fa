-- What presolving leaves of the rows that a brancher works for.
use Rattle.std.specs.Prelude.{◌≡◌, ℤ, List, Option, refl}
use Rattle.std.specs.Coded.{Coded, Coded-set, code_by, coded×, coded_list, coded_option, coded_ℤ}
use Rattle.whole_rows.specs.declared.bounds.Bounds.{Bounds}
use Rattle.whole_rows.specs.WholeRows.{WholeRow, WholeRows}
use Rattle.farkas_rows.specs.declared.line.CutUse.{CutUse}
use Rattle.presolve_map.specs.Roots.{IsClosedRoot, IsRootLine}
use Rattle.slice_branch.specs.declared.roots.Root.{Root}
use Rattle.slice_branch.specs.declared.roots.Root.TheVariants.{Open, Closed}
use denote.Struct.Props.{props}

-- an open model is one of these rows, and the root is not closed; else it is closed, and the line refutes it without a cut
abbrev pub IsRootOf : WholeRows → Root → Type 0
IsRootOf rows (Open model) = (model.rows.now ≡ rows) × ¬ (IsClosedRoot rows)
IsRootOf rows (Closed line) = (¬ (¬ (IsClosedRoot rows))) × IsRootLine rows line

-- how rows are stored
abbrev pub bounds_code : Coded Bounds
bounds_code = code_by (ℤ × ℤ) (coded× coded_ℤ coded_ℤ) (λ b. (b.low, b.high)) (λ p. record { low = p.0; high = p.1 }) (λ _. refl)

abbrev pub row_code : Coded WholeRow
row_code = code_by (List ℤ × (Option ℤ × Option ℤ)) (coded× (coded_list coded_ℤ) (coded× (coded_option coded_ℤ) (coded_option coded_ℤ))) (λ r. (r.factors, (r.low, r.high))) (λ p. record { factors = p.0; low = p.1.0; high = p.1.1 }) (λ _. refl)

abbrev pub rows_code : Coded WholeRows
rows_code = code_by (List Bounds × (List WholeRow × List ℤ)) (coded× (coded_list bounds_code) (coded× (coded_list row_code) (coded_list coded_ℤ))) (λ r. (r.box, (r.rows, r.cost))) (λ p. record { box = p.0; rows = p.1.0; cost = p.1.1 }) (λ _. refl)

-- and the use of a cut
abbrev pub cut_code : Coded CutUse
cut_code = code_by (ℤ × ℤ) (coded× coded_ℤ coded_ℤ) (λ c. (c.value, c.times)) (λ p. record { value = p.0; times = p.1 }) (λ _. refl)

-- that is so in one way at most
pub IsRootOf-prop : (rows : WholeRows) (root : Root) → IsProp (IsRootOf rows root)
IsRootOf-prop rows (Open model) = hlevel (props, Coded-set rows_code)
IsRootOf-prop rows (Closed line) = hlevel (props, Coded-set (coded_option cut_code))
