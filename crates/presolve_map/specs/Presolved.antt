-- What presolving answers.
use Rattle.std.specs.Prelude.{◌≡◌, ℤ, List}
use Rattle.whole_rows.specs.WholeRows.{WholeRows, Meets}
use Rattle.spaces.specs.Maps.{AffineMap, image}
use Rattle.presolve_map.specs.Columns.{kept, IsColumnMap}
use Rattle.presolve_map.specs.ReducedRows.{IsReduced}
use Rattle.presolve_map.specs.Roots.{IsClosedRoot, IsRootLine}
use Rattle.presolve_map.specs.declared.outcome.Presolved.{Presolved}
use Rattle.presolve_map.specs.declared.outcome.Presolved.TheVariants.{Open, Closed}

-- The map takes the values that meet the rows `work` one to one onto those that meet the rows.
pub record KeepsPoints (rows : WholeRows) (placing : AffineMap) (work : WholeRows) : Type 0 where
  pub into : (w : List ℤ) → Meets work w → Meets rows (image placing w)
  pub back : (w : List ℤ) → Meets work w → kept rows.box (image placing w) ≡ w
  pub onto : (x : List ℤ) → Meets rows x → Meets work (kept rows.box x)
  pub from : (x : List ℤ) → Meets rows x → image placing (kept rows.box x) ≡ x

-- An open root has the rows that are left, and the map from their points; a closed one has a line that refutes it.
abbrev pub IsPresolved : WholeRows → Presolved → Type 0
IsPresolved rows (Open placing work) = (IsClosedRoot rows → ⊥) × IsReduced rows work × IsColumnMap rows.box placing × KeepsPoints rows placing work.rows
IsPresolved rows (Closed line) = IsClosedRoot rows × IsRootLine rows line
