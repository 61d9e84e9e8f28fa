-- When a root is closed.
use Rattle.std.proofs.Common.{◌≡◌, inl, inr, ℕ, ◌<◌, [], length, sym, subst, ◌∙◌}
use Rattle.std.specs.Prelude.{None}
use Rattle.std.proofs.lemmas.List.{get_or_default}
use Rattle.whole_rows.specs.WholeRows.{WholeRows, row_at}
use Rattle.plain_slices.specs.Shut.{Shut}
use Rattle.presolve_map.specs.Roots.{HasCrossingSides, IsClosedRoot}

-- a row whose sides cross closes it
pub closed-by_row : (rows : WholeRows) (i : ℕ) → i < length rows.rows → HasCrossingSides (row_at rows i) → IsClosedRoot rows
closed-by_row rows i h crosses = inr (i, row_at rows i, h, get_or_default rows.rows i (row_at rows i) (record { factors = []; low = None; high = None }) h, crosses)

-- nothing else does than what shuts it
pub open-root : (rows : WholeRows) → (Shut rows [] None → ⊥) → ((i : ℕ) → i < length rows.rows → HasCrossingSides (row_at rows i) → ⊥) → IsClosedRoot rows → ⊥
open-root rows not_shut no_row (inl shut) = not_shut shut
open-root rows not_shut no_row (inr some) =
    let same : row_at rows some.0 ≡ some.1 = get_or_default rows.rows some.0 (record { factors = []; low = None; high = None }) some.1 some.2 ∙ some.3 in
    no_row some.0 some.2 (subst HasCrossingSides (sym same) some.4)
