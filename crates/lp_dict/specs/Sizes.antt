-- The condition on a system and a form under which there is a dictionary of them.
use Rattle.std.specs.Prelude.{◌≡◌, ◌+◌, ◌*◌, ◌≤◌, ◌^◌, ℤ, List, length}
use Rattle.std.specs.List.{All}
use Rattle.frac128.specs.Range.{IsNarrow}
use Rattle.spaces.specs.Tables.{Table}

-- There are as many limits as rows, the form has as many items as the system has columns, the entries and constants of the dictionary are at most
-- 2^31, and no entry of the system or the form is -2^127.
pub record MeetsCondition (rows : Table ℤ) (limits form : List ℤ) : Type 0 where
  pub as_many_limits : length limits ≡ rows.rows
  pub as_many_factors : length form ≡ rows.width
  pub size : (rows.rows + 1) * (rows.width + 1) ≤ 2 ^ 31
  pub narrow_rows : All IsNarrow rows.items
  pub narrow_limits : All IsNarrow limits
  pub narrow_form : All IsNarrow form
