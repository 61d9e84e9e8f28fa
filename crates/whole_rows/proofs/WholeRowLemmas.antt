-- One row of whole rows: what it weighs, and whether values meet it.
use Rattle.std.proofs.Common.{◌≡◌, List, ℤ, Option, ◌↔◌}
use Rattle.exact_math.specs.Ring.{integers}
use Rattle.exact_vectors.specs.Vectors.{dot}
use Rattle.whole_rows.specs.WholeRows.{IsWithin, WholeRow, MeetsRow}

-- whether values meet a row, by the row's parts as they were read
pub meets_row-read : (row : WholeRow) (x : List ℤ) (low high : Option ℤ) (factors : List ℤ) (value : ℤ) → low ≡ row.low → high ≡ row.high → factors ≡ row.factors → value ≡ dot integers factors x → IsWithin low high value ↔ MeetsRow row x
meets_row-read row x low high factors value is_low is_high is_factors is_value = rw (is_value, is_low, is_high, is_factors) ((λ h. h), (λ h. h))
