-- The multipliers of a node's system, from the parts of the way to them.
use Rattle.std.proofs.Common.{◌≡◌, ℕ, ◌+◌, ◌*◌, true, false, ℤ, List, [], ◌∷◌, length, get_or, sym, ap, subst, ◌∙◌, All, length-append}
use Rattle.std.specs.Prelude.{Option, Result, Ok, Err, OnOk}
use Rattle.exact_math.specs.Rational.{ℚ}
use Rattle.exact_vectors.specs.Matrices.{HasWidth}
use Rattle.spaces.specs.Tables.{Table, rows_in}
use Rattle.spaces.specs.TableLaws.{HasWidth-rows_in}
use Rattle.whole_rows.specs.WholeRows.{WholeRows, IsWithinLimits}
use Rattle.row_lifting.specs.Lifting.{none, SumsTo}
use Rattle.farkas_rows.specs.declared.fracs.FracUse.{FracUse}
use Rattle.farkas_rows.specs.declared.path.Slice.{Slice}
use Rattle.farkas_rows.specs.Inequalities.{Inequality}
use Rattle.presolve_map.specs.LiftedLines.{IsOverKept}
use Rattle.presolve_map.specs.ReducedRows.{ReducedRows, IsReduced}
use Rattle.reformulate.specs.Frames.{IsFrame}
use Rattle.reformulate.specs.Substitutions.{Substitution, columns_of, IsShaped}
use Rattle.farkas_lift.specs.NodeEqualities.{node_equalities}
use Rattle.farkas_lift.specs.NodeLifting.{equality_forms, lifted_limit, node_places, rest_form, side_forms, system_form, uses_of, weighted_sides, ComesTo, HasOneEach}
use Rattle.farkas_lift.specs.NodeSides.{node_sides}
use Rattle.farkas_lift.specs.declared.side.NodeSide.TheVariants.{Cut}
use Rattle.farkas_lift.proofs.NodeComes.{sides-cut, comes-to}
use Rattle.farkas_lift.proofs.RestLaws.{rest_sums_to}

-- a fact that stands whatever the answer
pub on_ok : {T E P : Type 0} (r : Result T E) → P → OnOk r P
on_ok (Ok x) p = p
on_ok (Err e) p = tt

-- ---- the sides that have weights

pub sides_many : (rows : ReducedRows) → length (node_sides rows true) ≡ length (node_sides rows false) + 1
sides_many rows = ap length (sides-cut rows) ∙ length-append (node_sides rows false) (Cut ∷ [])

-- rows of some tables are as wide as those
pub wide_rows : (t : Table ℤ) (n : ℕ) (rows : List (List ℤ)) → length t.items ≡ t.rows * t.width → t.width ≡ n → rows_in t ≡ rows → HasWidth n rows
wide_rows t n rows size width is = subst (HasWidth n) is (subst (λ m. HasWidth m (rows_in t)) width (HasWidth-rows_in t size))

-- ---- what the items come to

pub lifted-comes : (model : WholeRows) (frame : Substitution) (rows : ReducedRows) (path : List Slice) (weights times row : List ℚ) (cut : ℚ) (items : List FracUse) → IsWithinLimits model → IsReduced model rows → IsShaped frame → columns_of frame ≡ length rows.rows.box
    → IsFrame (node_equalities rows path) frame → All (λ (slice : Slice). IsOverKept model slice.form) path → HasOneEach rows weights → HasWidth (columns_of frame) (side_forms rows (weighted_sides rows weights)) → HasWidth (columns_of frame) (equality_forms rows path)
    → row ≡ rest_form frame (side_forms rows (weighted_sides rows weights)) weights → ((m : List ℚ) → SumsTo (equality_forms rows path) row m → SumsTo (equality_forms rows path) row times)
    → cut ≡ get_or weights (length (node_sides rows false)) none → items ≡ uses_of (node_places model rows (length path)) weights times
    → (end : Option Inequality) (value : ℤ) → ComesTo model rows path end value cut items (system_form frame rows weights) (lifted_limit frame rows value weights)
lifted-comes model frame rows path weights times row cut items limits reduced shaped columns is_frame kept one_each wide dense is_row sums is_cut is_items end value =
    let f = subst (λ r. (m : List ℚ) → SumsTo (equality_forms rows path) r m → SumsTo (equality_forms rows path) r times) is_row sums in
    let sum = rest_sums_to frame shaped (side_forms rows (weighted_sides rows weights)) wide weights (node_equalities rows path) is_frame dense times f in
    let comes = comes-to model frame rows path weights times limits reduced shaped columns is_frame kept one_each wide dense sum end value in
    subst (λ (q : ℚ). ComesTo model rows path end value q items (system_form frame rows weights) (lifted_limit frame rows value weights)) (sym is_cut)
    (subst (λ (l : List FracUse). ComesTo model rows path end value (get_or weights (length (node_sides rows false)) none) l (system_form frame rows weights) (lifted_limit frame rows value weights)) (sym is_items) comes)
