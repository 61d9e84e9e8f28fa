-- The system of a node as a polytope, and how large it is.
use Rattle.std.proofs.Common.{◌≡◌, ℕ, zero, suc, ◌*◌, ◌≤◌, ◌<◌, Bool, List, [], ◌∷◌, ◌++◌, length, map, get_or, take, drop, ℤ, pos, refl, sym, ap, ap₂, subst, ◌∙◌, arith, All}
use Rattle.std.specs.Prelude.{Option, is_some}
use Rattle.std.proofs.lemmas.List.{length-drop, length-map, take-append-drop}
use Rattle.std.proofs.lemmas.List.Elements.{All-append, All-from_get_or, All-get_or, All-head, All-nil, All-tail}
use Rattle.exact_math.specs.Ring.{integers}
use Rattle.exact_math.specs.Rational.{ℚ, whole}
use Rattle.exact_vectors.specs.Matrices.{column, rows_of}
use Rattle.exact_vectors.specs.MatrixLaws as Matrix
use Rattle.frac128.specs.Range.{IsNarrow}
use Rattle.whole_rows.specs.WholeRows.{WholeRows, IsWithinLimits}
use Rattle.farkas_rows.specs.Inequalities.{Inequality, unit}
use Rattle.farkas_rows.specs.NodeLaws.{dot-unit}
use Rattle.spaces.specs.Maps.{AffineMap, pulled_form}
use Rattle.spaces.specs.TableLaws.{HasWidth-rows_in, length-rows_in}
use Rattle.spaces.specs.Tables.{rows_in}
use Rattle.lp_dict.specs.Systems.{wholes}
use Rattle.lp_dict.specs.declared.system.System.{System}
use Rattle.norm_gauge.specs.Widths.{AreNarrow, Polytope, polytope_of}
use Rattle.reformulate.specs.Substitutions.{IsShaped, Substitution, columns_of, dimension_of}
use Rattle.presolve_map.specs.ReducedRows.{ReducedRows, IsReduced, needed_flags, reduced_row, can_violate}
use Rattle.presolve_map.specs.Selections.{select}
use Rattle.presolve_map.proofs.KeptLaws.{columns_le, length-kept}
use Rattle.presolve_map.proofs.SelectLaws.{length-select, positions_le}
use Rattle.farkas_lift.specs.Joined.{joined}
use Rattle.farkas_lift.specs.NodeSides.{column_sides, cut_side, inequality_of, node_sides, row_sides}
use Rattle.farkas_lift.specs.NodeSystem.{IsSystemOf, LimitFits, SideStays, SystemStays, cut_of}
use Rattle.farkas_lift.specs.declared.side.NodeSide.{NodeSide}
use Rattle.farkas_lift.specs.declared.side.NodeSide.TheVariants.{ColumnAtMost, ColumnAtLeast}
use Rattle.farkas_lift.proofs.SideLaws.{sides-few}
use Rattle.node_regions.specs.MetNodeLaws.{back_part, front_part, joined_part}
use Rattle.node_regions.specs.NodeRegions.{polytope_in}

-- ---- the polytope

made : ℕ → List (List ℚ) → List ℚ → Polytope
made n rows limits = record { coordinates = n; rows = rows; limits = limits }

factors-twice : (inequalities : List Inequality) → map wholes (map (λ (inequality : Inequality). inequality.factors) inequalities) ≡ map (λ (inequality : Inequality). wholes inequality.factors) inequalities
factors-twice [] = refl
factors-twice (i ∷ inequalities) = ap (λ (l : List (List ℚ)). wholes i.factors ∷ l) (factors-twice inequalities)

limits-twice : (inequalities : List Inequality) → wholes (map (λ (inequality : Inequality). inequality.limit) inequalities) ≡ map (λ (inequality : Inequality). whole inequality.limit) inequalities
limits-twice [] = refl
limits-twice (i ∷ inequalities) = ap (λ (l : List ℚ). whole i.limit ∷ l) (limits-twice inequalities)

-- the polytope of a system with these inequalities
pub polytope-system : (inequalities : List Inequality) (frame : Substitution) (system : System) → IsSystemOf (dimension_of frame) inequalities system → polytope_of system.rows system.limits ≡ polytope_in inequalities frame
unfolding made
polytope-system inequalities frame system is =
    ap (λ (n : ℕ). made n (map wholes (rows_in system.rows)) (wholes system.limits)) is.width
    ∙ ap₂ (made (dimension_of frame)) (ap (map wholes) is.rows ∙ factors-twice inequalities) (ap wholes is.limits ∙ limits-twice inequalities)

-- ---- how many inequalities

kept-few : {A : Type 0} (flags : List Bool) (xs : List A) → length flags ≡ length xs → length (select flags xs) ≤ length xs
kept-few flags xs e = omega (arith, length-select flags xs 0 e, positions_le flags 0)

pub sides-count : (model : WholeRows) (work : ReducedRows) (has_cut : Bool) → IsWithinLimits model → IsReduced model work → length (node_sides work has_cut) ≤ 1025
sides-count model work has_cut limits reduced =
    let rows : length work.rows.rows ≤ length model.rows =
    omega (arith, ap length reduced.rows, length-map (select (needed_flags model.box model.rows) model.rows) (reduced_row model.box), kept-few (needed_flags model.box model.rows) model.rows (length-map model.rows (can_violate model.box))) in
    let columns : length work.rows.box ≤ length model.box = omega (arith, ap length reduced.box, length-kept model.box model.box refl, columns_le model.box) in
    omega (arith, sides-few work has_cut, rows, columns, limits.few_rows, limits.few_columns)

-- ---- narrow entries

items-narrow : (width count : ℕ) (items : List ℤ) → length items ≡ count * width → AreNarrow (rows_of width count items) → All IsNarrow items
items-narrow width zero [] e h = All-nil IsNarrow
items-narrow width zero (z ∷ items) e h = absurd (omega arith)
items-narrow width (suc count) items e h =
    subst (All IsNarrow) (take-append-drop width items)
    (All-append IsNarrow (take width items) (drop width items) (All-head (λ (row : List ℤ). All IsNarrow row) (take width items) (rows_of width count (drop width items)) h)
    (items-narrow width count (drop width items) (omega (arith, length-drop width items, e)) (All-tail (λ (row : List ℤ). All IsNarrow row) (take width items) (rows_of width count (drop width items)) h)))

-- a line of a map is the form of its column pulled back
pulled-unit : (placing : AffineMap) (j k : ℕ) → length placing.lines.items ≡ placing.lines.rows * placing.lines.width → j < placing.lines.rows → get_or (pulled_form placing (unit placing.lines.rows j)) k (pos 0) ≡ get_or (get_or (rows_in placing.lines) j []) k (pos 0)
pulled-unit placing j k size h =
    let many : length (column integers (rows_in placing.lines) k) ≡ placing.lines.rows = column-long (rows_in placing.lines) k ∙ length-rows_in placing.lines in
    Matrix.combination-at integers placing.lines.width (unit placing.lines.rows j) (rows_in placing.lines) k (HasWidth-rows_in placing.lines size)
    ∙ dot-unit placing.lines.rows j (column integers (rows_in placing.lines) k) many h
    ∙ Matrix.column-at integers (rows_in placing.lines) k j [] (pos 0) (omega (arith, length-rows_in placing.lines))
  where
    column-long : (rows : List (List ℤ)) (k : ℕ) → length (column integers rows k) ≡ length rows
    column-long [] k = refl
    column-long (row ∷ rows) k = ap suc (column-long rows k)

-- the numbers of one inequality stay in range
abbrev SideIsInRange : ReducedRows → Substitution → Option ℤ → NodeSide → Type 0
SideIsInRange work frame cut side = LimitFits work (cut_of cut) side × SideStays frame.to_work (inequality_of work (cut_of cut) side)

-- Where the numbers of the system stay in range, no entry of K is -2^127.
pub lines-narrow : (work : ReducedRows) (frame : Substitution) (cut : Option ℤ) → IsShaped frame → columns_of frame ≡ length work.rows.box → SystemStays frame work cut → All IsNarrow frame.to_work.lines.items
lines-narrow work frame cut shaped columns stays =
    items-narrow frame.to_work.lines.width frame.to_work.lines.rows frame.to_work.lines.items shaped.size_lines
    (All-from_get_or (λ (row : List ℤ). All IsNarrow row) (rows_in frame.to_work.lines) [] (λ j lt.
    let below : j < frame.to_work.lines.rows = omega (arith, length-rows_in frame.to_work.lines) in
    let there : j < length work.rows.box = omega (arith, below, columns) in
    All-from_get_or IsNarrow (get_or (rows_in frame.to_work.lines) j []) (pos 0) (λ k less.
    let side = side-of j there in
    let wide : length (get_or (rows_in frame.to_work.lines) j []) ≡ frame.to_work.lines.width = Matrix.HasWidth-at integers frame.to_work.lines.width (rows_in frame.to_work.lines) j [] (HasWidth-rows_in frame.to_work.lines shaped.size_lines) lt in
    let long : length (pulled_form frame.to_work (unit (length work.rows.box) j)) ≡ frame.to_work.lines.width = Matrix.length-combination integers frame.to_work.lines.width (unit (length work.rows.box) j) (rows_in frame.to_work.lines) (HasWidth-rows_in frame.to_work.lines shaped.size_lines) in
    subst IsNarrow (ap (λ (n : ℕ). get_or (pulled_form frame.to_work (unit n j)) k (pos 0)) (sym columns) ∙ pulled-unit frame.to_work j k shaped.size_lines below)
    (All-get_or IsNarrow (pulled_form frame.to_work (unit (length work.rows.box) j)) k (pos 0) (omega (arith, less, wide, long)) side.factors))))
  where
    side-of : (j : ℕ) → j < length work.rows.box → SideStays frame.to_work (inequality_of work (cut_of cut) (ColumnAtMost j))
    side-of j lt =
        (All-head (SideIsInRange work frame cut) (ColumnAtMost j) (ColumnAtLeast j ∷ [])
        (joined_part (SideIsInRange work frame cut) column_sides (length work.rows.box) j lt
        (front_part (SideIsInRange work frame cut) (joined column_sides (length work.rows.box)) (cut_side (is_some cut))
        (back_part (SideIsInRange work frame cut) (joined (row_sides work) (length work.rows.rows)) (joined column_sides (length work.rows.box) ++ cut_side (is_some cut)) stays)))).1
