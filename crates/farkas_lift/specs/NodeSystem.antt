-- The system of a node in the coordinates of a frame.
use Rattle.std.specs.Prelude.{◌≡◌, ℕ, ◌*◌, ℤ, pos, ◌-ℤ◌, List, length, map, Option, unwrap_or, is_some, FitsSigned, ⊤}
use Rattle.std.specs.List.{All}
use Rattle.spaces.specs.Maps.{AffineMap, pulled_form, pulled_constant, PullBackStays}
use Rattle.spaces.specs.Tables.{rows_in}
use Rattle.frac128.specs.Range.{IsNarrow}
use Rattle.farkas_rows.specs.Inequalities.{Inequality}
use Rattle.reformulate.specs.Substitutions.{Substitution}
use Rattle.presolve_map.specs.ReducedRows.{ReducedRows}
use Rattle.farkas_lift.specs.NodeSides.{node_sides, inequality_of}
use Rattle.farkas_lift.specs.declared.side.NodeSide.{NodeSide}
use Rattle.farkas_lift.specs.declared.side.NodeSide.TheVariants.{Cut}
use Rattle.lp_dict.specs.declared.system.System.{System}
use mir.Syntax.{w128}

-- For an inequality a x <= b of the points x = x0 + K y: the inequality (a K) y <= b - a x0.
abbrev pub pulled : AffineMap → Inequality → Inequality
pulled to_work inequality = record { factors = pulled_form to_work inequality.factors; limit = inequality.limit -ℤ pulled_constant to_work inequality.factors }

-- the value of a cut
abbrev pub cut_of : Option ℤ → ℤ
cut_of cut = unwrap_or cut (pos 0)

-- the inequalities of a node that are none of its equalities, in the coordinates of a frame
abbrev pub node_system : Substitution → ReducedRows → Option ℤ → List Inequality
node_system frame rows cut = map (λ side. pulled frame.to_work (inequality_of rows (cut_of cut) side)) (node_sides rows (is_some cut))

-- the system has these inequalities
pub record IsSystemOf (coordinates : ℕ) (inequalities : List Inequality) (system : System) : Type 0 where
  pub height : system.rows.rows ≡ length inequalities
  pub width : system.rows.width ≡ coordinates
  pub size : length system.rows.items ≡ system.rows.rows * system.rows.width
  pub rows : rows_in system.rows ≡ map (λ (inequality : Inequality). inequality.factors) inequalities
  pub limits : system.limits ≡ map (λ (inequality : Inequality). inequality.limit) inequalities

-- ---- the range

-- the limit of a cut is formed in range
abbrev pub LimitFits : ReducedRows → ℤ → NodeSide → Type 0
LimitFits rows value Cut = FitsSigned w128 (value -ℤ pos 1) × FitsSigned w128 ((value -ℤ pos 1) -ℤ rows.cost_constant)
LimitFits rows value _ = ⊤

-- The numbers of an inequality in the coordinates stay in range: each product, and each sum of products in index order, and no
-- entry is -2^127.
pub record SideStays (to_work : AffineMap) (inequality : Inequality) : Type 0 where
  pub products : PullBackStays to_work inequality.factors
  pub factors : All IsNarrow (pulled_form to_work inequality.factors)
  pub limit : IsNarrow (inequality.limit -ℤ pulled_constant to_work inequality.factors)

-- so do those of the system
abbrev pub SystemStays : Substitution → ReducedRows → Option ℤ → Type 0
SystemStays frame rows cut = All (λ (side : NodeSide). LimitFits rows (cut_of cut) side × SideStays frame.to_work (inequality_of rows (cut_of cut) side)) (node_sides rows (is_some cut))
