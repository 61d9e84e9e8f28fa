-- What a search found, as what the model comes to.
use Rattle.std.proofs.Common.{◌≡◌, ℕ, ◌+◌, ◌*◌, ◌^◌, ◌<◌, ◌≤◌, arith, ℤ, Bool, List, length, refl, ap, subst, ◌∙◌}
use Rattle.std.specs.Prelude.{Option, Some, None, codes}
use Rattle.std.proofs.lemmas.List.{length-map}
use Rattle.exact_math.specs.Rational.{ℚ}
use Rattle.whole_rows.specs.WholeRows.{IsWithinLimits}
use Rattle.proof_tree.specs.declared.tree.Tree.{Tree}
use Rattle.proof_tree.specs.declared.tree.PartTree.{PartTree}
use Rattle.proof_tree.specs.Counts.{records, plain_splits, plain_splits_of_part, records_of_part}
use Rattle.proof_tree.specs.Moves.{widest}
use Rattle.proof_tree.specs.Found.{IsDone, IsSpent}
use Rattle.slice_branch.specs.Framed.{IsAllowed}
use Rattle.int_model.specs.declared.model.Column.{Column}
use Rattle.int_model.specs.declared.model.Model.{Model}
use Rattle.int_model.specs.IntegerRows.{rounded_bounds}
use Rattle.int_model.specs.Points.{value_at}
use Rattle.proof_text.specs.declared.claim.Claim.TheVariants as claims
use Rattle.proof_text.specs.Spelling.{proof_text, part_text}
use Rattle.tree_checker.specs.Written.{written_accepted}
use Rattle.tree_checker.specs.TextSizes.{proof_bytes}
use Rattle.solve_cli.specs.Report.{bare_lines, found_lines}
use Rattle.solve_cli.specs.Outputs.{with_proof}
use Rattle.solve_cli.specs.Verdict.{rows_of, enough_nodes, FindsBest, FindsNone, SpendsBudget}
use Rattle.solve_cli.specs.Solving.{HasRows}

module _ (plain : Bool) (nodes : ℕ) (model : Model) (has : HasRows model) where
  abbrev pub IsTree : Tree → Option (List ℤ) → Type 0
  IsTree = IsDone (IsAllowed (rows_of model)) (rows_of model) plain nodes

  abbrev pub IsPart : PartTree → Option (List ℤ) → Type 0
  IsPart = IsSpent (IsAllowed (rows_of model)) (rows_of model) plain nodes

  -- the lines of a point, by equal counts and values
  found_same : (columns : List Column) (head : List ℕ) (value other : ℚ) (x : List ℤ) (a b c d : ℕ) → value ≡ other → a ≡ b → c ≡ d → found_lines head value columns x a c ≡ found_lines head other columns x b d
  found_same columns head value other x a b c d e f g = rw (e, f, g) refl

  bare_same : (head : List ℕ) (a b c d : ℕ) → a ≡ b → c ≡ d → bare_lines head a c ≡ bare_lines head b d
  bare_same head a b c d f g = rw (f, g) refl

  few_nodes : nodes < (widest (rows_of model).box + 2) ^ (2 * length (rows_of model).box) → nodes < enough_nodes model
  few_nodes few = subst (λ n. nodes < (widest (rows_of model).box + 2) ^ (2 * n)) (length-map model.columns rounded_bounds) few

  few_records : (count : ℕ) → count ≤ (widest (rows_of model).box + 2) ^ (2 * length (rows_of model).box) → count ≤ enough_nodes model
  few_records count few = subst (λ n. count ≤ (widest (rows_of model).box + 2) ^ (2 * n)) (length-map model.columns rounded_bounds) few

  pub finds_best : (columns : List Column) → IsWithinLimits (rows_of model) → nodes ≤ 1000 → (tree : Tree) (point : List ℤ) (value : ℚ) (a b : ℕ) → IsTree tree (Some point)
      → value ≡ value_at model point → a ≡ records tree → b ≡ plain_splits tree → FindsBest columns nodes model (with_proof (found_lines (codes "OPTIMAL") value columns point a b) (proof_text (claims.Optimal point) tree))
  finds_best columns limits few tree point value a b done is_value is_a is_b = record {
    small = has.small;
    point = point;
    best = (has.best point).1 done.least;
    tree = tree;
    shown = done.holds;
    marked = (plain, done.follows);
    within = done.counted;
    few = few_records (records tree) done.few;
    report = ap (λ lines. with_proof lines (proof_text (claims.Optimal point) tree)) (found_same columns (codes "OPTIMAL") value (value_at model point) point a (records tree) b (plain_splits tree) is_value is_a is_b);
    accepted = written_accepted (rows_of model) (claims.Optimal point) tree limits done.known done.holds;
    short = omega (arith, few, done.counted, proof_bytes (rows_of model) (claims.Optimal point) tree limits done.known done.holds);
  }

  pub finds_none : (columns : List Column) → IsWithinLimits (rows_of model) → nodes ≤ 1000 → (tree : Tree) (a b : ℕ) → IsTree tree None → a ≡ records tree → b ≡ plain_splits tree → FindsNone nodes model (with_proof (bare_lines (codes "INFEASIBLE") a b) (proof_text claims.Infeasible tree))
  finds_none columns limits few tree a b done is_a is_b = record {
    small = has.small;
    none = λ x point. done.least x ((has.points x).0 point);
    tree = tree;
    shown = done.holds;
    marked = (plain, done.follows);
    within = done.counted;
    few = few_records (records tree) done.few;
    report = ap (λ lines. with_proof lines (proof_text claims.Infeasible tree)) (bare_same (codes "INFEASIBLE") a (records tree) b (plain_splits tree) is_a is_b);
    accepted = written_accepted (rows_of model) claims.Infeasible tree limits tt done.holds;
    short = omega (arith, few, done.counted, proof_bytes (rows_of model) claims.Infeasible tree limits tt done.holds);
  }

  pub spends_with : (columns : List Column) (part : PartTree) (point : List ℤ) (value : ℚ) (a b : ℕ) → IsPart part (Some point) → value ≡ value_at model point → a ≡ records_of_part part → b ≡ plain_splits_of_part part
      → SpendsBudget columns nodes model (with_proof (found_lines (codes "SPENT") value columns point a b) (part_text part))
  spends_with columns part point value a b spent is_value is_a is_b = record {
    small = has.small;
    best = Some point;
    known = (has.points point).1 spent.known;
    part = part;
    shown = spent.holds;
    marked = (plain, spent.follows);
    counted = spent.counted;
    unfinished = spent.unfinished;
    few = few_nodes spent.few;
    report = ap (λ lines. with_proof lines (part_text part)) (found_same columns (codes "SPENT") value (value_at model point) point a nodes b (plain_splits_of_part part) is_value (is_a ∙ spent.counted) is_b);
  }

  pub spends_without : (columns : List Column) (part : PartTree) (a b : ℕ) → IsPart part None → a ≡ records_of_part part → b ≡ plain_splits_of_part part → SpendsBudget columns nodes model (with_proof (bare_lines (codes "SPENT") a b) (part_text part))
  spends_without columns part a b spent is_a is_b = record {
    small = has.small;
    best = None;
    known = tt;
    part = part;
    shown = spent.holds;
    marked = (plain, spent.follows);
    counted = spent.counted;
    unfinished = spent.unfinished;
    few = few_nodes spent.few;
    report = ap (λ lines. with_proof lines (part_text part)) (bare_same (codes "SPENT") a nodes b (plain_splits_of_part part) (is_a ∙ spent.counted) is_b);
  }
