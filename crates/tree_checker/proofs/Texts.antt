-- A text is accepted where its lines pass to the end, and nowhere else. Then its claim is true.
use Rattle.std.proofs.Common.{◌≡◌, ℕ, ◌*◌, ◌^◌, ◌<◌, ◌≤◌, List, [], ◌∷◌, ◌++◌, length, refl, ap, ◌∙◌, subst, arith, Global, inl, inr}
use Rattle.std.specs.Prelude.{codes}
use Rattle.std.proofs.lemmas.List.{length-append}
use Rattle.std.proofs.lemmas.List.Elements.{All-head, All-tail, All-nil, All-cons}
use Rattle.whole_rows.specs.WholeRows.{WholeRows, IsWithinLimits}
use Rattle.proof_tree.specs.declared.tree.Tree.{Tree}
use Rattle.proof_tree.specs.Soundness.{best_is_shown, none_is_shown}
use Rattle.proof_text.specs.declared.claim.Claim.{Claim}
use Rattle.proof_text.specs.declared.claim.Claim.TheVariants as claims
use Rattle.proof_text.specs.Spelling.{in_lines, claim_line, head_lines, tree_lines}
use Rattle.tree_checker.specs.Accepts.{longest, last_of, IsTrueOf, HasShortLines, Accepts}
use Rattle.tree_checker.specs.Stages.{Stage, at_head, at_claim, at_node, at_below, at_above, at_done, at_end}
use Rattle.tree_checker.specs.Passes.{PassesTo, PassTo, PassesWhole}
use Rattle.tree_checker.specs.Written.{tree_printable, claim_printable}
use Rattle.tree_checker.proofs.Completes.{Completes, completes}
use Rattle.tree_checker.proofs.Walks.{All-left, All-right, tree_passes}

-- ---- lines that pass are short, and not empty

pub pass_short : (rows : WholeRows) (stage to : Stage) (lines : List (List ℕ)) → PassTo rows stage lines to → HasShortLines lines
pass_short rows stage to [] p = All-nil (λ (l : List ℕ). length l ≤ longest)
pass_short rows stage to (line ∷ lines) p = All-cons (λ (l : List ℕ). length l ≤ longest) line lines p.0 (pass_short rows p.1 to lines p.3)

claim_some : (claim : Claim) → 1 ≤ length (claim_line claim)
claim_some claims.Infeasible = omega arith
claim_some (claims.Optimal x) = omega arith
claim_some claims.Open = omega arith

line_some : (rows : WholeRows) (stage next : Stage) (line : List ℕ) → PassesTo rows stage line next → 1 ≤ length line
line_some rows at_head next line p = omega (arith, ap length p.0)
line_some rows at_claim next line p = omega (arith, ap length p.1, claim_some p.0)
line_some rows (at_node claimed splits) next line (inl p) = omega (arith, ap length p.0.1)
line_some rows (at_node claimed splits) next line (inr p) = omega (arith, ap length p.1)
line_some rows (at_below claimed splits opening) next line p = omega (arith, ap length p.0.1)
line_some rows (at_above claimed splits opening) next line p = omega (arith, ap length p.0.1)
line_some rows (at_done claimed) next line p = omega (arith, ap length p.0)
line_some rows (at_end claimed) next line p = absurd p

-- so each takes two bytes of the text or more
pub pass_few : (rows : WholeRows) (stage to : Stage) (lines : List (List ℕ)) → PassTo rows stage lines to → 2 * length lines ≤ length (in_lines lines)
pass_few rows stage to [] p = omega arith
pass_few rows stage to (line ∷ lines) p = omega (arith, pass_few rows p.1 to lines p.3, line_some rows stage p.1 line p.2, length-append (line ++ 10 ∷ []) (in_lines lines), length-append line (10 ∷ []))

-- ---- the law

module _ (rows : WholeRows) (text : List ℕ) (claim : Claim) where
  -- the lines of an accepted text pass
  pub accepted_passes : Accepts rows text claim → PassesWhole rows text claim
  accepted_passes accepts =
      let lines : List (List ℕ) = head_lines claim ++ (tree_lines accepts.tree ++ codes "DONE" ∷ []) in
      let P : List ℕ → Type 0 = λ l. length l ≤ longest in
      let last : PassTo rows (at_done claim) (codes "DONE" ∷ []) (at_end claim) = (omega arith, at_end claim, (refl, refl), refl) in
      let nodes : PassTo rows (at_node claim []) (tree_lines accepts.tree ++ codes "DONE" ∷ []) (at_end claim) = tree_passes rows claim (at_end claim) [] accepts.tree (codes "DONE" ∷ []) accepts.holds accepts.short last in
      let claimed : PassTo rows at_claim (claim_line claim ∷ (tree_lines accepts.tree ++ codes "DONE" ∷ [])) (at_end claim) =
      (All-head P (claim_line claim) [] (All-tail P (codes "SLICER 1") (claim_line claim ∷ []) accepts.short_head), at_node claim [], (claim, refl, accepts.point, refl), nodes) in
      (lines, accepts.spells.bytes, (All-head P (codes "SLICER 1") (claim_line claim ∷ []) accepts.short_head, at_claim, (refl, refl), claimed))

  -- and a text whose lines pass is accepted
  pub passes_accepted : (heap : Global) → IsWithinLimits rows → length text < 2 ^ 64 → PassesWhole rows text claim → Accepts rows text claim
  passes_accepted heap limits fits passes =
      let P : List ℕ → Type 0 = λ l. length l ≤ longest in
      let lines : List (List ℕ) = passes.0 in
      let few : length lines < 2 ^ 63 = omega (arith, fits, ap length passes.1, pass_few rows at_head (at_end claim) lines passes.2) in
      let at : Completes rows claim at_head lines = completes rows claim heap at_head lines few tt passes.2 in
      let tree : Tree = at.0 in
      let whole : lines ≡ head_lines claim ++ (tree_lines tree ++ codes "DONE" ∷ []) = at.1 in
      let short : HasShortLines (head_lines claim ++ (tree_lines tree ++ codes "DONE" ∷ [])) = subst HasShortLines whole (pass_short rows at_head (at_end claim) lines passes.2) in
      record {
        tree = tree;
        spells = record { bytes = passes.1 ∙ ap in_lines whole; claimed = claim_printable rows claim limits at.2; printable = tree_printable rows (last_of rows claim) [] tree at.3 };
        short = All-left P (tree_lines tree) (codes "DONE" ∷ []) (All-right P (head_lines claim) (tree_lines tree ++ codes "DONE" ∷ []) short);
        short_head = All-left P (head_lines claim) (tree_lines tree ++ codes "DONE" ∷ []) short;
        point = at.2;
        holds = at.3;
      }

-- what an accepted text claims is true
pub accepted_true : (rows : WholeRows) (text : List ℕ) (claim : Claim) → IsWithinLimits rows → Accepts rows text claim → IsTrueOf rows claim
accepted_true rows text claims.Infeasible limits accepts = λ x meets. none_is_shown rows x accepts.tree limits accepts.holds meets
accepted_true rows text (claims.Optimal x) limits accepts = best_is_shown rows x accepts.tree limits accepts.point accepts.holds
accepted_true rows text claims.Open limits accepts = absurd accepts.point
