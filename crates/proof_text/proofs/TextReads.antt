-- What is read of a text is what it spells.
use Rattle.std.proofs.Common.{◌≡◌, ℕ, ◌+◌, ◌^◌, ◌≤◌, List, [], ◌∷◌, ◌++◌, length, codes, refl, sym, ap, ◌∙◌, append_assoc, arith}
use Rattle.std.proofs.lemmas.List.Splits.{length-slice_split}
use Rattle.std.proofs.lemmas.List.Sums.{count_by-le-length}
use Rattle.whole_rows.specs.WholeRows.{WholeRows, IsWithinLimits}
use Rattle.proof_tree.specs.declared.tree.Tree.{Tree}
use Rattle.proof_text.specs.declared.claim.Claim.{Claim}
use Rattle.proof_text.specs.Spelling.{claim_line, head_lines, tree_lines}
use Rattle.proof_text.specs.Printable.{Spells}
use Rattle.proof_text.specs.Lines.{is_line_feed, parts_of, parts_of-lines, in_lines-parts}
use Rattle.proof_text.specs.PrintedLines.{proof_text-lines}
use Rattle.proof_text.specs.OneReading.{same_tree}
use Rattle.proof_text.specs.Reads.{SpellsTree, SpellsHead}
use Rattle.proof_text.proofs.HeadReads.{printable_sized, sized_printable}

-- a text has at most a part more than bytes
pub few_parts : (text : List ℕ) → length (parts_of text) ≤ length text + 1
few_parts text = omega (arith, length-slice_split is_line_feed text, count_by-le-length is_line_feed text)

-- what stands behind the last node
abbrev pub last_parts : List (List ℕ)
last_parts = codes "DONE" ∷ [] ∷ []

module _ (rows : WholeRows) (text : List ℕ) where
  -- the parts of a text that spells a claim and a tree
  pub spelled_parts : (claim : Claim) (t : Tree) → Spells rows text claim t → parts_of text ≡ head_lines claim ++ (tree_lines t ++ last_parts)
  spelled_parts claim t s =
      ap parts_of s.bytes
      ∙ parts_of-lines (head_lines claim ++ (tree_lines t ++ codes "DONE" ∷ [])) (proof_text-lines claim t)
      ∙ ap (λ l. codes "SLICER 1" ∷ claim_line claim ∷ l) (append_assoc (tree_lines t) (codes "DONE" ∷ []) ([] ∷ []))

  -- they begin with a head
  pub head_of : (claim : Claim) (t : Tree) → Spells rows text claim t → SpellsHead (length rows.box) (parts_of text) (tree_lines t ++ last_parts) claim
  head_of claim t s = record { spelled = spelled_parts claim t s; sized = printable_sized rows claim s.claimed }

  module _ (head : Claim) (rest : List (List ℕ)) (read : SpellsHead (length rows.box) (parts_of text) rest head) where
    -- behind the head stands the tree
    pub tree_of : (claim : Claim) (t : Tree) → Spells rows text claim t → SpellsTree rows 0 rest last_parts t
    tree_of claim t s =
        let both : codes "SLICER 1" ∷ claim_line head ∷ rest ≡ codes "SLICER 1" ∷ claim_line claim ∷ (tree_lines t ++ last_parts) = sym read.spelled ∙ spelled_parts claim t s in
        record { spelled = cc (both); printable = s.printable }

    pub few_rest : length text ≤ 2 ^ 32 → length rest ≤ 2 ^ 32 + 1
    few_rest short = omega (arith, short, few_parts text, ap length read.spelled)

    -- behind the tree stands the end
    pub end_of : IsWithinLimits rows → length text ≤ 2 ^ 32 → (found : Tree) (behind : List (List ℕ)) → SpellsTree rows 0 rest behind found → (claim : Claim) (t : Tree) → Spells rows text claim t → behind ≡ last_parts
    end_of limits short found behind f claim t s =
        let of = tree_of claim t s in
        (same_tree rows limits [] [] found t behind last_parts (omega (arith, few_rest short, ap length f.spelled)) refl f.printable of.printable (sym f.spelled ∙ of.spelled)).1

    -- so a head, a tree and the end make a text that spells them
    pub whole_read : (found : Tree) (behind : List (List ℕ)) → SpellsTree rows 0 rest behind found → behind ≡ last_parts → Spells rows text head found
    whole_read found behind f e = record {
      bytes = in_lines-parts text (head_lines head ++ (tree_lines found ++ codes "DONE" ∷ []))
          (read.spelled ∙ ap (λ l. codes "SLICER 1" ∷ claim_line head ∷ l) (f.spelled ∙ ap (λ l. tree_lines found ++ l) e ∙ sym (append_assoc (tree_lines found) (codes "DONE" ∷ []) ([] ∷ []))));
      claimed = sized_printable rows head read.sized;
      printable = f.printable;
    }
