-- How far the lines of a text have passed.
use Rattle.std.proofs.Common.{◌≡◌, ℕ, ◌+◌, ◌≤◌, ◌<◌, List, [], ◌∷◌, ◌++◌, length, get_or, take, drop, refl, sym, ap, subst, ◌∙◌, arith, append-nil, append_assoc, take-append-drop, inl, inr, ⊎_elim}
use Rattle.std.specs.Prelude.{◌⊎◌}
use Rattle.std.proofs.lemmas.List.{length-append, length_push, drop_more, take_all}
use Rattle.std.proofs.lemmas.Bool.{cases_lt}
use Rattle.whole_rows.specs.WholeRows.{WholeRows}
use Rattle.proof_text.specs.Spelling.{in_lines}
use Rattle.tree_checker.specs.Accepts.{longest}
use Rattle.tree_checker.specs.Stages.{Stage, at_head}
use Rattle.tree_checker.specs.Passes.{PassesTo, PassTo}

-- lines of the text have passed, and the next one has this number
pub record IsReached (rows : WholeRows) (text rest : List ℕ) (stage : Stage) (number : ℕ) : Type 0 where
  pub lines : List (List ℕ)
  pub whole : text ≡ in_lines lines ++ rest
  pub passed : PassTo rows at_head lines stage
  pub counted : number ≡ length lines + 1
  pub few : number + length rest ≤ length text + 1

pub begins : (rows : WholeRows) (text : List ℕ) (stage : Stage) → stage ≡ at_head → IsReached rows text text stage 1
begins rows text stage e = record { lines = []; whole = refl; passed = sym e; counted = refl; few = omega arith }

in_lines-push : (lines : List (List ℕ)) (line : List ℕ) → in_lines (lines ++ line ∷ []) ≡ in_lines lines ++ (line ++ 10 ∷ [])
in_lines-push [] line = append-nil (line ++ 10 ∷ [])
in_lines-push (first ∷ lines) line = ap (λ rest. (first ++ 10 ∷ []) ++ rest) (in_lines-push lines line) ∙ sym (append_assoc (first ++ 10 ∷ []) (in_lines lines) (line ++ 10 ∷ []))

module _ (rows : WholeRows) where
  pass-push : (from stage next : Stage) (lines : List (List ℕ)) (line : List ℕ) → PassTo rows from lines stage → length line ≤ longest → PassesTo rows stage line next → PassTo rows from (lines ++ line ∷ []) next
  pass-push from stage next [] line passed short passes = (short, next, subst (λ s. PassesTo rows s line next) (sym passed) passes, refl)
  pass-push from stage next (first ∷ lines) line passed short passes = (passed.0, passed.1, passed.2, pass-push passed.1 stage next lines line passed.3 short passes)

  module _ (text rest : List ℕ) (stage : Stage) (number : ℕ) (reached : IsReached rows text rest stage number) where
    -- one line more has passed
    pub goes_on : (line more : List ℕ) (next : Stage) → rest ≡ line ++ 10 ∷ more → length line ≤ longest → PassesTo rows stage line next → IsReached rows text more next (number + 1)
    goes_on line more next e short passes = record {
      lines = reached.lines ++ line ∷ [];
      whole =
          reached.whole
          ∙ ap (λ bytes. in_lines reached.lines ++ bytes) (e ∙ sym (append_assoc line (10 ∷ []) more))
          ∙ sym (append_assoc (in_lines reached.lines) (line ++ 10 ∷ []) more)
          ∙ ap (λ bytes. bytes ++ more) (sym (in_lines-push reached.lines line));
      passed = pass-push at_head stage next reached.lines line reached.passed short passes;
      counted = omega (arith, reached.counted, length_push reached.lines line);
      few = omega (arith, reached.few, ap length e, length-append line (10 ∷ more));
    }

-- ---- the first line of a text

-- a line feed stands between a line and what is behind it
pub cut_at : (text : List ℕ) (end : ℕ) → end < length text → get_or text end 0 ≡ 10 → text ≡ take end text ++ 10 ∷ drop (end + 1) text
cut_at text end within feed = sym (take-append-drop end text) ∙ ap (λ rest. take end text ++ rest) (drop_more text end 0 within ∙ ap (λ byte. byte ∷ drop (end + 1) text) feed)

pub front_of : (text : List ℕ) (end : ℕ) → end ≤ length text → (end < length text → get_or text end 0 ≡ 10)
    → (more : List ℕ) × (text ≡ take end text ++ more) × ((more ≡ []) ⊎ ((next : List ℕ) × (more ≡ 10 ∷ next)))
front_of text end within feed = ⊎_elim
    (λ (some : end < length text). (10 ∷ drop (end + 1) text, cut_at text end some (feed some), inr (drop (end + 1) text, refl)))
    (λ (all : length text ≤ end). ([], sym (append-nil (take end text) ∙ take_all end text all), inl refl))
    (cases_lt end (length text))
