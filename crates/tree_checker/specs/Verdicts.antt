-- What the checker is to say of a text.
use Rattle.std.specs.Prelude.{ℕ, List}
use Rattle.whole_rows.specs.WholeRows.{WholeRows}
use Rattle.tree_checker.specs.declared.verdict.Verdict.{Verdict}
use Rattle.tree_checker.specs.declared.verdict.Verdict.TheVariants as verdicts
use Rattle.tree_checker.specs.Accepts.{Accepts}
use Rattle.tree_checker.specs.Rejects.{RejectsAt}

-- the text is accepted with its claim, or its first fault is this one
abbrev pub IsVerdict : WholeRows → List ℕ → Verdict → Type 0
IsVerdict rows text (verdicts.Accepted claim) = Accepts rows text claim
IsVerdict rows text (verdicts.Rejected reject) = RejectsAt rows text reject
