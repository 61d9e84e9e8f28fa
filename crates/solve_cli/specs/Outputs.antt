-- What a run writes.
use Rattle.std.specs.Prelude.{ℕ, List, []}
use Rattle.proof_text.specs.Spelling.{proof_text, part_text}
use Rattle.solve_cli.specs.declared.proof.Proof.{Proof}
use Rattle.solve_cli.specs.declared.proof.Proof.TheVariants.{Nothing, Whole, Part}

-- the lines of the report, the bytes that are put into MODEL where the model is made, and those that are put into PROOF
pub record Output : Type 0 where
  pub lines : List (List ℕ)
  pub made : List ℕ
  pub proof : List ℕ

-- a report, and nothing into MODEL and PROOF
abbrev pub only : List (List ℕ) → Output
only lines = record { lines = lines; made = []; proof = [] }

-- a report, and a text into PROOF
abbrev pub with_proof : List (List ℕ) → List ℕ → Output
with_proof lines text = record { lines = lines; made = []; proof = text }

-- the text of a proof; no byte where nothing is shown
abbrev pub text_of : Proof → List ℕ
text_of Nothing = []
text_of (Whole claim tree) = proof_text claim tree
text_of (Part part) = part_text part
