-- Why there is no line of an end.
use Rattle.std.proofs.Common.{◌≡◌, refl, Result, Ok, Err}
use Rattle.std.specs.Prelude.{IfErr, IsErrOf}
use Rattle.farkas_rows.specs.declared.line.Line.{Line}
use Rattle.node_lines.specs.declared.halt.LineHalt.{LineHalt}
use Rattle.node_lines.specs.declared.halt.LineHalt.TheVariants.{Wide, Heavy, NoMemory}

-- neither of the other errors can come
pub only-memory : (found : Result Line LineHalt) → (IsErrOf found Wide → ⊥) → (IsErrOf found Heavy → ⊥) → IfErr found (λ halt. halt ≡ NoMemory)
only-memory (Ok line) wide heavy = tt
only-memory (Err Wide) wide heavy = absurd (wide refl)
only-memory (Err Heavy) wide heavy = absurd (heavy refl)
only-memory (Err NoMemory) wide heavy = refl
