use Rattle.std.proofs.Common.{arith}
use Rattle.std.proofs.lemmas.Bool.{false≢true}
use Rattle.std.proofs.lemmas.Slice.Zip.{AllZip-long}
use Rattle.node_point.proofs.parts.is_in_box.Goals as goal

pub returns-then-bounds-numerators : goal.returns-then-bounds-numerators
returns-then-bounds-numerators c = (λ h. absurd (false≢true h), λ h. absurd (omega (arith, c.if-bounds-numerators.true, AllZip-long _ _ _ h)))
