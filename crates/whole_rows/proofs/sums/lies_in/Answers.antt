use Rattle.std.proofs.Common.{arith}
use Rattle.std.proofs.lemmas.Bool.{false≢true}
use Rattle.std.proofs.lemmas.Slice.Zip.{AllZip-long}
use Rattle.whole_rows.proofs.sums.lies_in.Goals as goal

pub returns-then-bounds-x : goal.returns-then-bounds-x
returns-then-bounds-x c = (λ h. absurd (false≢true h), λ h. absurd (omega (arith, c.if-bounds-x.true, AllZip-long _ _ _ h)))
