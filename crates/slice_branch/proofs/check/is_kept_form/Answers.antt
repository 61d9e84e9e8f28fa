use Rattle.std.proofs.Common.{arith}
use Rattle.std.proofs.lemmas.Bool.{false≢true}
use Rattle.std.proofs.lemmas.Slice.Zip.{AllZip-long}
use Rattle.slice_branch.proofs.check.is_kept_form.Goals as goal

pub returns-then-bounds-form : goal.returns-then-bounds-form
returns-then-bounds-form c = (λ h. absurd (false≢true h), λ h. absurd (omega (arith, c.if-bounds-form.true, AllZip-long _ _ _ h)))
