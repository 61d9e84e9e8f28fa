use Rattle.std.proofs.Common.{◌≡◌, ◌+ℤ◌, ℤ, List, length, subst}
use Rattle.exact_math.specs.Ring.{integers}
use Rattle.exact_vectors.specs.Vectors.{dot}
use Rattle.spaces.specs.Maps.{AffineMap, image, pulled_form, pulled_constant}
use Rattle.spaces.specs.MapLaws.{pulled_value}
use Rattle.spaces.specs.TableLaws as Tables
use Rattle.spaces.proofs.affine.Affine.pull_back.Goals as goal

pub returns-clause-same : goal.returns-clause-same
returns-clause-same g c =
    let map : AffineMap = record { base = c.self.inside.base; lines = c.self.inside.lines } in
    subst (λ (m : AffineMap). (v : List ℤ) → length v ≡ m.lines.width → dot integers c.args.form.now (image m v) ≡ dot integers (pulled_form m c.args.form.now) v +ℤ pulled_constant m c.args.form.now)
    c.self.view_is
    (λ v e. pulled_value map c.args.form.now v c.self.invariant (Tables.HasWidth-rows_in map.lines c.width.ensures.size))
