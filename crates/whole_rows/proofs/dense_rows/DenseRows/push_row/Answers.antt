use Rattle.std.proofs.Common.{◌≡◌, ◌++◌, ◌∷◌, [], ◌<◌, ◌∙◌, ap, ap₂, subst₂, sym, length, arith}
use Rattle.whole_rows.specs.WholeRows.{WholeRows, with_row}
use Rattle.whole_rows.specs.FlatRows.{rows_of, whole_rows, IsFlat}
use Rattle.whole_rows.proofs.FlatLemmas.{whole_rows-push, IsFlat-push}
use Rattle.whole_rows.proofs.dense_rows.DenseRows.push_row.Goals as goal
use Rattle.whole_rows.proofs.dense_rows.DenseRows.push_row.Goals.{After-unwrap}

-- the sides were put at the end
sides : (c : After-unwrap) → c.push.new.self.items ≡ c.self.inside.sides.items ++ record { low = c.args.low; high = c.args.high; weight = c.in-Some.weight } ∷ []
sides c =
    (rw c.unwrap.ensures at c.push.ensures.items) ∙ ap (λ sides. sides ++ record { low = c.args.low; high = c.args.high; weight = c.in-Some.weight } ∷ []) c.try_reserve.ensures.items

-- and the factors
factors : (c : After-unwrap) → c.extend_from_slice.new.self.items ≡ c.self.inside.factors.items ++ c.args.factors.now
factors c = c.in_ok-extend_from_slice.ensures.items

-- each column has a factor
long : (c : After-unwrap) → length c.args.factors.now ≡ length c.self.inside.bounds.items
long c = c.requires.dense ∙ ap (λ (rows : WholeRows). length rows.box) (sym c.self.view_is)

pub invariant_of-self-2 : goal.invariant_of-self-2
invariant_of-self-2 c =
    let at = (goal.at.invariant_of-self-2 c).After-unwrap in
    let room : length (rows_of (length c.self.inside.bounds.items) c.self.inside.factors.items c.self.inside.sides.items) < 256 = omega (arith, c.requires.room, ap (λ (rows : WholeRows). length rows.rows) c.self.view_is) in
    let weighed = rw c.deref.ensures.value at c.in-Some.ensures in
    subst₂ (λ factors sides. IsFlat c.self.inside.bounds.items factors sides c.self.inside.cost.items) (sym (factors at)) (sym (sides at)) (IsFlat-push c.self.inside.bounds.items c.self.inside.factors.items c.args.factors.now c.self.inside.sides.items _ c.self.inside.cost.items c.self.invariant (long at) room weighed.1 (omega (arith, weighed.0, weighed.1)))

pub returns-clause-ok : goal.returns-clause-ok
returns-clause-ok c =
    let at = (goal.at.returns-clause-ok c).After-unwrap in
    let pushed = whole_rows-push c.self.inside.bounds.items c.self.inside.factors.items c.args.factors.now c.self.inside.sides.items (record { low = c.args.low; high = c.args.high; weight = c.in-Some.weight }) c.self.inside.cost.items c.self.invariant.filled (long at) in
    ap₂ (λ factors sides. whole_rows c.self.inside.bounds.items factors sides c.self.inside.cost.items) (factors at) (sides at) ∙ pushed ∙ ap (λ rows. with_row rows (record { factors = c.args.factors.now; low = c.args.low; high = c.args.high })) c.self.view_is
