use Rattle.std.proofs.Common.{◌≡◌, ◌+◌, ◌*◌, ◌/◌, [], true, length, replicate, ◌++◌, ◌∷◌, sym, ◌∙◌, refl, arith, eqb-true, eq-eqb}
use Rattle.std.specs.Prelude.{None, is_some}
use Rattle.farkas_rows.specs.Inequalities.{inequality_at}
use Rattle.proof_text.specs.Reads.{some_path, some_end}
use Rattle.proof_text.proofs.PathLengths.{some_there, row_side_there, middle_there, last_there, end_there}
use Rattle.proof_text.proofs.sides.has_side.Goals as goal

pub returns-then-place-rows : goal.returns-then-place-rows
returns-then-place-rows c =
    let rows = c.args.rows.now in
    let e : is_some (inequality_at rows (some_path c.args.depth) (some_end c.args.has_end) c.args.number) ≡ c.has_row_side.result =
    some_there rows c.args.depth c.args.has_end c.args.number
    ∙ row_side_there rows.rows (replicate (2 * (length rows.box + c.args.depth)) true ++ c.args.has_end ∷ []) c.args.number (c.args.number / 2) (record { factors = []; low = None; high = None }) refl (omega (arith, c.rows.ensures.count))
    ∙ sym c.has_row_side.ensures in
    (λ t. e ∙ t, λ s. sym e ∙ s)

pub returns-then-number-last : goal.returns-then-number-last
returns-then-number-last c = (
  λ t. some_there c.args.rows.now c.args.depth c.args.has_end c.args.number ∙ middle_there c.args.rows.now c.args.depth c.args.has_end c.args.number (omega (arith, c.rows.ensures.count)) (omega (arith, c.rows-2.ensures.count, c.columns.ensures.count)),
  λ s. refl,
)

pub returns-then-has_end : goal.returns-then-has_end
returns-then-has_end c =
    let rows = c.args.rows.now in
    let place : 2 * (c.rows-2.result + c.columns.result + c.args.depth) ≡ 2 * (length rows.rows + length rows.box + c.args.depth) = omega (arith, c.rows-2.ensures.count, c.columns.ensures.count) in (
      λ t. some_there rows c.args.depth c.args.has_end c.args.number ∙ last_there rows c.args.depth c.args.has_end c.args.number (eqb-true _ _ t ∙ place) ∙ c.if-has_end.true,
      λ s. eq-eqb _ _ ((end_there rows c.args.depth c.args.has_end c.args.number (omega arith) (sym (some_there rows c.args.depth c.args.has_end c.args.number) ∙ s)).0 ∙ sym place),
    )

pub returns-else-has_end : goal.returns-else-has_end
returns-else-has_end c =
    let rows = c.args.rows.now in
    let place : 2 * (c.rows-2.result + c.columns.result + c.args.depth) ≡ 2 * (length rows.rows + length rows.box + c.args.depth) = omega (arith, c.rows-2.ensures.count, c.columns.ensures.count) in (
      λ t. absurd cc,
      λ s. (end_there rows c.args.depth c.args.has_end c.args.number (omega arith) (sym (some_there rows c.args.depth c.args.has_end c.args.number) ∙ s)).1,
    )
