use Rattle.std.proofs.Common.{◌≡◌, ◌+◌, ◌*◌, length, sym, ap, ap₂, ◌∙◌}
use Rattle.norm_gauge.specs.PairTableLaws.{pairs_size, pairs_polytope, first_rows-wide, left_sides-wide}
use Rattle.norm_gauge.proofs.pairs.system_of_pairs.Goals as goal

pub copy_from_slice-requires : goal.copy_from_slice-requires
copy_from_slice-requires c =
    let t = c.args.system.now.rows in
    let basis = c.args.basis.now in
    let size = pairs_size t basis c.args.i c.rows-count.ensures.size c.width-width.ensures.size c.requires.same_width c.requires.within in
    let width : c.width-width.result ≡ t.width = c.width-width.ensures.count ∙ c.requires.same_width in
    let rows : c.in_ok-rows.rows.rows ≡ (t.rows + t.rows) + (c.args.i + c.args.i) = ap (λ r. r.rows) c.in_ok-rows.ensures ∙ ap (λ m. (m + m) + (c.args.i + c.args.i)) c.rows-count.ensures.count in
    let columns : c.in_ok-rows.rows.width ≡ t.width + t.width = ap (λ r. r.width) c.in_ok-rows.ensures ∙ ap (λ n. n + n) width in
    c.items_mut.ensures.size ∙ ap₂ (λ a b. a * b) rows columns ∙ sym size ∙ sym (ap length (c.as_slice.ensures.value ∙ c.in_ok-items.ensures))

pub returns-clause-wide_rows : goal.returns-clause-wide_rows
returns-clause-wide_rows c = left_sides-wide c.args.system.now.rows c.args.basis.now c.args.i c.rows-count.ensures.size c.width-width.ensures.size c.requires.same_width c.requires.within

pub returns-clause-wide_basis : goal.returns-clause-wide_basis
returns-clause-wide_basis c = first_rows-wide c.args.system.now.rows c.args.basis.now c.args.i c.rows-count.ensures.size c.width-width.ensures.size c.requires.same_width c.requires.within

pub returns-clause-polytope : goal.returns-clause-polytope
returns-clause-polytope c = pairs_polytope c.args.system.now.rows c.args.basis.now c.args.i c.rows-count.ensures.size c.width-width.ensures.size c.requires.same_width c.requires.within c.args.system.now.limits
