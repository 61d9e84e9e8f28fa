use Rattle.std.proofs.Common.{◌^◌, sym, subst, arith}
use Rattle.std.specs.Int.{w128}
use Rattle.std.proofs.lemmas.Int.{to_z-of_z}
use Rattle.farkas_rows.specs.declared.path.Slice.{Slice}
use Rattle.proof_tree.specs.Trees.{IsOfSize}
use Rattle.plain_slices.proofs.BitLaws.{sized_fits, sized_fits_negated, bits-negated}
use Rattle.plain_slices.proofs.NodeSteps.{narrow-pass, narrow-fix, narrow-fix_negative}
use Rattle.plain_slices.proofs.node.Node.narrow.Goals as goal

pub returns-in_default-clause-narrowed : goal.returns-in_default-clause-narrowed
returns-in_default-clause-narrowed c =
    let path = c.items.ensures in
    let form = c.items-2.ensures in
    narrow-pass c.args.self.now.rows.now c.args.self.now.path.now c.args.e c.index-items-e.result c.args.self.now.bounds.items c.args.self.now.sources.items c.requires.slice (rw path at c.index-items-e.is) c.requires.forms c.requires.narrowed (rw form at c.in_default.ensures.none)

pub returns-then-single-clause-narrowed : goal.returns-then-single-clause-narrowed
returns-then-single-clause-narrowed c =
    let path = c.items.ensures in
    let form = c.items-2.ensures in
    let rows = c.rows.ensures.count in
    let columns = c.columns.ensures.count in
    let is = rw path at c.index-items-e.is in
    let small : IsOfSize (2 ^ 98) c.index-items-e.result.beta = subst (λ (s : Slice). IsOfSize (2 ^ 98) s.beta) (sym is) (c.requires.values c.args.e c.index-items-e.result c.requires.slice) in
    narrow-fix_negative c.args.self.now.rows.now c.args.self.now.path.now c.args.e c.index-items-e.result c.in-Some.single.column c.args.self.now.bounds.items c.fix.new.self.bounds.items c.args.self.now.sources.items c.fix.new.self.sources.items _ _ _ c.requires.slice is c.requires.forms c.requires.values c.requires.narrowed (rw (form, c.if-single.true) at c.in-Some.ensures.some) (bits-negated c.index-items-e.result.beta (sized_fits _ small) (sized_fits_negated _ small)) (omega arith) (omega arith) c.fix.ensures.bounds c.fix.ensures.sources

pub returns-else-single-clause-narrowed : goal.returns-else-single-clause-narrowed
returns-else-single-clause-narrowed c =
    let path = c.items.ensures in
    let form = c.items-2.ensures in
    let rows = c.rows.ensures.count in
    let columns = c.columns.ensures.count in
    let is = rw path at c.index-items-e.is in
    let small : IsOfSize (2 ^ 98) c.index-items-e.result.beta = subst (λ (s : Slice). IsOfSize (2 ^ 98) s.beta) (sym is) (c.requires.values c.args.e c.index-items-e.result c.requires.slice) in
    narrow-fix c.args.self.now.rows.now c.args.self.now.path.now c.args.e c.index-items-e.result c.in-Some.single.column c.args.self.now.bounds.items c.fix-else-single.new.self.bounds.items c.args.self.now.sources.items c.fix-else-single.new.self.sources.items _ _ _ c.requires.slice is c.requires.forms c.requires.values c.requires.narrowed (rw (form, c.if-single.false) at c.in-Some.ensures.some) (to_z-of_z w128 c.index-items-e.result.beta (sized_fits _ small)) (omega arith) (omega arith) c.fix-else-single.ensures.bounds c.fix-else-single.ensures.sources
