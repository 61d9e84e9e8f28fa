use Rattle.std.proofs.Common.{◌+◌, ◌*◌, ◌<◌, ◌^◌, length, ap, sym, subst, arith}
use Rattle.std.specs.Int.{w128}
use Rattle.std.proofs.lemmas.Int.{to_z-of_z}
use Rattle.farkas_rows.specs.declared.path.Slice.{Slice}
use Rattle.proof_tree.specs.Trees.{IsOfSize}
use Rattle.plain_slices.proofs.BitLaws.{sized_fits}
use Rattle.plain_slices.proofs.HasSideLaws.{slice-sides}
use Rattle.plain_slices.proofs.node.Node.line_of_slices.Goals as goal

pub line_out_of_reach-requires-clause-sides : goal.line_out_of_reach-requires-clause-sides
line_out_of_reach-requires-clause-sides c =
    let path = c.items-path.ensures in
    let rows = c.rows.ensures.count in
    let columns = c.columns.ensures.count in
    let slice = c.index-path-e.result in
    let is = rw path at c.index-path-e.is in
    let within : c.loop-e.e < length c.args.self.now.path.now = omega (arith, ap length path) in
    let small : IsOfSize (2 ^ 98) slice.beta = subst (λ (s : Slice). IsOfSize (2 ^ 98) s.beta) (sym is) (c.requires.path.values c.loop-e.e slice within) in
    rw (c.items-form.ensures, to_z-of_z w128 slice.beta (sized_fits slice.beta small)) (slice-sides c.args.self.now.rows.now c.args.self.now.path.now c.loop-e.e (2 * (c.rows.result + c.columns.result + c.loop-e.e)) slice c.requires.path within is (omega arith))
