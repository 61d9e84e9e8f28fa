use Rattle.std.proofs.Common.{rules, ◌≡◌, ◌<◌, ◌≤◌, ℤ, length, map, SFits, sym, ap, subst, ◌∙◌, arith, All, to_z-of_z}
use Rattle.std.specs.Int.{w128}
use Rattle.std.specs.Prelude.{is_some}
use Rattle.std.proofs.lemmas.List.{length-map, take_all}
use Rattle.std.proofs.lemmas.List.Elements.{All-more, All-push}
use Rattle.frac128.specs.Range.{IsNarrow}
use Rattle.spaces.specs.TableLaws.{length-with_row}
use Rattle.farkas_rows.specs.Inequalities.{Inequality}
use Rattle.farkas_lift.specs.NodeSides.{inequality_of, node_sides}
use Rattle.farkas_lift.specs.NodeSystem.{node_system, pulled, cut_of, LimitFits, SideStays, SystemStays}
use Rattle.farkas_lift.specs.declared.side.NodeSide.{NodeSide}
use Rattle.farkas_lift.proofs.GridSteps.{row_more, rows_all}
use Rattle.farkas_lift.proofs.SystemSteps.{handed_on, stops-weaker, with_row-All, system_row, system_limit, at_side, all_sides}
use Rattle.farkas_lift.proofs.system.kernel_system.Goals as goal

pub returns-in_err-side-clause-stop : goal.returns-in_err-side-clause-stop
returns-in_err-side-clause-stop c =
    let P : ℤ → NodeSide → Type 0 = λ v side. LimitFits c.args.rows.now v side × SideStays c.args.frame.now.to_work (inequality_of c.args.rows.now v side) in
    let fv : SFits w128 c.unwrap_or-value.result = search rules in
    let value : c.unwrap_or-value.result ≡ cut_of c.args.cut = c.unwrap_or-value.ensures in
    let sides : c.in_ok-sides.sides.items ≡ node_sides c.args.rows.now (is_some c.args.cut) = c.in_ok-sides.ensures.value ∙ ap (node_sides c.args.rows.now) c.is_some.ensures in
    let inside : c.loop-k.k < length c.in_ok-sides.sides.items = omega (arith, c.len-k-end.ensures, c.loop-k-test.true, c.in_ok-sides.sides.ok.0) in
    let Here : Type 0 = LimitFits c.args.rows.now c.unwrap_or-value.result c.index.result.now × SideStays c.args.frame.now.to_work (inequality_of c.args.rows.now c.unwrap_or-value.result c.index.result.now) in
    handed_on c.from_residual-in_err-side.result c.in_err-side.field-0.0 (SystemStays c.args.frame.now c.args.rows.now c.args.cut) c.from_residual-in_err-side.ensures.1
    (stops-weaker Here (SystemStays c.args.frame.now c.args.rows.now c.args.cut) c.in_err-side.field-0.0 (λ all. at_side P c.unwrap_or-value.result (cut_of c.args.cut) c.in_ok-sides.sides.items (node_sides c.args.rows.now (is_some c.args.cut)) c.loop-k.k value sides c.index.result.now inside c.index.ensures all) (simp to_z-of_z at c.in_err-side.ensures.stop))

pub loop-k-preserved : goal.loop-k-preserved
loop-k-preserved c =
    let inv = c.loop-k.invariant in
    let k = c.loop-k.k in
    let row = c.copy_from_slice.new.self in
    let g = λ (side : NodeSide). pulled c.args.frame.now.to_work (inequality_of c.args.rows.now (cut_of c.args.cut) side) in
    let P = λ (side : NodeSide). LimitFits c.args.rows.now c.unwrap_or-value.result side × SideStays c.args.frame.now.to_work (inequality_of c.args.rows.now c.unwrap_or-value.result side) in
    let fv : SFits w128 c.unwrap_or-value.result = search rules in
    let fl : SFits w128 c.in_ok-side.side.limit = search rules in
    let value : c.unwrap_or-value.result ≡ cut_of c.args.cut = c.unwrap_or-value.ensures in
    let sides : c.in_ok-sides.sides.items ≡ node_sides c.args.rows.now (is_some c.args.cut) = c.in_ok-sides.ensures.value ∙ ap (node_sides c.args.rows.now) c.is_some.ensures in
    let inside : c.loop-k.k < length c.in_ok-sides.sides.items = omega (arith, c.len-k-end.ensures, c.loop-k-test.true, c.in_ok-sides.sides.ok.0) in
    let told = simp to_z-of_z at c.in_ok-side.ensures in
    let had = simp to_z-of_z at inv.stays in
    let pushed = simp to_z-of_z at c.in_ok-push.ensures.items in
    let below : c.loop-k.k < c.loop-k.grid.rows = omega (arith, c.loop-k-test.true, inv.height) in
    let after = c.copy_from_slice.ensures.after ∙ c.items.ensures in
    let long = ap length after ∙ told.width ∙ sym inv.width in
    let form = told.form ∙ ap (λ v. (pulled c.args.frame.now.to_work (inequality_of c.args.rows.now v c.index.result.now)).factors) value in
    let limit = told.limit ∙ ap (λ v. (pulled c.args.frame.now.to_work (inequality_of c.args.rows.now v c.index.result.now)).limit) value in
    let same : map g c.in_ok-sides.sides.items ≡ node_system c.args.frame.now c.args.rows.now c.args.cut = ap (map g) sides in
    record {
      height = inv.height;
      width = inv.width;
      size = length-with_row c.loop-k.grid k row inv.size below long;
      done = row_more c.loop-k.grid (map (λ (inequality : Inequality). inequality.factors) (node_system c.args.frame.now c.args.rows.now c.args.cut)) k row inv.size below long
          (after ∙ form ∙ system_row g c.in_ok-sides.sides.items (node_system c.args.frame.now c.args.rows.now c.args.cut) same k c.index.result.now inside c.index.ensures) inv.done;
      limits = system_limit g c.in_ok-sides.sides.items (node_system c.args.frame.now c.args.rows.now c.args.cut) same k c.index.result.now inside c.index.ensures c.in_ok-side.side.limit c.loop-k.limits.items c.push.new.self.items limit inv.limits pushed;
      narrow = subst (All IsNarrow) (sym pushed) (All-push IsNarrow c.loop-k.limits.items c.in_ok-side.side.limit inv.narrow (subst IsNarrow (sym told.limit) told.in_range.1.limit));
      narrow_items = with_row-All IsNarrow c.loop-k.grid k row inv.narrow_items (subst (All IsNarrow) (sym (after ∙ told.form)) told.in_range.1.factors);
      stays = simp to_z-of_z (All-more P c.in_ok-sides.sides.items k c.index.result.now inside had (subst P c.index.ensures told.in_range));
    }

pub returns-clause-system : goal.returns-clause-system
returns-clause-system c =
    let inv = c.loop-k.invariant in
    let g = λ (side : NodeSide). pulled c.args.frame.now.to_work (inequality_of c.args.rows.now (cut_of c.args.cut) side) in
    let system = node_system c.args.frame.now c.args.rows.now c.args.cut in
    let sides : c.in_ok-sides.sides.items ≡ node_sides c.args.rows.now (is_some c.args.cut) = c.in_ok-sides.ensures.value ∙ ap (node_sides c.args.rows.now) c.is_some.ensures in
    let past : length c.in_ok-sides.sides.items ≤ c.loop-k.k = omega (arith, c.len-k-end.ensures, c.loop-k-test.false, c.in_ok-sides.sides.ok.0) in
    let many : length (node_system c.args.frame.now c.args.rows.now c.args.cut) ≡ length c.in_ok-sides.sides.items = length-map (node_sides c.args.rows.now (is_some c.args.cut)) g ∙ ap length (sym sides) in
    record {
      height = inv.height ∙ sym many;
      width = inv.width;
      size = inv.size;
      rows = rows_all c.loop-k.grid (map (λ (inequality : Inequality). inequality.factors) system) c.loop-k.k (length-map system (λ (inequality : Inequality). inequality.factors) ∙ many ∙ sym inv.height) (omega (arith, past, inv.height)) inv.done;
      limits = c.from_vec.ensures ∙ inv.limits ∙ take_all c.loop-k.k (map (λ (inequality : Inequality). inequality.limit) system) (omega (arith, past, many, length-map system (λ (inequality : Inequality). inequality.limit)));
    }

pub returns-clause-narrow_rows : goal.returns-clause-narrow_rows
returns-clause-narrow_rows c = c.loop-k.invariant.narrow_items

pub returns-clause-in_range : goal.returns-clause-in_range
returns-clause-in_range c =
    let P : ℤ → NodeSide → Type 0 = λ v side. LimitFits c.args.rows.now v side × SideStays c.args.frame.now.to_work (inequality_of c.args.rows.now v side) in
    let fv : SFits w128 c.unwrap_or-value.result = search rules in
    let value : c.unwrap_or-value.result ≡ cut_of c.args.cut = c.unwrap_or-value.ensures in
    let sides : c.in_ok-sides.sides.items ≡ node_sides c.args.rows.now (is_some c.args.cut) = c.in_ok-sides.ensures.value ∙ ap (node_sides c.args.rows.now) c.is_some.ensures in
    let past : length c.in_ok-sides.sides.items ≤ c.loop-k.k = omega (arith, c.len-k-end.ensures, c.loop-k-test.false, c.in_ok-sides.sides.ok.0) in
    all_sides P c.unwrap_or-value.result (cut_of c.args.cut) c.in_ok-sides.sides.items (node_sides c.args.rows.now (is_some c.args.cut)) c.loop-k.k value sides past (simp to_z-of_z at c.loop-k.invariant.stays)
