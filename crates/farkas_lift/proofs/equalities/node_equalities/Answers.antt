use Rattle.std.proofs.Common.{ap, ◌≡◌, length, sym, subst, ◌∙◌, arith, All, map, take, length-append}
use Rattle.std.proofs.lemmas.List.Elements.{All-push}
use Rattle.std.proofs.lemmas.List.{append-nil, length-map, length-take}
use Rattle.whole_rows.specs.WholeRows.{row_at}
use Rattle.reformulate.specs.declared.equality.Equality.{Equality}
use Rattle.farkas_lift.specs.Joined.{joined}
use Rattle.farkas_lift.specs.NodeEqualities.{row_equality, work_slice}
use Rattle.farkas_lift.proofs.JoinedLaws.{next_alone, last_alone, next_image}
use Rattle.farkas_lift.proofs.SideLaws.{row_equalities-few}
use Rattle.farkas_lift.proofs.equalities.node_equalities.Goals as goal

pub loop-i-preserved : goal.loop-i-preserved
loop-i-preserved c = record {
  value = next_alone (λ i. row_equality (row_at c.args.rows.now.rows i)) c.loop-i.i _ _ c.loop-i.invariant.value c.in_ok-push_row.ensures.value;
  dense = c.in_ok-push_row.ensures.dense;
}

pub loop-slice-init : goal.loop-slice-init
loop-slice-init c = record {
  value = last_alone (λ i. row_equality (row_at c.args.rows.now.rows i)) c.loop-i.i (length c.args.rows.now.rows.rows) _ (omega (arith, c.rows-i-end.ensures.count, c.loop-i-test.false, c.loop-i.auto.i-end)) c.loop-i.invariant.value ∙ sym (append-nil _);
  dense = c.loop-i.invariant.dense;
}

pub loop-slice-preserved : goal.loop-slice-preserved
loop-slice-preserved c = record {
  value = next_image (work_slice c.args.rows.now) (joined (λ i. row_equality (row_at c.args.rows.now.rows i)) (length c.args.rows.now.rows.rows)) c.items-slice-items.result.now c.loop-slice.slice-index c.slice-item.result c.in_ok-over_work.field-0 _ _ c.loop-slice-test.true c.slice-item.is c.loop-slice.invariant.value c.in_ok-over_work.ensures.value c.in_ok-push.ensures.ok;
  dense = subst (All (λ (equality : Equality). length equality.form ≡ length c.args.rows.now.rows.box)) (sym c.in_ok-push.ensures.ok) (All-push (λ (equality : Equality). length equality.form ≡ length c.args.rows.now.rows.box) _ _ c.loop-slice.invariant.dense c.in_ok-over_work.ensures.dense);
}

pub returns-clause-few : goal.returns-clause-few
returns-clause-few c =
    let rows = c.args.rows.now in
    let path = c.items-slice-items.result.now in
    omega (
      arith,
      ap length c.loop-slice.invariant.value,
      length-append (joined (λ i. row_equality (row_at rows.rows i)) (length rows.rows.rows)) (map (work_slice rows) (take c.loop-slice.slice-index path)),
      length-map (take c.loop-slice.slice-index path) (work_slice rows),
      length-take c.loop-slice.slice-index path,
      ap length c.items-slice-items.ensures,
      row_equalities-few rows,
      c.rows-i-end.ensures.few,
      c.rows-i-end.ensures.count,
    )
