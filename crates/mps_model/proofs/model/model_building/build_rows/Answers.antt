use Rattle.std.proofs.Common.{◌≡◌, ◌≢◌, ◌+◌, ◌<◌, length, [], get_or, take, drop, map, filter, slice_get, None, false, refl, sym, ap, ◌∙◌, arith}
use Rattle.std.specs.Iterator.Adapters.{enumerate_source, enumerate_count}
use Rattle.mps_model.specs.declared.tables.factors.RowFactors.{RowFactors}
use Rattle.mps_model.specs.declared.tables.row_kind.RowKind.TheVariants.{Free}
use Rattle.mps_model.specs.Sides.{has_sides}
use Rattle.mps_model.specs.StatedModel.{stated_row}
use Rattle.mps_model.specs.RowKinds.{rows_of}
use Rattle.std.proofs.lemmas.List.{take_all}
use Rattle.mps_model.proofs.OnTables.RowTableLaws.{length-rows_of}
use Rattle.mps_model.proofs.OnLists.ListBuildingLaws as Laws
use Rattle.mps_model.proofs.OnModel.BuiltRowLaws as Rows
use Rattle.mps_model.proofs.model.model_building.build_rows.Goals as goal

pub loop-place-preserved-in-Continue-1 : goal.loop-place-preserved-in-Continue-1
loop-place-preserved-in-Continue-1 c =
    let steps = c.in-Some.ensures.steps in
    let place = c.in-Some.place in
    let t = Laws.turn (λ name. name.items) c.args.names (enumerate_count c.loop-place.place-iterator) c.in-Some.name (enumerate_source c.loop-place.place-iterator)
    (enumerate_source c.next.new.self) [] c.loop-place.invariant.left steps.0 in
    let next : enumerate_count c.next.new.self ≡ place + 1 = omega (arith, steps.1, steps.2) in
    let inside : place < length c.args.names = omega (arith, t.within, steps.1) in
    record {
      left = t.left ∙ ap (λ n. drop n c.args.names) (sym steps.2);
      kept = λ k d past.
          let other : k ≢ place = omega (arith, steps.1, steps.2) in
          c.take_items.ensures.others k d other ∙ c.loop-place.invariant.kept k d (omega (arith, steps.2));
      built = λ tables rows sides ranges items.
          let name = get_or c.args.names place [] in
          let kind = get_or c.args.kinds.now place Free in
          let at = Rows.row_at c.args.kinds.now c.args.names place Free c.requires.kinds inside in
          let stands = ap (λ rs. slice_get rs place) (sym rows) ∙ at in
          let passes = sym (c.has_sides.ensures name) ∙ c.if-has_sides.true in
          let none : RowFactors = record { last = None; is_stated = false; items = [] } in
          let have = c.take_items.ensures.items none
          ∙ ap (λ (found : RowFactors). found.items) (c.loop-place.invariant.kept place none (omega (arith, steps.1)))
          ∙ items place _ stands passes none in
          let row = Rows.row_is tables place kind name c.args.sides.now c.args.ranges.now c.number_or_zero.result c.number.result c.sides-lo.result _ stands sides ranges
          c.number_or_zero.ensures c.number.ensures (c.sides-lo.ensures name)
          (c.from_vec.ensures ∙ t.here ∙ ap (λ n. get_or c.args.names n []) (sym steps.1)) refl refl have in
          c.in_ok-push.ensures.ok
          ∙ Rows.taken has_sides (stated_row tables) (rows_of c.args.kinds.now c.args.names) place _ at c.loop-place.rows _ passes
          (c.loop-place.invariant.built tables rows sides ranges items
          ∙ ap (λ n. map (stated_row tables) (filter has_sides (take n (rows_of c.args.kinds.now c.args.names)))) (sym steps.1)) row
          ∙ ap (λ n. map (stated_row tables) (filter has_sides (take n (rows_of c.args.kinds.now c.args.names)))) (sym next);
    }

pub loop-place-preserved : goal.loop-place-preserved
loop-place-preserved c =
    let steps = c.in-Some.ensures.steps in
    let place = c.in-Some.place in
    let t = Laws.turn (λ name. name.items) c.args.names (enumerate_count c.loop-place.place-iterator) c.in-Some.name (enumerate_source c.loop-place.place-iterator)
    (enumerate_source c.next.new.self) [] c.loop-place.invariant.left steps.0 in
    let next : enumerate_count c.next.new.self ≡ place + 1 = omega (arith, steps.1, steps.2) in
    let inside : place < length c.args.names = omega (arith, t.within, steps.1) in
    record {
      left = t.left ∙ ap (λ n. drop n c.args.names) (sym steps.2);
      kept = λ k d past. c.loop-place.invariant.kept k d (omega (arith, steps.2));
      built = λ tables rows sides ranges items.
          Rows.passed_over has_sides (stated_row tables) (rows_of c.args.kinds.now c.args.names) place _
          (Rows.row_at c.args.kinds.now c.args.names place Free c.requires.kinds inside) c.loop-place.rows
          (sym (c.has_sides.ensures (get_or c.args.names place [])) ∙ c.if-has_sides.false)
          (c.loop-place.invariant.built tables rows sides ranges items
          ∙ ap (λ n. map (stated_row tables) (filter has_sides (take n (rows_of c.args.kinds.now c.args.names)))) (sym steps.1))
          ∙ ap (λ n. map (stated_row tables) (filter has_sides (take n (rows_of c.args.kinds.now c.args.names)))) (sym next);
    }

pub returns : goal.returns
returns c = λ tables rows sides ranges items.
    let i = enumerate_count c.loop-place.place-iterator in
    let end = Laws.none_left (λ name. name.items) c.args.names i (enumerate_source c.loop-place.place-iterator) c.loop-place.invariant.left c.in-None.ensures.steps.0.0 in
    c.loop-place.invariant.built tables rows sides ranges items
    ∙ ap (λ rs. map (stated_row tables) (filter has_sides rs))
    (take_all i (rows_of c.args.kinds.now c.args.names) (omega (arith, end, c.requires.kinds, length-rows_of c.args.kinds.now c.args.names c.requires.kinds)) ∙ rows)
