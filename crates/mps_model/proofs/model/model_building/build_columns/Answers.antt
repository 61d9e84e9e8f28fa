use Rattle.std.proofs.Common.{◌<◌, [], length, get_or, take, drop, map, None, Some, sym, ap, ◌∙◌, arith}
use Rattle.std.specs.Prelude.{unwrap_or}
use Rattle.std.specs.Option.{option_or}
use Rattle.mps_model.specs.Sides.{zero_ℚ}
use Rattle.std.specs.Iterator.Adapters.{enumerate_source, enumerate_count}
use Rattle.mps_model.specs.KeptBounds.{said_of}
use Rattle.mps_model.specs.StatedModel.{stated_column}
use Rattle.mps_model.proofs.OnLists.ListBuildingLaws as Laws
use Rattle.mps_model.proofs.model.model_building.build_columns.Goals as goal

pub loop-place-init : goal.loop-place-init
loop-place-init c =
    let begun = c.into_iter-place-iterator.ensures.into_iter_gives in
    let source = ap (λ it. it.iter) begun ∙ c.enumerate-place-items.ensures.source in
    let count = ap (λ it. it.count) begun ∙ c.enumerate-place-items.ensures.count in
    record {
      left = ap (map (λ name. name.items)) source ∙ c.into_items.ensures.items ∙ ap (λ n. drop n c.args.names) (sym count);
      built = λ tables upper named keeps gives.
          c.from_vec-columns.ensures ∙ c.in_ok-with_capacity.ensures.items ∙ ap (λ n. map (stated_column upper tables) (take n c.args.names)) (sym count);
    }

pub loop-place-preserved : goal.loop-place-preserved
loop-place-preserved c =
    let steps = c.in-Some.ensures.steps in
    let i = enumerate_count c.loop-place.place-iterator in
    let t = Laws.turn (λ name. name.items) c.args.names i c.in-Some.name (enumerate_source c.loop-place.place-iterator) (enumerate_source c.next.new.self) []
    c.loop-place.invariant.left steps.0 in
    record {
      left = t.left ∙ ap (λ n. drop n c.args.names) (sym steps.2);
      built = λ tables upper named keeps gives.
          let inside : c.in-Some.place < length c.args.names = omega (arith, t.within, steps.1) in
          let said = c.of-said.ensures c.args.names tables.bounds keeps inside ∙ ap (λ n. said_of tables.bounds (get_or c.args.names n [])) steps.1 in
          let lo = c.unwrap_or.ensures ∙ ap (λ o. unwrap_or o c.whole.result) c.lower_side-lower.ensures ∙ ap (unwrap_or (unwrap_or c.of-said.result.lower (Some zero_ℚ))) c.whole.ensures in
          let hi = c.unwrap_or-in-loop-place.ensures ∙ ap (λ o. unwrap_or o c.whole-in-loop-place.result) c.upper_side-upper.ensures ∙ ap (unwrap_or (option_or (unwrap_or c.of-said.result.upper None) c.args.given.now)) c.whole-in-loop-place.ensures in
          let column = Laws.column_is tables upper (get_or c.args.names i []) c.of-said.result c.args.given.now _ said gives (c.from_vec.ensures ∙ t.here) lo hi in
          c.in_ok-push.ensures.ok
          ∙ Laws.built_more (stated_column upper tables) c.args.names i [] c.loop-place.columns _ t.within (c.loop-place.invariant.built tables upper named keeps gives) column
          ∙ ap (λ n. map (stated_column upper tables) (take n c.args.names)) (sym steps.2);
    }

pub returns : goal.returns
returns c = λ tables upper named keeps gives.
    let i = enumerate_count c.loop-place.place-iterator in
    c.loop-place.invariant.built tables upper named keeps gives
    ∙ ap (map (stated_column upper tables)) (Laws.all_taken (λ name. name.items) c.args.names i (enumerate_source c.loop-place.place-iterator) c.loop-place.invariant.left c.in-None.ensures.steps.0.0)
    ∙ ap (map (stated_column upper tables)) named
