use Rattle.std.proofs.Common.{◌≡◌, map, sym, ap, subst, ◌∙◌, arith}
use Rattle.std.specs.List.{range_with_len}
use Rattle.mps_write.specs.PlainModels.{IsPlain}
use Rattle.mps_write.specs.Markets.{stream_at, market_row, market_column}
use Rattle.mps_write.proofs.MarketLaws.{stream_start, each_more, same_parts, market_is_plain}
use Rattle.mps_write.proofs.market_split.market.Goals as goal

pub loop-place-preserved : goal.loop-place-preserved
loop-place-preserved c =
    each_more market_column c.loop-place.place c.loop-place.all_columns c.push.new.self c.in_ok-market_column.field-0 c.loop-place.invariant c.in_ok-push.ensures.ok c.in_ok-market_column.ensures

pub loop-place-2-init : goal.loop-place-2-init
loop-place-2-init c = record {
  below = omega (arith, c.from.ensures, c.requires.start.1);
  at = c.from.ensures ∙ sym (ap (stream_at c.args.start) (omega arith) ∙ stream_start c.args.start);
  listed = c.new-all_rows.ensures;
}

pub loop-place-2-preserved : goal.loop-place-2-preserved
loop-place-2-preserved c =
    let is = c.loop-place-2.invariant.at in record {
      below = c.in_ok-market_row.ensures.below;
      at = c.in_ok-market_row.ensures.stream c.args.start is;
      listed = each_more (market_row c.args.start c.args.columns) c.loop-place-2.place c.loop-place-2.all_rows c.push-in-loop-place-2.new.self c.in_ok-market_row.field-0
          c.loop-place-2.invariant.listed c.in_ok-push-2.ensures.ok (c.in_ok-market_row.ensures.row c.args.start is);
    }

pub returns-clause-plain : goal.returns-clause-plain
returns-clause-plain c =
    let columns = subst (λ n. c.loop-place.all_columns ≡ map market_column (range_with_len 0 n)) (omega arith) c.loop-place.invariant in
    let rows = subst (λ n. c.loop-place-2.all_rows ≡ map (market_row c.args.start c.args.columns) (range_with_len 0 n)) (omega arith) c.loop-place-2.invariant.listed in
    subst IsPlain (sym (same_parts columns rows c.new.ensures c.whole.ensures)) (market_is_plain c.args.rows c.args.columns c.args.start c.requires.rows.1 c.requires.columns.1)
