use Rattle.std.proofs.Common.{◌≡◌, ◌+◌, ◌*◌, ◌%◌, ◌++◌, ℕ, sym, ap, ◌∙◌, arith}
use Rattle.std.specs.Prelude.{option_to_list}
use Rattle.mps_write.specs.Markets.{next_number, stream_at, market_factor, market_item}
use Rattle.mps_write.proofs.MarketLaws.{stream_next, sum_more, items_more}
use Rattle.mps_write.proofs.market_split.market_row.Goals as goal

pub loop-column-preserved : goal.loop-column-preserved
loop-column-preserved c =
    let column = c.loop-column.column in
    let place = c.args.place * c.args.columns + column in
    let moved : (start : ℕ) → c.args.stream.now.number ≡ stream_at start (c.args.place * c.args.columns) → c.next_factor-factor.new.self.number ≡ stream_at start (place + 1) =
    λ start is. c.next_factor-factor.ensures.number ∙ ap next_number (c.loop-column.invariant.at start is) ∙ sym (stream_next start place)
    in
    let drawn : (start : ℕ) → c.args.stream.now.number ≡ stream_at start (c.args.place * c.args.columns) → c.next_factor-factor.result ≡ market_factor start c.args.columns c.args.place column =
    λ start is. c.next_factor-factor.ensures.factor ∙ ap (λ number. number % 100) (moved start is)
    in
    record {
      below = omega (arith, c.next_factor-factor.ensures.number);
      small = omega (arith, c.next_factor-factor.ensures.factor, c.loop-column.invariant.small);
      at = λ start is. moved start is ∙ ap (stream_at start) (omega arith);
      summed = λ start is.
          ap (λ factor. c.loop-column.sum + factor) (drawn start is) ∙ sum_more (market_factor start c.args.columns c.args.place) column c.loop-column.sum (c.loop-column.invariant.summed start is);
      listed = λ start is.
          items_more (λ column. market_item (market_factor start c.args.columns c.args.place column) column) column c.loop-column.items _ (c.loop-column.invariant.listed start is)
          (c.in_ok-push_item.ensures ∙ ap (λ factor. c.loop-column.items ++ option_to_list (market_item factor column)) (drawn start is));
    }
