use Rattle.std.proofs.Common.{◌≡◌, ◌+◌, ◌*◌, ◌<◌, ◌≤◌, ℕ, map, filter_map}
use Rattle.std.specs.Prelude.{sum}
use Rattle.std.specs.List.{range_with_len}
use Rattle.mps_write.specs.Markets.{stream_at, market_factor, market_item}
use Rattle.mps_write.proofs.market_split.market_row.Given as goal

-- the numbers so far are those of the stream, which is at the next one
abbrev pub invariant-loop-column : goal.invariant-loop-column
invariant-loop-column l = record {
  below : l.stream.number < 2147483647;
  small : l.sum ≤ 99 * l.column;
  at : (start : ℕ) → l.fn.stream.number ≡ stream_at start (l.place * l.columns) → l.stream.number ≡ stream_at start (l.place * l.columns + l.column);
  summed : (start : ℕ) → l.fn.stream.number ≡ stream_at start (l.place * l.columns) → l.sum ≡ sum (map (market_factor start l.columns l.place) (range_with_len 0 l.column));
  listed : (start : ℕ) → l.fn.stream.number ≡ stream_at start (l.place * l.columns)
      → l.items ≡ filter_map (λ column. market_item (market_factor start l.columns l.place column) column) (range_with_len 0 l.column);
}
