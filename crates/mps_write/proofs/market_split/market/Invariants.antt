use Rattle.std.proofs.Common.{◌≡◌, ◌*◌, ◌<◌, map}
use Rattle.std.specs.List.{range_with_len}
use Rattle.mps_write.specs.Markets.{stream_at, market_row, market_column}
use Rattle.mps_write.proofs.market_split.market.Given as goal

-- the columns so far
abbrev pub invariant-loop-place : goal.invariant-loop-place
invariant-loop-place l = l.all_columns ≡ map market_column (range_with_len 0 l.place)

-- the rows so far, with the stream before the next one
abbrev pub invariant-loop-place-2 : goal.invariant-loop-place-2
invariant-loop-place-2 l = record {
  below : l.stream.number < 2147483647;
  at : l.stream.number ≡ stream_at l.start (l.place * l.columns);
  listed : l.all_rows ≡ map (market_row l.start l.columns) (range_with_len 0 l.place);
}
