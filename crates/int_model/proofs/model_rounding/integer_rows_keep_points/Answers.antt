use Rattle.int_model.proofs.PointLaws as laws
use Rattle.int_model.proofs.model_rounding.integer_rows_keep_points.Goals as goal

pub returns : goal.returns
returns c = record {
  points = laws.points_meet_rows;
  values = laws.values_kept;
  order = laws.values_ordered;
  best = laws.best_has_least;
}
