use Rattle.int_model.proofs.ScaleLaws as laws
use Rattle.int_model.proofs.rounding.rounding_keeps_points.Goals as goal

pub returns : goal.returns
returns c = record {
  positive = laws.scale_pos;
  whole = laws.scaled-whole;
  primitive = laws.scaled-primitive;
  zeros = laws.scale_of_zeros;
  unique = laws.scale_unique;
  points = laws.points_kept;
  order = laws.scaled_order;
}
