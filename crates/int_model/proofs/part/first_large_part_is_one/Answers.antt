use Rattle.int_model.specs.FirstLargeLaws.{first_large_is_one}
use Rattle.int_model.proofs.LargePartLaws as laws
use Rattle.int_model.proofs.part.first_large_part_is_one.Goals as goal

pub returns : goal.returns
returns c = record {
  one = first_large_is_one;
  found = laws.large_found;
  light = laws.light_without_large;
}
