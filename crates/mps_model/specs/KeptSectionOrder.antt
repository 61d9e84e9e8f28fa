-- What the reader keeps of the sections above: the last one, and which of RANGES and BOUNDS came.
use Rattle.std.specs.Prelude.{◌≡◌, Bool, true, ◌&&◌, List, [], ◌∷◌, ◌++◌, None}
use Rattle.std.specs.List.{list_any, last_or}
use Rattle.mps_model.specs.declared.lines.section.Section.{Section}
use Rattle.mps_model.specs.declared.lines.section.Section.TheVariants.{Ranges as RANGES, Bounds as BOUNDS}
use Rattle.mps_model.specs.declared.lines.section_order.Order.{Order}
use Rattle.mps_model.specs.SectionOrder.{is_same, is_in_order}

-- each of the sections is in order behind those before it, the first of them behind these
abbrev pub are_in_order : List Section → List Section → Bool
are_in_order above [] = true
are_in_order above (section ∷ sections) = is_in_order above section && are_in_order (above ++ section ∷ []) sections

-- the state tells what is needed of sections that are in order
pub record KeepsOrder (sections : List Section) (order : Order) : Type 0 where
  pub ordered : are_in_order [] sections ≡ true
  pub last : order.last ≡ last_or None sections
  pub ranges : order.has_ranges ≡ list_any (is_same RANGES) sections
  pub bounds : order.has_bounds ≡ list_any (is_same BOUNDS) sections
