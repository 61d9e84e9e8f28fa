use Rattle.std.proofs.Common.{None}
use Rattle.plain_slices.specs.Items.{named_by, IsApartFrom, IsBalanced}
use Rattle.plain_slices.specs.Sides.{side_form}
use Rattle.plain_slices.proofs.node.Node.balance.Given as goal

abbrev pub invariant-loop-column : goal.invariant-loop-column
invariant-loop-column l = record {
  balanced : IsBalanced l.self.rows.now l.self.path.now l.self.bounds.items (side_form l.side l.form) l.column l.initial.items.items l.items.items;
  apart : IsApartFrom (named_by l.self.rows.now l.self.path.now None) l.column (side_form l.side l.form) l.items.items;
}
