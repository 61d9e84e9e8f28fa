-- What holds of a node as the code keeps it.
use Rattle.plain_slices.specs.declared.node.Node.{Node}
use Rattle.plain_slices.specs.Nodes.{IsNarrowed}

-- the box is narrowed by all slices of the path
abbrev pub IsNode : Node → Type 0
IsNode node = IsNarrowed node.rows.now node.path.now node.path.now node.bounds.items node.sources.items
