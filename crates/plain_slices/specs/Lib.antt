pub mod Items
pub mod Shut
pub mod Nodes
pub mod Sides
pub mod NodeViews
pub mod PlainMoves
