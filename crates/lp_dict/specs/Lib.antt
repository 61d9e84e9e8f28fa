pub mod Systems
pub mod Sizes
pub mod Shapes
pub mod Dictionaries
pub mod Pivots
pub mod RowLaws
pub mod PivotLaws
