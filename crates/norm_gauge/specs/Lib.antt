pub mod Widths
pub mod PairSystems
pub mod PairTables
pub mod PairTableLaws
pub mod Gauges
pub mod PairLaws
