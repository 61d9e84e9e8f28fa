-- Laws on the tables of a text: what they keep, section by section, as lines are taken.
pub mod BegunSectionLaws
pub mod TakenLineLaws
pub mod FinishedTableLaws
pub mod RowTableLaws
pub mod PairLaws
pub mod SideTableLaws
pub mod RangeTableLaws
pub mod SumRangeLaws
pub mod BoundTableLaws
pub mod ColumnItemLaws
pub mod ColumnTableLaws
pub mod FactorTableLaws
pub mod ColumnLineFaultLaws
