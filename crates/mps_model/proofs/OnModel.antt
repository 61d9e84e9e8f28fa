-- Laws on the model that tables state, and on the faults of its columns.
pub mod BuiltItemLaws
pub mod BuiltRowLaws
pub mod ModelLimitLaws
pub mod StatedRowLaws
pub mod ColumnJudgementLaws
pub mod FaultlessColumnLaws
pub mod RangedSideLaws
