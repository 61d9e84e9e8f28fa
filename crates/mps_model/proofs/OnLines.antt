-- Laws on the lines of a text: their kinds, fields, sections and faults.
pub mod FixedAsFreeFieldLaws
pub mod FixedAsFreeLineLaws
pub mod FixedAsFreeTextLaws
pub mod LineKindLaws
pub mod FieldTextLaws
pub mod SectionOrderLaws
pub mod FaultRuleLaws
pub mod JudgingCallLaws
