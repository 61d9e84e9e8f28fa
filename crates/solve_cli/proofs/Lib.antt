pub mod CountLaws
mod NumberSpelling
pub mod SpellLaws
pub mod WordLaws
pub mod PointLaws
pub mod TakeLaws
pub mod InputLaws
pub mod PutLaws
pub mod AnswerLaws
pub mod SolveLaws
pub mod MadeLaws
pub mod VerdictLaws
pub mod HeadlineLaws
pub mod FoundLaws
pub mod CheckLaws
