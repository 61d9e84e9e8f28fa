pub mod RationalExamples
pub mod RingIdentities
