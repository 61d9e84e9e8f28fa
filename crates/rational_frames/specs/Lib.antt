pub mod RationalFrames
pub mod RationalFrameLaws
