pub mod SideLemmas
pub mod NumberLemmas
pub mod LineLemmas
pub mod RatioLemmas
pub mod LeastLemmas
pub mod LeastLineLemmas
pub mod LeastRatioLemmas
