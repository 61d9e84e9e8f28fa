pub mod FoundPoints
