pub mod Tables
pub mod TableLaws
pub mod Lending
pub mod Multiples
pub mod Maps
pub mod MapLaws
pub mod Stops
