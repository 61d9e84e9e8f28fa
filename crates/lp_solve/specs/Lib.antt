pub mod Rule
pub mod Steps
pub mod Values
pub mod Certificates
pub mod Outcomes
pub mod Endings
pub mod Ended
