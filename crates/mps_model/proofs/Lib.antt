pub mod OnLists
pub mod OnLines
pub mod OnTables
pub mod OnModel
pub mod OnTexts
