-- Laws on plain lists: first items, distinct names, and the places of names.
pub mod ListBuildingLaws
pub mod NamePlaceLaws
