pub mod SliceNodes
