-- Laws on whole texts: their one meaning, and its scan by the reader.
pub mod MeaningLaws
pub mod ReaderScanLaws
pub mod ReaderLineLaws
