mod FlatLemmas
mod SumLemmas
mod WholeRowLemmas
mod EndLemmas
