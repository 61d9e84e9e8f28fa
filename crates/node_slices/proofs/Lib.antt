mod FrameCharts
mod LightSums
mod NodeForms
mod PrimitiveForms
mod ReachLaws
mod SliceLaws
mod SlicedNodes
