mod BrancherLaws
mod DimensionLaws
mod FramedLaws
mod PlaceLaws
mod PlainLaws
mod PlainPlaceLaws
mod ShownLaws
