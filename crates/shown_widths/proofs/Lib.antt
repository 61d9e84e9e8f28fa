mod ColumnLaws
mod DirectionLaws
mod LimitLaws
mod OneCoordinateLaws
mod QuotientLaws
mod ShownLaws
mod SideLaws
mod SlackLaws
