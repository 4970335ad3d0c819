mod DirectionLaws
mod LabelLaws
mod TableLaws
mod DivisionLaws
mod Liveness
mod FamilyTies
mod TableSteps
pub mod SupportTies
pub mod StepTies
pub mod CircuitTies
pub mod TransitTies
pub mod PacedTies
pub mod CrossingTies
pub mod LastTies
pub mod PairsApart
pub mod TurnFacts
pub mod TurnTies
pub mod ClassTies
pub mod TripleTies
pub mod MissedTies
pub mod GrowthTies
pub mod LargeTies
pub mod FittingSets
pub mod SpreadParts
pub mod SpreadTies
