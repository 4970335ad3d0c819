mod DartSteps
mod EdgeSteps
mod ExitSteps
mod OrderedPaths
mod OrderSteps
mod OtherClasses
mod ReplyLaw
pub mod SecondGraphLaw
