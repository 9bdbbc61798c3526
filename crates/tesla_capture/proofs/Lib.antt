pub mod Causes
pub mod OutlineStep
pub mod Taken
pub mod OutlineIs
pub mod StepGiven
pub mod Gathered
