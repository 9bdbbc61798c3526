pub mod Arguments
pub mod WeaveKind
pub mod Rule
pub mod Plan
pub mod Weave
pub mod Steps
