mod Counted
mod Mailed
mod Outcomes
mod Performed
mod Permitted
mod Steps
