mod Spelled
mod Listed
mod Opened
mod Held
mod Steps
mod Ended
mod Mailed
mod Behind
mod Fed
mod Performed
pub mod Due
mod Told
mod Noted
mod Numbers
