mod Listed
mod Heads
mod Shown
mod Settled
mod Performed
mod Lists
