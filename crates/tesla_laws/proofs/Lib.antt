mod Timely
mod Completing
mod InStep
mod Takes
mod Rolling
