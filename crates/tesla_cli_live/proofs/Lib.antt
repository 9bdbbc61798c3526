pub mod Allowing
mod Named
