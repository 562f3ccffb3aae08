pub mod Hops
