-- Definitions of numbers that the protocol's definitions use.
pub mod Search
pub mod Divisors
pub mod Gcd
pub mod Congruence
pub mod Inverse
pub mod Integer
pub mod Product
pub mod Bits
