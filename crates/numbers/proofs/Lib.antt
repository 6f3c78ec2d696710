-- Laws of numbers, by topic.
pub mod Search
pub mod Listed
pub mod Congruence
pub mod Powers
pub mod Difference
pub mod Divisors
pub mod Gcd
pub mod Inverse
pub mod Product
pub mod Bits
pub mod Integer
pub mod Coprime
pub mod Exponent
