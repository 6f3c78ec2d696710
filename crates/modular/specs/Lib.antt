-- Definitions of the tests that answer more than yes or no.
pub mod Divisor
pub mod FirstFailing
