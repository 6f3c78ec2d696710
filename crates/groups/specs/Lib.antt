-- Definitions of commutative groups, their powers and n-fold products, homomorphisms and Maurer's transcripts.
pub mod Group
pub mod Homomorphism
pub mod Vector
pub mod Transcript
