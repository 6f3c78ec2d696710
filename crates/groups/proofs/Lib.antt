-- Laws of groups, their powers and homomorphisms; extraction and simulation of Maurer's round; vectors.
pub mod Groups
pub mod Powers
pub mod Products
pub mod Extraction
pub mod Simulation
pub mod Vectors
pub mod Rows
pub mod Determined
