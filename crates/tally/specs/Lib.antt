pub mod Energies
pub mod Tallies
pub mod Showings
pub mod Years
