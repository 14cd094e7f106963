-- Proofs that `specs/GridLaws.antt` cites. Nothing in them needs believing.
pub mod Ends
pub mod Traffic
pub mod Reading
pub mod Readers
pub mod Starts
pub mod Grid
pub mod Words
