pub mod Below
pub mod Firsts
pub mod Heights
pub mod Lines
pub mod Printing
pub mod Reports
pub mod Rows
