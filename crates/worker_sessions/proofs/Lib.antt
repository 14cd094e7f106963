mod Seats
mod Openings
