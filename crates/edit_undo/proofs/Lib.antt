mod Words
mod Listing
mod Back
