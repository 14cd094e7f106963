mod Reading
mod Talking
mod Hinting
mod Reasoning
mod Ranging
mod Undoing
