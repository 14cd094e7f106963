mod Working
mod Settling
