mod Defaults
mod Holding
mod Starting
mod Taking
