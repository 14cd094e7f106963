pub mod Numbers
pub mod Components
pub mod Queues
pub mod Reports
pub mod Commands
