-- The rule trim_fork: its graphs can be made, it is sound, and what an instance is.
pub mod FedBy
pub mod OtherPorts
pub mod TrimSides
pub mod TrimInstances
