pub mod Step
pub mod Joined
pub mod Partition
pub mod Text
pub mod Laws
