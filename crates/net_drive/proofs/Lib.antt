-- first auxiliary moves, and which entry may come
pub mod Coming
-- driving, and that it is exact
pub mod Driving
pub mod Exactness
-- computed
mod Examples
-- entries that a network does again, and runs that go on after them
pub mod Onward
pub mod Redone
pub mod Refused
pub mod RunStrays
-- a net that is driven, and where a trace strays
pub mod DriveStrays
pub mod OnTheWay
pub mod Trying
