mod Giving
mod Awaiting
mod Ends
