mod OneMore
mod NamedMissing
mod GrownLacks
pub mod InGroups
mod NextList
mod Taking
mod Releases
mod ShorterGroups
mod Regrouped
mod Counted
mod PutInPlace
mod Orders
mod SideBySide
pub mod OpenFetches
